-- How many numbers the table of a superframe has: four for each row, as many rows as theorem 3 counts.
use Rattle.std.specs.Prelude.{◌≡◌, ◌*◌, length}
use Rattle.std.proofs.Common.{arith}
use Rattle.model.specs.{declared.kinds.FlowSet.{FlowSet}, Sets.{used}}
use Rattle.document.specs.Superframe.{superframe, flat}
use Rattle.laws.specs.FlatRows.{flat_length}
use Rattle.promise.specs.Repeated.{row_count}
use Rattle.promise.proofs.EveryTable.{repeats}
use Rattle.promise.specs.LoadedCalls.{Loadable}

pub numbers_counted : (s : FlowSet) → Loadable (used s) → 4 * row_count (used s) ≡ length (flat (superframe (used s)))
numbers_counted s l =
    let r = repeats s l.accepted in
    let short = l.short in
    let n = r.length l.from_zero l.admitted (omega arith) in
    omega (arith, flat_length (superframe (used s)) (r.shape (omega arith)).four)
