use mathlib.Core.Path.{◌≡◌, refl, ◌∙◌}
use Prim.Native.Nat.{ℕ, ◌≤◌, zero-le}
use mathlib.Core.List.{List}
use Rattle.std.proofs.Common.{add-zero}
use native.Mathlib.Omega.{arith}
use lib.ListN.{length, take}
use Rattle.std.proofs.lemmas.List.Edits.{sets}
use Rattle.document.specs.Superframe.{flat}
use Rattle.machine.specs.RunSoFar.{counts_of}
use Rattle.machine.specs.RowsPut.{rows_by, all_put, no_rows, rows_fit, rows_if_put, rows_more_law}
use borrow.Author.Rules.{rules}
use Rattle.machine.proofs.runs.run_all_slots.Goals as goal
use Rattle.machine.proofs.runs.run_all_slots.Goals.{After-put_rows-at}

-- the rows put are those of slot t
rows_on : (c : After-put_rows-at)
    → c.put_rows-at.new.table
    ≡ sets c.loop-t.table c.loop-t.at (flat (rows_by c.loop-t.t c.run_slot.new.run.packets.sent 0 (take c.rows_of-rows.result c.run_slot.new.placed.flows)))
rows_on c = c.put_rows-at.ensures.rows

-- of no placed flow no row is put
none_put : (t : ℕ) (counts chosen table : List ℕ) (at : ℕ) → table ≡ sets table at (flat (rows_by t counts 0 (take 0 chosen)))
unfolding rows_by flat
none_put t counts chosen table at = refl

pub loop-t-init : goal.loop-t-init
loop-t-init c = (c.requires.slots_le_last_slot.1, (λ s fault u. u), (λ e s fault u. no_rows _ s _), search rules, search rules, refl, zero-le)

pub put_rows-at-requires : goal.put_rows-at-requires
put_rows-at-requires c =
    let v = c.loop-t in
    let h = v.invariant in
    let l = c.loop-t-test.true in
    let n = h.0.run_so_far in
    let e = c.in-Some.ensures in
    rows_if_put _ _ _ _ _ _ (e _ _ h.0.counts n).1 n.set_numbers.good_set c.args.put v.t _ v.at
    (length v.table) c.rows_of-rows.ensures h.6 (λ y.
    let f = c.requires.rows_fit y in
    let u = h.1 _ _ f.run_so_far in
    let w = h.2 y _ _ f.run_so_far in (
      omega (arith, f.small, l),
      rows_fit _ _ _ _ _ _ _ u.ran _ _ _ (e _ _ _ u).1 _ _ _ w _ (length v.table) l (omega (arith, f.fits, h.5)),
    ))

pub loop-t-preserved : goal.loop-t-preserved
loop-t-preserved c =
    let v = c.loop-t in
    let h = v.invariant in
    let e = c.in-Some.ensures in
    let o = c.put_rows-at.ensures in
    let n = e _ _ h.0.counts h.0.run_so_far in
    let l = c.put_rows-at.auto.table in
    let fits = rows_if_put _ _ _ _ _ _ n.1 h.0.run_so_far.set_numbers.good_set c.args.put v.t _ v.at
    (length v.table) c.rows_of-rows.ensures h.6 (λ y.
    let f = c.requires.rows_fit y in
    let u = h.1 _ _ f.run_so_far in
    let w = h.2 y _ _ f.run_so_far in (
      omega (arith, f.small, c.loop-t-test.true),
      rows_fit _ _ _ _ _ _ _ u.ran _ _ _ (e _ _ _ u).1 _ _ _ w _ (length v.table) c.loop-t-test.true (omega (arith, f.fits, h.5)),
    )) in (
      record { set = _; fault = _; counts = _; run_so_far = n.0 },
      (λ s fault u. (e s fault (counts_of v.delivered v.dropped) (h.1 s fault u)).0),
      (λ y s fault b.
          let u = h.1 s fault b in
          rows_more_law _ s fault _ _ _ _ u.ran _ _ _ (e s fault _ u).1 _ _ _ (h.2 y s fault b) _ _ _ (all_put c.args.put _ _ c.rows_of-rows.ensures y) o.place (rows_on c.before.before.before)),
      (let d : c.in-Some.got.delivered ≤ 4294967295 = search rules in omega (arith, h.3, d)),
      (let d : c.in-Some.got.dropped ≤ 4294967295 = search rules in omega (arith, h.4, d)),
      l ∙ h.5,
      omega (arith, o.place, fits.3, l),
    )

pub returns : goal.returns
returns c =
    let v = c.loop-t in
    let e : v.t ≡ c.args.slots = omega (arith, c.loop-t-test.false) in
    record {
      run = λ s fault u. rw (← e) (v.invariant.1 s fault u).ran;
      rows = λ y s fault u. rw (← e) (v.invariant.2 y s fault u).table_is;
    }

pub loop-t-preserved-in_default : goal.loop-t-preserved-in_default
loop-t-preserved-in_default c =
    let v = c.loop-t in
    let h = v.invariant in
    let e = c.in_default.ensures {u = tt} in
    let n = e _ _ h.0.counts h.0.run_so_far in (
      record { set = _; fault = _; counts = _; run_so_far = n.0 },
      (λ s fault u. rw (add-zero v.delivered, add-zero v.dropped) at (e s fault (counts_of v.delivered v.dropped) (h.1 s fault u)).0),
      (λ y s fault b.
          let u = h.1 s fault b in
          rows_more_law _ s fault _ _ _ _ u.ran _ _ _ (e s fault _ u).1 _ _ _ (h.2 y s fault b) 0 v.at v.table refl (omega arith) (none_put v.t c.run_slot.new.run.packets.sent c.run_slot.new.placed.flows v.table v.at)),
      omega (arith, h.3),
      omega (arith, h.4),
      h.5,
      h.6,
    )
