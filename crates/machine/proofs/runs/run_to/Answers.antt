-- `run_to` takes the set's numbers into columns, begins a run and runs its slots. Assumes nothing.
use mathlib.Core.Path.{sym, ◌∙◌}
use Rattle.laws.specs.Accepted.{accepted_none}
use Rattle.model.specs.Refusals.{no_fault}
use Rattle.model.specs.Sets.{used}
use Rattle.document.specs.Machine.{order_of}
use Rattle.document.specs.Superframe.{flat, rows_to_with}
use Rattle.machine.specs.RunSoFar.{counts_of, run_before_first}
use Rattle.machine.specs.RowsPut.{sets_at_start}
use Rattle.machine.specs.Structs.{links_of, numbers_of}
use borrow.Author.Rules.{rules}
use Rattle.machine.proofs.runs.run_to.Goals as goal

pub run_all_slots-got-requires : goal.run_all_slots-got-requires
run_all_slots-got-requires c =
    let s = c.args.s.now in
    let p = c.requires in
    let columns = c.take.new.self in
    let n = c.take.ensures in
    let run = c.at_start-run in
    let begun = run_before_first c.args.by s no_fault columns.count columns.ways (numbers_of columns) (links_of columns) run.result.packets.due
    n.count n.ways columns.some_ways n.numbers n.links (sym (accepted_none (used s) p.s_value.0)) (search rules) run.ensures.deadlines in
    record {
      slots_le_last_slot = (p.s_value.1, record { set = s; fault = no_fault; counts = counts_of 0 0; run_so_far = rw run.ensures.rest begun });
      rows_fit = λ y. record { set = s; fault = no_fault; run_so_far = rw run.ensures.rest begun; small = (p.end_bound y).0; fits = (p.end_bound y).1 };
    }

pub returns : goal.returns
returns c =
    let s = c.args.s.now in
    let p = c.requires in
    let columns = c.take.new.self in
    let n = c.take.ensures in
    let run = c.at_start-run in
    let begun = run_before_first c.args.by s no_fault columns.count columns.ways (numbers_of columns) (links_of columns) run.result.packets.due
    n.count n.ways columns.some_ways n.numbers n.links (sym (accepted_none (used s) p.s_value.0)) (search rules) run.ensures.deadlines in
    let e = rw run.ensures.rest at c.run_all_slots-got.ensures in
    record {
      run = rw c.none.ensures (e.run s no_fault begun).run_is;
      rows = λ y. e.rows y s no_fault begun ∙ sets_at_start c.args.table.now (flat (rows_to_with (order_of c.args.by) (used s) c.args.end.0)) (p.end_bound y).1;
    }
