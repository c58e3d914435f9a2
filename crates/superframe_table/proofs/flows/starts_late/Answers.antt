-- `starts_late` looks at the flows that count. Assumes nothing beyond its `requires`.
use mathlib.Core.Path.{◌≡◌}
use lib.{Dec.{ltb}, ListN.{take}}
use native.Mathlib.Omega.{arith}
use borrow.Author.Rules.{rules}
use borrow.Author.Tests.{tests}
use Rattle.std.specs.List.{list_any}
use Rattle.std.proofs.lemmas.Iterator.{YieldsList-from_slice, YieldsList-from_take}
use Rattle.std.proofs.lemmas.Iterator.Search.{any_from_yields_List}
use Rattle.model.specs.{Sets.{used}}
use Rattle.model.specs.declared.kinds.Flow.{Flow}
use Rattle.laws.specs.Accepted.{accepted}
use Rattle.text.specs.HeldByCode.{set_held}
use Rattle.delay.specs.AcceptedFlows.{count_at_law}
use Rattle.superframe_table.specs.TableFlows.{late_any}
use Rattle.superframe_table.proofs.flows.starts_late.Goals as goal

pub returns : goal.returns
returns c =
    let s = c.args.s in
    let few = count_at_law s (accepted (used s) c.requires) in
    let held = (set_held s _ c.well_formed.0).flows_are in
    let rest : c.take.result.iter.rest.now ≡ s.flows = rw c.take.ensures.source c.iter.ensures.rest in
    let chain = YieldsList-from_take s.count (YieldsList-from_slice s.flows rest) c.take.ensures.count in
    let e : c.any.result ≡ list_any (λ (f : Flow). ltb 0 f.start) (take s.count s.flows) = any_from_yields_List (λ (f : Flow). ltb 0 f.start) _ _ c.any.result c.any.ensures.ran chain (λ x b q k. search (rules, tests)) in
    late_any s c.any.result (omega arith) e
