-- `choose` judges the ordered in turn: what is placed so far and what is still to be judged stay together the same choice. Assumes nothing.
use Rattle.machine.specs.PlacedIfReady.{choice_next, judge_rest}
use Rattle.machine.specs.Structs.{links_of, packets_at, placing_in}
use Rattle.machine.specs.PacketNumbers.{ready_by}
use Rattle.machine.specs.PlacedChoice.{choice_none, choice_all, choice_full}
use lib.Seq.{length-take-le, get_or-take}
use lib.ListN.{get_or, length, take}
use native.Mathlib.Omega.{arith}
use Prim.Native.Nat.{◌<◌}
use mathlib.Core.Path.{◌≡◌, refl}
use borrow.Author.Rules.{rules}
use Rattle.machine.proofs.choice.Placed.choose.Goals as goal

pub loop-k-init : goal.loop-k-init
loop-k-init c =
    let n = c.requires.none_placed in
    (rw n.count (choice_none _ _ _ _ _ _ _ _ (search rules) (search rules) (search rules) (search rules) n.marks), refl)

pub returns-then-self-c : goal.returns-then-self-c
returns-then-self-c c = record {
  choice = choice_full _ _ _ _ c.loop-k.k-index _ c.loop-k.invariant.0 c.args.c.now.some_ways c.if-self-c.true;
  rest = c.loop-k.invariant.1;
}

pub loop-k-preserved : goal.loop-k-preserved
loop-k-preserved c =
    let v = c.loop-k in
    let a = c.args in
    let p = c.requires in
    let l = c.loop-k-test.true in
    let links = links_of a.c.now in
    let packets = packets_at a.c.now a.p.now in
    let long : length (take a.line.now.waiting a.line.now.order) ≡ a.line.now.waiting = length-take-le _ _ (search rules) in
    let room : v.self.count < a.c.now.ways = omega (arith, c.if-self-c.false, v.invariant.0.few) in
    let below : v.k-index < a.line.now.waiting = omega arith in
    let k = get_or (take a.line.now.waiting a.line.now.order) v.k-index 0 in
    let placed = c.place_if_ready.ensures in (
      choice_next _ a.p.now.sent links (ready_by packets a.t) _ v.k-index (placing_in v.self) v.invariant.0 _ a.c.now.some_ways room l
          refl (rw (get_or-take a.line.now.waiting a.line.now.order v.k-index 0 below) (p.flows_to v.k-index below)) _ placed,
      judge_rest a.p.now.sent links (ready_by packets a.t k) k (placing_in v.self) _ placed a.self.now.flows v.invariant.1,
    )

pub returns : goal.returns
returns c =
    let line = c.args.line.now in
    let long : length (take line.waiting line.order) ≡ line.waiting = length-take-le _ _ (search rules) in
    record { choice = choice_all _ _ _ _ c.loop-k.k-index _ c.loop-k.invariant.0 c.args.c.now.some_ways (omega arith); rest = c.loop-k.invariant.1 }
