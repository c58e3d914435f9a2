-- The rounds, from v = D to the first that changes nothing: a turn of their loop is one round.
use Rattle.std.specs.Prelude.{◌≡◌, refl, Bool, true, false, not, List, ℕ, ◌+◌, ◌-◌, ◌≤◌, ◌<◌, suc, get_or, replicate}
use Rattle.std.proofs.Common.{sym, ap, ◌∙◌, zero-le, le_trans, le_of_eq, arith, ext_get_or}
use Rattle.model.specs.declared.kinds.FlowSet.{FlowSet}
use Rattle.model.specs.Sets.{list_to}
use Rattle.document.specs.Text.{same}
use Rattle.document.specs.Delay.{deadline, ways, round_of, rounds_in, most_rounds, reached, work_at, Reached, deadlines}
use Rattle.delay.specs.PairGrids.{FilledTo, zeros}
use Rattle.laws.specs.Accepted.{Accepted}
use Rattle.laws.specs.Rounds.{accepted_fits, Between, room, same_eq, between_deadlines, between_round, WorkFits, room_deadlines, round_falls, rounds_stop, rounds_on}
use Rattle.model.specs.Limits.{most_flows}
use Rattle.laws.specs.SumLaws.{sum_le, sum_const}
use Rattle.laws.specs.Values.{list_length, list_entry, deadlines_length, deadlines_entry}
use Rattle.delay.specs.OneRound.{list_of_slack, SlackWithin, RoundDone, RoundFor}
use Rattle.delay.specs.declared.tables.Tables.{Tables}
use Rattle.delay.specs.DelayTables.{TablesHold}

-- after c rounds the list is v: either the rounds go on from there as the definition's do, or they are over
abbrev pub RoundsGoing : FlowSet → Bool → ℕ → List ℕ → Type 0
RoundsGoing s true c v = Between s v × (room s v + c < most_rounds s) × (reached s ≡ rounds_in s (most_rounds s - c) c v)
RoundsGoing s false c v = (c ≤ most_rounds s) × ((reached s).list ≡ v) × ((reached s).rounds ≡ c)

-- before the first round
pub going_start : (s : FlowSet) → RoundsGoing s true 0 (deadlines s)
unfolding reached
going_start s =
    let e : most_rounds s - 0 ≡ most_rounds s = omega arith in
    (between_deadlines s, omega (arith, room_deadlines s), rw e refl)

-- one round more
pub going_next : (s : FlowSet) → WorkFits s → (c : ℕ) (v w : List ℕ) (b : Bool) → RoundsGoing s true c v → RoundDone s v w b → RoundsGoing s b (c + 1) w
going_next s f c v w b g r = go b r.flag
  where
    p : (e : ℕ) × (most_rounds s - c ≡ suc e) × (e ≡ most_rounds s - (c + 1))
    p = (most_rounds s - (c + 1), omega arith, refl)

    go : (x : Bool) → same w v ≡ not x → RoundsGoing s x (c + 1) w
    go true h =
        let i : same (round_of s v) v ≡ false = rw (← r.list) h in
        let l = round_falls s f v g.0 i in
        let q : Between s w = rw r.list (between_round s v s.count g.0) in
        let o : rounds_in s (most_rounds s - c) c v ≡ rounds_in s p.0 (c + 1) (round_of s v) = rw p.1 (rounds_on s p.0 c v i) in (
          q,
          rw r.list (omega arith),
          g.2 ∙ o ∙ ap (λ (y : List ℕ). rounds_in s p.0 (c + 1) y) (sym r.list),
        )
    go false h =
        let i : same (round_of s v) v ≡ true = rw (← r.list) h in
        let o : rounds_in s (most_rounds s - c) c v ≡ record { list = v; rounds = c + 1 } = rw p.1 (rounds_stop s p.0 c v i) in
        let e = g.2 ∙ o in (
          omega arith,
          ap (λ (y : Reached). y.list) e ∙ sym (same_eq w v h),
          ap (λ (y : Reached). y.rounds) e,
        )

-- a round by the tables of an accepted set is such a round
pub round_after : (s : FlowSet) → Accepted s → (t : Tables) → TablesHold s t → (m : ℕ) → m ≡ ways s → (c : ℕ) (g h : List ℕ) (b : Bool)
    → RoundsGoing s true c (list_of_slack t.numbers.deadline g s.count) → RoundFor t s.count m g h b
    → RoundsGoing s b (c + 1) (list_of_slack t.numbers.deadline h s.count)
round_after s a t o m e c g h b z r =
    going_next s (accepted_fits s a) c _ _ b z (r s record { tables = o; count = refl; channels = sym e; most = a.count_le })

-- the rounds of an accepted set fit a 32-bit number
pub most_small : (s : FlowSet) → s.count ≤ most_flows → ((k : ℕ) → k < s.count → deadline s k ≤ 65535) → most_rounds s ≤ 4194241
most_small s n d =
    let a = sum_le (λ k. deadline s k - work_at s k) (λ k. 65535) s.count (λ k h. let b = d k h in omega arith) in
    omega (arith, sum_const 65535 s.count)

-- without slack the list is D
pub deadlines_carried : (s : FlowSet) (d : List ℕ) → FilledTo (deadline s) s.count d → list_of_slack d (replicate most_flows 0) s.count ≡ deadlines s
deadlines_carried s d o =
    let n = s.count in
    let f : ℕ → ℕ = λ l. get_or d l 0 - get_or {A = ℕ} (replicate most_flows 0) l 0 in
    let w = list_length f n in
    ext_get_or 0 (list_to f n) (deadlines s) (w ∙ sym (deadlines_length s))
    (λ i h. let j : i < n = omega arith in
    let z = zeros most_flows i in
    let e = o.entry i j in
    let a = list_entry f n i j in
    let b = deadlines_entry s i j in
    omega arith)

-- there is no slack where the rounds begin
pub zero_slack : (d : List ℕ) (n : ℕ) → SlackWithin d (replicate most_flows 0) n
zero_slack d n l h = le_trans (le_of_eq (zeros most_flows l)) zero-le
