-- Request 2, theorem 3: how many rows the superframe of an admitted set has. Every packet that the hyper-period holds is complete in its own period,
-- so flow k is placed C times in each of its H / T periods, and the table has a row for each flow that a slot places.
use Rattle.std.specs.Prelude.{◌≡◌, refl, ◌≢◌, Bool, false, List, [], ◌∷◌, length, get_or}
use Rattle.std.proofs.Common.{sym, ap, ◌∙◌, inl, inr, zero-add, zero-mul, div-add-mod', arith, eq-eqb, ne_eqb}
use Rattle.std.proofs.Math.Bool.{true}
use Prim.Native.Nat.{ℕ, zero, suc, ◌+◌, ◌*◌, ◌/◌, ◌%◌, ◌≤◌, ◌<◌}
use Rattle.std.proofs.Math.Nat.{suc-mul}
use Rattle.std.proofs.Math.Decide.{dec_le}
use Rattle.model.specs.declared.kinds.FlowSet.{FlowSet}
use Rattle.model.specs.Limits.{last_slot}
use Rattle.model.specs.Refusals.{good}
use Rattle.model.specs.Sums.{bit, sum_to}
use Rattle.model.specs.Sets.{flow_at, any_of, memb}
use Rattle.document.specs.Reader.{record_fault}
use Rattle.document.specs.Delay.{period, deadline, work_at, value_at, reached, tight_bound, verdict_of}
use Rattle.document.specs.Machine.{release, ahead, placed_at, run_of}
use Rattle.document.specs.Superframe.{hyper, rows_to, superframe}
use Rattle.laws.specs.SumLaws.{count, sum_ext, sum_zero, sum_swap, sum_more, count_split}
use Rattle.laws.specs.Members.{memb_head, memb_tail, Pairs}
use Rattle.laws.specs.Accepted.{accepted}
use Rattle.laws.specs.Rounds.{reached_between, accepted_fits}
use Rattle.laws.specs.TestAnswers.{basic_then_tightened}
use Rattle.promise.specs.Promise.{Admitted}
use Rattle.promise.specs.Repeated.{row_count}
use Rattle.promise.specs.Shifts.{AllFromZero}
use Rattle.promise.specs.DeadlineOrder.{deadline_order}
use Rattle.promise.specs.Schedule.{numbered}
use Rattle.promise.specs.RunStates.{choice}
use Rattle.promise.specs.Timetable.{placed_in, timetable}
use Rattle.promise.specs.Reports.{memb_place}
use Rattle.promise.proofs.Complete.{complete}
use Rattle.promise.proofs.Demand.{tight_bound_law, tight_admits}
use Rattle.promise.specs.SlotRows.{table_rows}

-- sums whose terms differ at one place alone, by one
sum_one_more : (f g : ℕ → ℕ) (n k : ℕ) → k < n → f k ≡ suc (g k) → ((i : ℕ) → i ≢ k → f i ≡ g i) → sum_to f n ≡ suc (sum_to g n)
unfolding sum_to
sum_one_more f g zero k l e d = absurd (omega arith)
sum_one_more f g (suc n) k l e d =
    elim (dec_le n k) [
      | yes h ↦
          let q : k ≡ n = omega arith in
          let r = sum_ext f g n (λ i j. d i (λ x. omega arith)) in
          let z = rw q at e in omega arith
      | no h ↦ omega (arith, sum_one_more f g n k (omega arith) e d, d n (λ x. omega arith))
    ]

-- numbers that differ place by place differ pair by pair
pairs_from : (ls : List ℕ) → ((i j : ℕ) → i < j → j < length ls → get_or ls i 0 ≢ get_or ls j 0) → Pairs ◌≢◌ ls
unfolding Pairs
pairs_from [] f = tt
pairs_from (k ∷ ks) f = (
  λ l m e. let w = memb_place l ks m in f 0 (suc w.0) (omega arith) (omega arith) (e ∙ sym w.2),
  pairs_from ks (λ i j h l. f (suc i) (suc j) (omega arith) (omega arith)),
)

-- a list of different numbers below n is as long as there are numbers below n in it
length_members : (n : ℕ) (ls : List ℕ) → Pairs ◌≢◌ ls → ((l : ℕ) → memb l ls ≡ true → l < n) → length ls ≡ sum_to (λ l. bit (memb l ls)) n
unfolding Pairs any_of
length_members n [] p f = sym (sum_zero (λ l. 0) n (λ l h. refl))
length_members n (k ∷ ks) p f =
    let a = length_members n ks p.1 (λ l m. f l (memb_tail l k ks m)) in
    let b = sum_one_more (λ l. bit (memb l (k ∷ ks))) (λ l. bit (memb l ks)) n k (f k (memb_head k ks)) more (λ l d. rw (ne_eqb l k d)) in
    omega arith
  where
    out : (b : Bool) → memb k ks ≡ b → b ≡ false
    out false e = refl
    out true e = absurd (p.0 k e refl)

    more : bit (memb k (k ∷ ks)) ≡ suc (bit (memb k ks))
    more = rw (eq-eqb k k refl, out (memb k ks) refl)

-- a slot places as many flows as are placed in it
slot_length : (s : FlowSet) (t : ℕ) → length (placed_at s (run_of s t).last) ≡ sum_to (λ k. bit (placed_in ahead s k t)) s.count
slot_length s t =
    let c = choice deadline_order s (run_of s t).last in
    length_members s.count (placed_at s (run_of s t).last) (pairs_from _ c.once) (λ l m. (c.only l m).0)

-- so the table of n slots has a row for each slot in which a flow is placed, flow by flow
length_by_flow : (s : FlowSet) (n : ℕ) → length (rows_to s n) ≡ sum_to (λ k. count (placed_in ahead s k) 0 n) s.count
length_by_flow s n =
    table_rows s n
    ∙ sum_ext _ (λ t. sum_to (λ k. bit (placed_in ahead s k (0 + t))) s.count) n
    (λ t h. slot_length s t ∙ ap (λ (x : ℕ). sum_to (λ k. bit (placed_in ahead s k x)) s.count) (sym (zero-add t)))
    ∙ sum_swap (λ t k. bit (placed_in ahead s k (0 + t))) n s.count

-- an admitted set's values at the rounds' list are at most its deadlines: the tightened test admits what the basic one does
module _ (s : FlowSet) (g : good (record_fault s).refusal ≡ true) (a : Admitted s) where
  value_fits : (k : ℕ) → k < s.count → value_at s (reached s).list k ≤ deadline s k
  unfolding tight_bound
  value_fits k l = rw (tight_bound_law s g k l) at (tight_admits s g (tight a) k l)
    where
      tight : Admitted s → (verdict_of s).tightened ≡ true
      tight (inl e) = basic_then_tightened s e
      tight (inr e) = e

  -- so each packet is placed C times in its period
  packet_placed : (k j : ℕ) → k < s.count → release (flow_at s k) j + period s k ≤ last_slot
      → count (placed_in ahead s k) (release (flow_at s k) j) (period s k) ≡ work_at s k
  packet_placed k j l h =
      let r = accepted s g in
      let b = reached_between s (accepted_fits s r) in
      let d = value_fits k l in
      let p = (r.flow k l).deadline_le in
      let c = complete s g (reached s).list b.le_deadline b.ge_value k j l d (omega arith) in
      let m = sum_more (λ i. bit (placed_in ahead s k (release (flow_at s k) j + i))) (value_at s (reached s).list k) (period s k) (omega arith) in
      let w = numbered (timetable deadline_order s g) (λ i. true) k j (period s k) l (omega arith) (omega arith) in
      omega (arith, w.1)

  -- and a flow that starts at 0 C times in each of its first q periods
  flow_placed : (k : ℕ) → k < s.count → (flow_at s k).start ≡ 0 → (q : ℕ) → q * period s k ≤ last_slot
      → count (placed_in ahead s k) 0 (q * period s k) ≡ q * work_at s k
  unfolding sum_to
  flow_placed k l z zero h = rw (zero-mul (period s k)) (omega arith)
  flow_placed k l z (suc q) h =
      let e = suc-mul q (period s k) in
      let p = packet_placed k q l (omega arith) in
      let i = flow_placed k l z q (omega arith) in
      rw e (omega (arith, count_split (placed_in ahead s k) 0 (q * period s k) (period s k), rw z at p))

-- The table of h slots, for any number h of slots that every period divides,
pub rows_counted : (s : FlowSet) → AllFromZero s → Admitted s → (h : ℕ) → h ≤ last_slot → ((k : ℕ) → k < s.count → h % period s k ≡ 0)
    → length (rows_to s h) ≡ sum_to (λ k. h / period s k * work_at s k) s.count
rows_counted s f a h l d = length_by_flow s h ∙ sum_ext _ _ s.count each
  where
    each : (k : ℕ) → k < s.count → count (placed_in ahead s k) 0 h ≡ h / period s k * work_at s k
    each k i =
        let e : h / period s k * period s k ≡ h = omega (arith, div-add-mod' h (period s k), d k i) in
        ap (count (placed_in ahead s k) 0) (sym e) ∙ flow_placed s f.0 a k i (f.1 k i) (h / period s k) (omega arith)

-- and so the superframe.
pub table_length : (s : FlowSet) → AllFromZero s → ((k : ℕ) → k < s.count → hyper s % period s k ≡ 0) → Admitted s → hyper s ≤ last_slot
    → length (superframe s) ≡ row_count s
table_length s f d a l = rows_counted s f a (hyper s) l d
