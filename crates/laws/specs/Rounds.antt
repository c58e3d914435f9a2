-- The rounds. An entry is only ever lowered, to no less than the smaller of its deadline and the equation's value, nor below C. A round
-- that changes something lowers Σ(v − C) by at least 1, so the rounds end before their fuel does; one that changes nothing has no entry
-- above the equation's value.
use Rattle.std.specs.Prelude.{◌≡◌, refl, Bool, true, false, List, [], ◌∷◌, ℕ, zero, suc, ◌+◌, ◌-◌, ◌≤◌, ◌<◌, min, eqb, length, get_or, set}
use Rattle.std.proofs.Common.{sym, ap, ◌∙◌, le_refl, le_trans, le_of_eq, add-zero, add-suc, arith, eqb-true, eq-eqb, length-set, get_or-set_same, get_or-set_other, ext_get_or}
use Rattle.std.proofs.lemmas.Bool.{false≢true}
use Rattle.std.proofs.Math.Decide.{dec_le, ℕ_discrete}
use Rattle.std.proofs.Math.ListN.{get_or-eq_default}
use Rattle.std.proofs.Math.Seq.{set_out}
use Rattle.model.specs.declared.kinds.FlowSet.{FlowSet}
use Rattle.model.specs.Sums.{sum_to}
use Rattle.document.specs.Text.{same}
use Rattle.document.specs.Delay.{deadline, work_at, value_at, deadlines, lowered, round_to, round_of, Reached, rounds_in, most_rounds, reached}
use Rattle.laws.specs.SumLaws.{sum_le, sum_ext, and_l, and_r}
use Rattle.laws.specs.Accepted.{Accepted}
use Rattle.laws.specs.Values.{value_le, value_ge_work, deadlines_length, deadlines_entry}

-- a list is below another, place by place
abbrev pub Le : List ℕ → List ℕ → Type 0
Le u v = (i : ℕ) → get_or u i 0 ≤ get_or v i 0

pub value_mono : (s : FlowSet) (u v : List ℕ) (k : ℕ) → Le u v → value_at s u k ≤ value_at s v k
value_mono s u v k h = value_le s u v k (λ l i. h l)

-- the entry of flow k replaced: the others stay, and it is the smaller of itself and the value
pub lowered_length : (s : FlowSet) (v : List ℕ) (k : ℕ) → length (lowered s v k) ≡ length v
unfolding lowered
lowered_length s v k = length-set v k (min (get_or v k 0) (value_at s v k))

pub lowered_other : (s : FlowSet) (v : List ℕ) (k i : ℕ) → (i ≡ k → ⊥) → get_or (lowered s v k) i 0 ≡ get_or v i 0
unfolding lowered
lowered_other s v k i n = get_or-set_other v k i (min (get_or v k 0) (value_at s v k)) 0 n

pub lowered_entry : (s : FlowSet) (v : List ℕ) (k : ℕ) → get_or (lowered s v k) k 0 ≡ min (get_or v k 0) (value_at s v k)
unfolding lowered
lowered_entry s v k =
    elim (dec_le (length v) k) [
      | yes h ↦
          let o = get_or-eq_default v 0 h in
          let e : get_or (set v k (min (get_or v k 0) (value_at s v k))) k 0 ≡ 0 = ap (λ (l : List ℕ). get_or l k 0) (set_out v k _ h) ∙ o in
          omega arith
      | no h ↦ get_or-set_same v k (min (get_or v k 0) (value_at s v k)) 0 (omega arith)
    ]

pub lowered_le : (s : FlowSet) (v : List ℕ) (k : ℕ) → Le (lowered s v k) v
lowered_le s v k i =
    elim (ℕ_discrete i k) [
      | yes e ↦ rw e (omega (arith, lowered_entry s v k))
      | no n ↦ le_of_eq (lowered_other s v k i n)
    ]

-- a round as far as flow n
pub round_length : (s : FlowSet) (v : List ℕ) (n : ℕ) → length (round_to s v n) ≡ length v
unfolding round_to
round_length s v zero = refl
round_length s v (suc n) = lowered_length s (round_to s v n) n ∙ round_length s v n

pub round_le : (s : FlowSet) (v : List ℕ) (n : ℕ) → Le (round_to s v n) v
unfolding round_to
round_le s v zero i = le_refl (get_or v i 0)
round_le s v (suc n) i = le_trans (lowered_le s (round_to s v n) n i) (round_le s v n i)

-- further flows lower it further
pub round_further : (s : FlowSet) (v : List ℕ) (n d : ℕ) → Le (round_to s v (n + d)) (round_to s v n)
unfolding round_to
round_further s v n zero i = rw (add-zero n) (le_refl (get_or (round_to s v n) i 0))
round_further s v n (suc d) i = rw (add-suc) (le_trans (lowered_le s (round_to s v (n + d)) (n + d) i) (round_further s v n d i))

-- an entry of a whole round is at most the value at the list before it
pub round_le_value : (s : FlowSet) (v : List ℕ) (n k : ℕ) → k < n → get_or (round_to s v n) k 0 ≤ value_at s v k
unfolding round_to
round_le_value s v n k h =
    let d : (d : ℕ) × (suc k + d ≡ n) = (n - suc k, omega arith) in
    let a = round_further s v (suc k) d.0 k in
    let b = value_mono s (round_to s v k) v k (round_le s v k) in
    rw (← d.1) (omega (arith, lowered_entry s (round_to s v k) k))

-- what every list of the rounds has: one entry a flow, none above its deadline, none below the smaller of deadline and value
pub record Between (s : FlowSet) (v : List ℕ) : Type 0 where
  pub one_each : length v ≡ s.count
  pub le_deadline : (k : ℕ) → k < s.count → get_or v k 0 ≤ deadline s k
  pub ge_value : (k : ℕ) → k < s.count → min (deadline s k) (value_at s v k) ≤ get_or v k 0

pub between_deadlines : (s : FlowSet) → Between s (deadlines s)
between_deadlines s =
    record {
      one_each = deadlines_length s;
      le_deadline = λ k h. le_of_eq (deadlines_entry s k h);
      ge_value = λ k h. omega (arith, deadlines_entry s k h);
    }

pub between_lowered : (s : FlowSet) (v : List ℕ) (k : ℕ) → Between s v → Between s (lowered s v k)
between_lowered s v k b =
    record {
      one_each = lowered_length s v k ∙ b.one_each;
      le_deadline = λ i h. le_trans (lowered_le s v k i) (b.le_deadline i h);
      ge_value = λ i h.
          let a = value_mono s (lowered s v k) v i (lowered_le s v k) in
          let e = b.ge_value i h in
          elim (ℕ_discrete i k) [
            | yes q ↦ let w : value_at s v i ≡ value_at s v k = ap (value_at s v) q in
                let z : get_or (lowered s v k) i 0 ≡ min (get_or v i 0) (value_at s v k) = rw q (lowered_entry s v k) in
                omega arith
            | no n ↦ omega (arith, lowered_other s v k i n)
          ];
    }

pub between_round : (s : FlowSet) (v : List ℕ) (n : ℕ) → Between s v → Between s (round_to s v n)
unfolding round_to
between_round s v zero b = b
between_round s v (suc n) b = between_lowered s (round_to s v n) n (between_round s v n b)

-- a list of numbers is the same as another only if it is that one
pub same_eq : (u v : List ℕ) → same u v ≡ true → u ≡ v
unfolding same
same_eq [] [] h = refl
same_eq [] (y ∷ v) h = absurd (false≢true h)
same_eq (x ∷ u) [] h = absurd (false≢true h)
same_eq (x ∷ u) (y ∷ v) h =
    let a = eqb-true x y (and_l (eqb x y) (same u v) h) in
    let b = same_eq u v (and_r (eqb x y) (same u v) h) in cc

pub same_refl : (v : List ℕ) → same v v ≡ true
unfolding same
same_refl [] = refl
same_refl (x ∷ v) = rw (eq-eqb x x refl, same_refl v)

-- equal sums of terms that are no larger have equal terms
pub sum_tight : (f g : ℕ → ℕ) (n : ℕ) → ((i : ℕ) → i < n → f i ≤ g i) → sum_to g n ≤ sum_to f n → (i : ℕ) → i < n → f i ≡ g i
unfolding sum_to
sum_tight f g zero h l i k = absurd (omega arith)
sum_tight f g (suc n) h l i k =
    let a = sum_le f g n (λ j m. h j (omega arith)) in
    let b = h n (le_refl (suc n)) in
    elim (dec_le n i) [
      | yes m ↦ let e : i ≡ n = omega arith in rw e (omega arith)
      | no m ↦ sum_tight f g n (λ j m. h j (omega arith)) (omega arith) i (omega arith)
    ]

-- Σ(v − C): how far the list may still fall
unfoldable pub room : FlowSet → List ℕ → ℕ
room s v = sum_to (λ k. get_or v k 0 - work_at s k) s.count

pub room_deadlines : (s : FlowSet) → room s (deadlines s) + 1 ≡ most_rounds s
unfolding room
room_deadlines s =
    let e = sum_ext (λ k. get_or (deadlines s) k 0 - work_at s k) (λ k. deadline s k - work_at s k) s.count
    (λ k h. ap (λ (x : ℕ). x - work_at s k) (deadlines_entry s k h)) in
    omega arith

-- what follows holds of a set whose flows have C ≤ D, as every accepted one has
abbrev pub WorkFits : FlowSet → Type 0
WorkFits s = (k : ℕ) → k < s.count → work_at s k ≤ deadline s k

pub accepted_fits : (s : FlowSet) → Accepted s → WorkFits s
accepted_fits s a k h = (a.flow k h).work_le

-- no entry falls below C
pub between_ge_work : (s : FlowSet) → WorkFits s → (v : List ℕ) → Between s v → (k : ℕ) → k < s.count → work_at s k ≤ get_or v k 0
between_ge_work s f v b k h =
    let a = f k h in
    let e = b.ge_value k h in omega (arith, value_ge_work s v k)

-- a round that changes something takes from the room
pub round_falls : (s : FlowSet) → WorkFits s → (v : List ℕ) → Between s v → same (round_of s v) v ≡ false → room s (round_of s v) < room s v
unfolding room
round_falls s f v b h =
    let r = round_of s v in
    let p = between_round s v s.count b in
    let le = round_le s v s.count in
    elim (dec_le (room s v) (room s r)) [
      | yes l ↦
          let terms = sum_tight (λ k. get_or r k 0 - work_at s k) (λ k. get_or v k 0 - work_at s k) s.count (λ k i. let a = le k in omega arith) l in
          let q : length r ≡ s.count = p.one_each in
          let e : r ≡ v = ext_get_or 0 r v (round_length s v s.count)
          (λ k i. let j : k < s.count = omega arith in
          omega (arith, terms k j, le k, between_ge_work s f r p k j, between_ge_work s f v b k j)) in
          let t : same r v ≡ true = rw e (same_refl v) in
          absurd (false≢true (sym h ∙ t))
      | no l ↦ omega arith
    ]

-- the two ways on of the rounds' definition
pub rounds_stop : (s : FlowSet) (fuel n : ℕ) (v : List ℕ) → same (round_of s v) v ≡ true → rounds_in s (suc fuel) n v ≡ record { list = v; rounds = n + 1 }
unfolding rounds_in
rounds_stop s fuel n v e = rw (rounds_in, e)

pub rounds_on : (s : FlowSet) (fuel n : ℕ) (v : List ℕ) → same (round_of s v) v ≡ false → rounds_in s (suc fuel) n v ≡ rounds_in s fuel (n + 1) (round_of s v)
unfolding rounds_in
rounds_on s fuel n v e = rw (rounds_in, e)

-- from v it takes k rounds, the last of which changes nothing and no earlier one, and the list is then r
pub data Ends (s : FlowSet) : List ℕ → ℕ → List ℕ → Type 0 where
  idle : {v : List ℕ} → same (round_of s v) v ≡ true → Ends s v 1 v
  more : {v r : List ℕ} {k : ℕ} → same (round_of s v) v ≡ false → Ends s (round_of s v) k r → Ends s v (k + 1) r

-- with more fuel than room, the definition's rounds are these: the fuel is never spent
pub rounds_end : (s : FlowSet) → WorkFits s → (fuel n : ℕ) (v : List ℕ) → Between s v → room s v < fuel
    → (k : ℕ) × ((rounds_in s fuel n v).rounds ≡ n + k) × Ends s v k (rounds_in s fuel n v).list
rounds_end s f zero n v b h = absurd (omega arith)
rounds_end s f (suc fuel) n v b h = go (λ l. rounds_end s f fuel (n + 1) (round_of s v) (between_round s v s.count b) l) (same (round_of s v) v) refl
  where
    go : (room s (round_of s v) < fuel → (k : ℕ) × ((rounds_in s fuel (n + 1) (round_of s v)).rounds ≡ n + 1 + k)
        × Ends s (round_of s v) k (rounds_in s fuel (n + 1) (round_of s v)).list)
        → (c : Bool) → same (round_of s v) v ≡ c
        → (k : ℕ) × ((rounds_in s (suc fuel) n v).rounds ≡ n + k) × Ends s v k (rounds_in s (suc fuel) n v).list
    go ih true e = (1, ap (λ (r : Reached). r.rounds) (rounds_stop s fuel n v e), rw (rounds_stop s fuel n v e) (idle e))
    go ih false e =
        let w = ih (omega (arith, round_falls s f v b e)) in (
          w.0 + 1,
          ap (λ (r : Reached). r.rounds) (rounds_on s fuel n v e) ∙ omega arith,
          rw (rounds_on s fuel n v e) (more e w.2),
        )

-- more fuel changes nothing
pub rounds_fuel : (s : FlowSet) → WorkFits s → (f g n : ℕ) (v : List ℕ) → Between s v → room s v < f → room s v < g → rounds_in s f n v ≡ rounds_in s g n v
rounds_fuel s w zero g n v b h i = absurd (omega arith)
rounds_fuel s w (suc f) zero n v b h i = absurd (omega arith)
rounds_fuel s w (suc f) (suc g) n v b h i =
    go (λ p q. rounds_fuel s w f g (n + 1) (round_of s v) (between_round s v s.count b) p q) (same (round_of s v) v) refl
  where
    go : (room s (round_of s v) < f → room s (round_of s v) < g → rounds_in s f (n + 1) (round_of s v) ≡ rounds_in s g (n + 1) (round_of s v))
        → (c : Bool) → same (round_of s v) v ≡ c → rounds_in s (suc f) n v ≡ rounds_in s (suc g) n v
    go ih true e = rounds_stop s f n v e ∙ sym (rounds_stop s g n v e)
    go ih false e =
        rounds_on s f n v e
        ∙ ih (omega (arith, round_falls s w v b e)) (omega (arith, round_falls s w v b e))
        ∙ sym (rounds_on s g n v e)

-- no more rounds than fuel
pub rounds_le_fuel : (s : FlowSet) (fuel n : ℕ) (v : List ℕ) → (rounds_in s fuel n v).rounds ≤ n + fuel
unfolding rounds_in
rounds_le_fuel s zero n v = omega arith
rounds_le_fuel s (suc fuel) n v = go (rounds_le_fuel s fuel (n + 1) (round_of s v)) (same (round_of s v) v) refl
  where
    go : (rounds_in s fuel (n + 1) (round_of s v)).rounds ≤ n + 1 + fuel → (c : Bool) → same (round_of s v) v ≡ c → (rounds_in s (suc fuel) n v).rounds ≤ n + suc fuel
    go ih true e = rw (rounds_stop s fuel n v e) (omega arith)
    go ih false e = rw (rounds_on s fuel n v e) (omega arith)

-- the list keeps what every round keeps
pub ends_between : {s : FlowSet} {v r : List ℕ} {k : ℕ} → Ends s v k r → Between s v → Between s r
ends_between (idle e) b = b
ends_between {s} {v} (more e n) b = ends_between n (between_round s v s.count b)

-- a round more would change nothing
pub ends_idle : {s : FlowSet} {v r : List ℕ} {k : ℕ} → Ends s v k r → round_of s r ≡ r
ends_idle {s} {v} (idle e) = same_eq (round_of s v) v e
ends_idle (more e n) = ends_idle n

-- the number of rounds, and what they reach, are fixed by where they start
pub ends_once : {s : FlowSet} {v r u : List ℕ} {k j : ℕ} → Ends s v k r → Ends s v j u → (k ≡ j) × (r ≡ u)
ends_once (idle e) (idle f) = (refl, refl)
ends_once (idle e) (more f n) = absurd (false≢true (sym f ∙ e))
ends_once (more e m) (idle f) = absurd (false≢true (sym e ∙ f))
ends_once (more e m) (more f n) = let w = ends_once m n in (ap (λ (x : ℕ). x + 1) w.0, w.1)

-- the rounds of an accepted set
pub reached_ends : (s : FlowSet) → WorkFits s → Ends s (deadlines s) (reached s).rounds (reached s).list
unfolding reached
reached_ends s f =
    let w = rounds_end s f (most_rounds s) 0 (deadlines s) (between_deadlines s) (omega (arith, room_deadlines s)) in
    let e : (rounds_in s (most_rounds s) 0 (deadlines s)).rounds ≡ w.0 = omega arith in
    rw e w.2

pub reached_between : (s : FlowSet) → WorkFits s → Between s (reached s).list
reached_between s f = ends_between (reached_ends s f) (between_deadlines s)

pub reached_idle : (s : FlowSet) → WorkFits s → round_of s (reached s).list ≡ (reached s).list
reached_idle s f = ends_idle (reached_ends s f)

pub reached_rounds_le : (s : FlowSet) → (reached s).rounds ≤ most_rounds s
unfolding reached
reached_rounds_le s = omega (arith, rounds_le_fuel s (most_rounds s) 0 (deadlines s))
