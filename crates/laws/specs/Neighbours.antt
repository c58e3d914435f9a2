-- Rule 8's place is what request 1 says of it: the first place of a route whose node equals the one just before it, or the route's length.
use Rattle.std.specs.Prelude.{◌≡◌, refl, ◌≢◌, List, [], ◌∷◌, ℕ, zero, suc, ◌+◌, ◌-◌, ◌≤◌, ◌<◌, length, get_or, take}
use Rattle.std.proofs.Common.{sym, ◌∙◌, arith, eq-eqb, ne_eqb, get_or-take, length-take-le}
use Rattle.std.proofs.Math.Decide.{ℕ_discrete, dec_le}
use Rattle.document.specs.Reader.{repeat_at}

-- the nodes before a place all differ from the ones just before them
abbrev pub Differ : List ℕ → ℕ → Type 0
Differ r i = (j : ℕ) → 1 ≤ j → j < i → get_or r j 0 ≢ get_or r (j - 1) 0

-- a place after the first, whose node equals the one just before it, and no earlier node does
pub record FirstRepeat (r : List ℕ) (i : ℕ) : Type 0 where
  pub later : 1 ≤ i
  pub equal : get_or r i 0 ≡ get_or r (i - 1) 0
  pub first : Differ r i

-- one step of the definition
repeat_here : (x y : ℕ) (r : List ℕ) → x ≡ y → repeat_at (x ∷ y ∷ r) ≡ 1
unfolding repeat_at
repeat_here x y r e = rw (eq-eqb x y e) refl

repeat_on : (x y : ℕ) (r : List ℕ) → x ≢ y → repeat_at (x ∷ y ∷ r) ≡ suc (repeat_at (y ∷ r))
unfolding repeat_at
repeat_on x y r n = rw (ne_eqb x y n) refl

-- the place is after the first node, and at most the length
repeat_pos : (x : ℕ) (r : List ℕ) → 0 < repeat_at (x ∷ r)
unfolding repeat_at
repeat_pos x [] = omega arith
repeat_pos x (y ∷ r) =
    elim (ℕ_discrete x y) [
      | yes q ↦ omega (arith, repeat_here x y r q)
      | no q ↦ omega (arith, repeat_on x y r q)
    ]

pub repeat_le : (r : List ℕ) → repeat_at r ≤ length r
unfolding repeat_at
repeat_le [] = omega arith
repeat_le (x ∷ []) = omega arith
repeat_le (x ∷ y ∷ r) =
    elim (ℕ_discrete x y) [
      | yes q ↦ omega (arith, repeat_here x y r q)
      | no q ↦ omega (arith, repeat_on x y r q, repeat_le (y ∷ r))
    ]

-- no node before the place equals its neighbour, the node at the place does
next_differs : (r : List ℕ) (j : ℕ) → suc j < repeat_at r → get_or r (suc j) 0 ≢ get_or r j 0
unfolding repeat_at
next_differs [] j h e = omega arith
next_differs (x ∷ []) j h e = omega arith
next_differs (x ∷ y ∷ r) zero h e = omega (arith, repeat_here x y r (sym e))
next_differs (x ∷ y ∷ r) (suc j) h e =
    elim (ℕ_discrete x y) [
      | yes q ↦ omega (arith, repeat_here x y r q)
      | no q ↦ next_differs (y ∷ r) j (omega (arith, repeat_on x y r q)) e
    ]

next_equals : (r : List ℕ) (i : ℕ) → repeat_at r ≡ suc i → suc i < length r → get_or r (suc i) 0 ≡ get_or r i 0
next_equals [] i e h = absurd (omega arith)
next_equals (x ∷ []) i e h = absurd (omega arith)
next_equals (x ∷ y ∷ r) zero e h =
    elim (ℕ_discrete x y) [
      | yes q ↦ sym q
      | no q ↦ absurd (omega (arith, repeat_on x y r q, repeat_pos y r))
    ]
next_equals (x ∷ y ∷ r) (suc i) e h =
    elim (ℕ_discrete x y) [
      | yes q ↦ absurd (omega (arith, repeat_here x y r q))
      | no q ↦ next_equals (y ∷ r) i (omega (arith, repeat_on x y r q)) (omega arith)
    ]

-- a place after the first is one more than a place
from_next : (P : ℕ → ℕ → Type 0) → ((i : ℕ) → P (suc i) i) → (j : ℕ) → 1 ≤ j → P j (j - 1)
from_next P f zero h = absurd (omega arith)
from_next P f (suc i) h = let e : suc i - 1 ≡ i = omega arith in rw e (f i)

repeat_differs : (r : List ℕ) → Differ r (repeat_at r)
repeat_differs r j h l = from_next (λ x y. x < repeat_at r → get_or r x 0 ≢ get_or r y 0) (next_differs r) j h l

-- the place in the route
pub repeat_first : (r : List ℕ) → repeat_at r < length r → FirstRepeat r (repeat_at r)
repeat_first [] h = absurd (omega arith)
repeat_first (x ∷ r) h =
    let p = repeat_pos x r in
    record {
      later = omega arith;
      equal = from_next (λ i j. repeat_at (x ∷ r) ≡ i → i < length (x ∷ r) → get_or (x ∷ r) i 0 ≡ get_or (x ∷ r) j 0) (next_equals (x ∷ r)) (repeat_at (x ∷ r))
          (omega arith) refl h;
      first = repeat_differs (x ∷ r);
    }

-- the place that is the length: each node differs from the next
pub repeat_none : (r : List ℕ) → repeat_at r ≡ length r → (i : ℕ) → i + 1 < length r → get_or r i 0 ≢ get_or r (i + 1) 0
repeat_none r e i h q =
    let d : i + 1 - 1 ≡ i = omega arith in repeat_differs r (i + 1) (omega arith) (omega arith) (sym q ∙ rw d refl)

-- And there is no other such place,
repeat_is : (r : List ℕ) (i : ℕ) → i < length r → FirstRepeat r i → repeat_at r ≡ i
repeat_is r i h f =
    elim (dec_le i (repeat_at r)) [
      | yes l ↦
          elim (dec_le (repeat_at r) i) [
            | yes u ↦ omega arith
            | no u ↦ absurd (repeat_differs r i f.later (omega arith) f.equal)
          ]
      | no l ↦ let w = repeat_first r (omega arith) in absurd (f.first (repeat_at r) w.later (omega arith) w.equal)
    ]

repeat_not : (r : List ℕ) → Differ r (length r) → repeat_at r ≡ length r
repeat_not r d =
    elim (dec_le (length r) (repeat_at r)) [
      | yes l ↦ omega (arith, repeat_le r)
      | no l ↦ let w = repeat_first r (omega arith) in absurd (d (repeat_at r) w.later (omega arith) w.equal)
    ]

-- so a pass over the first n nodes of an array finds it.
module _ (r : List ℕ) (n : ℕ) (fits : n ≤ length r) where
  same_node : (j : ℕ) → j < n → get_or (take n r) j 0 ≡ get_or r j 0
  same_node j h = get_or-take n r j 0 h

  taken_differ : (i : ℕ) → i ≤ n → Differ r i → Differ (take n r) i
  taken_differ i h d j a b e = d j a b (sym (same_node j (omega arith)) ∙ e ∙ same_node (j - 1) (omega arith))

  pub repeat_found : (i : ℕ) → i < n → FirstRepeat r i → repeat_at (take n r) ≡ i
  repeat_found i h f =
      repeat_is (take n r) i (omega (arith, length-take-le n r fits)) (record {
        later = f.later;
        equal = same_node i h ∙ f.equal ∙ sym (same_node (i - 1) (omega arith));
        first = taken_differ i (omega arith) f.first;
      })

  pub repeat_passed : Differ r n → repeat_at (take n r) ≡ n
  repeat_passed d =
      let e = length-take-le n r fits in repeat_not (take n r) (rw e (taken_differ n (omega arith) d)) ∙ e
