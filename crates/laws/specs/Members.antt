-- The laws of lists of numbers, each true because it holds of the empty list and one number more keeps it.
use Rattle.std.specs.Prelude.{◌≡◌, refl, ◌⊎◌, ◌≢◌, Bool, true, false, not, ◌&&◌, ◌||◌, List, [], ◌∷◌, ◌++◌, ℕ, zero, suc, ◌≤◌, ◌<◌, eqb, length, get_or}
use Rattle.std.proofs.Common.{sym, ◌∙◌, inl, inr, zero-le, le_refl, arith, eqb-true, eq-eqb, ne_eqb}
use Rattle.std.proofs.Math.Bool.{or-false, or_assoc}
use Rattle.std.proofs.lemmas.Bool.{false≢true}
use Rattle.model.specs.Sums.{bit, sum_to}
use Rattle.laws.specs.SumLaws.{sum_lt, bit_le, and_l, and_i, or_case, or_l, or_r}
use Rattle.model.specs.Sets.{any_of, memb}

-- some number of two lists passes if one of the first does or one of the second
pub any_append : (p : ℕ → Bool) (ls ks : List ℕ) → any_of p (ls ++ ks) ≡ (any_of p ls || any_of p ks)
unfolding any_of
any_append p [] ks = refl
any_append p (l ∷ ls) ks = rw (any_append p ls ks, or_assoc)

-- no number is in the empty list
pub memb_empty : (l : ℕ) → memb l [] ≡ true → ⊥
unfolding any_of
memb_empty l h = false≢true h

-- the first number of a list is in it, and so are the others, and nothing else
pub memb_head : (k : ℕ) (ks : List ℕ) → memb k (k ∷ ks) ≡ true
unfolding any_of
memb_head k ks = or_l (eqb k k) (memb k ks) (eq-eqb k k refl)

pub memb_tail : (l k : ℕ) (ks : List ℕ) → memb l ks ≡ true → memb l (k ∷ ks) ≡ true
unfolding any_of
memb_tail l k ks h = or_r (eqb l k) (memb l ks) h

pub memb_case : (l k : ℕ) (ks : List ℕ) → memb l (k ∷ ks) ≡ true → (l ≡ k) ⊎ (memb l ks ≡ true)
unfolding any_of
memb_case l k ks h = elim (or_case (eqb l k) (memb l ks) h) [ inl e ↦ inl (eqb-true l k e) | inr i ↦ inr i ]

-- k at the end: it is in the list, and so is what was there, and nothing else
pub memb_snoc : (l : ℕ) (ls : List ℕ) (k : ℕ) → memb l (ls ++ (k ∷ [])) ≡ (memb l ls || eqb l k)
unfolding any_of
memb_snoc l ls k = any_append (eqb l) ls (k ∷ []) ∙ rw (or-false (eqb l k))

-- the number at a place of the list is in it
pub memb_at : (ls : List ℕ) (i : ℕ) → i < length ls → memb (get_or ls i 0) ls ≡ true
memb_at [] i h = absurd (omega arith)
memb_at (l ∷ ls) zero h = memb_head l ls
memb_at (l ∷ ls) (suc i) h = memb_tail (get_or ls i 0) l ls (memb_at ls i (omega arith))

-- one that passes is enough
pub one_of : (p : ℕ → Bool) (ls : List ℕ) (l : ℕ) → memb l ls ≡ true → p l ≡ true → any_of p ls ≡ true
unfolding any_of
one_of p [] l i e = absurd (memb_empty l i)
one_of p (k ∷ ks) l i e =
    elim (memb_case l k ks i) [ inl q ↦ or_l (p k) _ (rw (← q) e) | inr j ↦ or_r (p k) _ (one_of p ks l j e) ]

-- where none passes, each one fails
pub none_of : (p : ℕ → Bool) (ls : List ℕ) → any_of p ls ≡ false → (l : ℕ) → memb l ls ≡ true → p l ≡ false
none_of p ls h l i = go (p l) refl
  where
    go : (b : Bool) → p l ≡ b → b ≡ false
    go false e = refl
    go true e = cc (one_of p ls l i e)

-- where some passes, here is one
pub some_of : (p : ℕ → Bool) (ls : List ℕ) → any_of p ls ≡ true → (l : ℕ) × (memb l ls ≡ true) × (p l ≡ true)
unfolding any_of
some_of p [] h = absurd (false≢true h)
some_of p (k ∷ ks) h =
    elim (or_case (p k) (any_of p ks) h) [
      | inl e ↦ (k, memb_head k ks, e)
      | inr i ↦ let w = some_of p ks i in (w.0, memb_tail w.0 k ks w.1, w.2)
    ]

-- each earlier number of the list is in the relation R to each later one
unfoldable pub Pairs : (ℕ → ℕ → Type 0) → List ℕ → Type 0
Pairs R [] = Unit
Pairs R (k ∷ ks) = ((l : ℕ) → memb l ks ≡ true → R k l) × Pairs R ks

-- a relation that implies another, for the numbers of the list
pub pairs_map : (R Q : ℕ → ℕ → Type 0) (ls : List ℕ)
    → ((k l : ℕ) → memb k ls ≡ true → memb l ls ≡ true → R k l → Q k l) → Pairs R ls → Pairs Q ls
unfolding Pairs
pairs_map R Q [] f p = tt
pairs_map R Q (k ∷ ks) f p = (
  λ l i. f k l (memb_head k ks) (memb_tail l k ks i) (p.0 l i),
  pairs_map R Q ks (λ h l i j. f h l (memb_tail h k ks i) (memb_tail l k ks j)) p.1,
)

-- one more at the end
pub pairs_snoc : (R : ℕ → ℕ → Type 0) (ls : List ℕ) (k : ℕ) → Pairs R ls → ((l : ℕ) → memb l ls ≡ true → R l k) → Pairs R (ls ++ (k ∷ []))
unfolding Pairs
pairs_snoc R [] k p f = ((λ l i. absurd (memb_empty l i)), tt)
pairs_snoc R (h ∷ hs) k p f = (
  λ l i. elim (or_case (memb l hs) (eqb l k) (sym (memb_snoc l hs k) ∙ i)) [
    | inl j ↦ p.0 l j
    | inr e ↦ rw (eqb-true l k e) (f h (memb_head h hs))
  ],
  pairs_snoc R hs k p.1 (λ l i. f l (memb_tail l h hs i)),
)

-- so are the numbers at the places i < j
pub pairs_at : (R : ℕ → ℕ → Type 0) (ls : List ℕ) (i j : ℕ) → Pairs R ls → i < j → j < length ls → R (get_or ls i 0) (get_or ls j 0)
unfolding Pairs
pairs_at R [] i j p h k = absurd (omega arith)
pairs_at R (l ∷ ls) i zero p h k = absurd (omega arith)
pairs_at R (l ∷ ls) zero (suc j) p h k = p.0 (get_or ls j 0) (memb_at ls j (omega arith))
pairs_at R (l ∷ ls) (suc i) (suc j) p h k = pairs_at R ls i j p.1 (omega arith) (omega arith)

-- different numbers below n that pass are no more than pass below n
pub length_le : (q : ℕ → Bool) (n : ℕ) (ls : List ℕ) → Pairs ◌≢◌ ls → ((l : ℕ) → memb l ls ≡ true → (l < n) × (q l ≡ true))
    → length ls ≤ sum_to (λ l. bit (q l)) n
unfolding Pairs
length_le q n [] p f = zero-le
length_le q n (k ∷ ks) p f =
    let w = f k (memb_head k ks) in
    let t : bit (q k && not (eqb k k)) < bit (q k) = rw (w.1, eq-eqb k k refl) (le_refl 1) in
    omega (arith, length_le rest n ks p.1 left, sum_lt (λ l. bit (rest l)) (λ l. bit (q l)) n k fewer w.0 t)
  where
    -- those that pass, but for k
    rest : ℕ → Bool
    rest l = q l && not (eqb l k)

    fewer : (l : ℕ) → l < n → bit (rest l) ≤ bit (q l)
    fewer l i = bit_le (rest l) (q l) (and_l (q l) (not (eqb l k)))

    left : (l : ℕ) → memb l ks ≡ true → (l < n) × (rest l ≡ true)
    left l i =
        let g = f l (memb_tail l k ks i) in
        let d = ne_eqb l k (λ e. p.0 l i (sym e)) in (g.0, and_i (q l) _ g.1 (rw d))
