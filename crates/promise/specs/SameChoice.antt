-- Tests that agree choose alike: where two orders, two readinesses and two conflicts agree on the flows 0 .. n − 1, a slot's choice is the same.
use Rattle.std.specs.Prelude.{◌≡◌, refl, Bool, true, false, not, ◌&&◌, ◌||◌, cond, List, [], ◌∷◌, ◌++◌, ℕ, zero, suc, ◌<◌, ltb, eqb, length}
use Rattle.std.proofs.Common.{sym, ap, ap₂, ◌∙◌, inl, inr, le_refl, arith, eqb-true}
use Rattle.model.specs.Sets.{any_of, memb}
use Rattle.document.specs.Machine.{insert, ordered, place}
use Rattle.laws.specs.SumLaws.{or_case}
use Rattle.laws.specs.Members.{memb_empty, memb_head, memb_tail, memb_snoc}
use Rattle.promise.specs.SlotChoice.{ordered_only}

-- every flow of a list is below n
abbrev pub Below : ℕ → List ℕ → Type 0
Below n ls = (l : ℕ) → memb l ls ≡ true → l < n

-- tests of two flows that agree below n
abbrev pub Agree : ℕ → (ℕ → ℕ → Bool) → (ℕ → ℕ → Bool) → Type 0
Agree n p q = (k l : ℕ) → k < n → l < n → p k l ≡ q k l

any_same : (p q : ℕ → Bool) (ls : List ℕ) → ((l : ℕ) → memb l ls ≡ true → p l ≡ q l) → any_of p ls ≡ any_of q ls
unfolding any_of
any_same p q [] f = refl
any_same p q (l ∷ ls) f =
    ap₂ (λ (x y : Bool). x || y) (f l (memb_head l ls)) (any_same p q ls (λ x i. f x (memb_tail x l ls i)))

insert_same : (p q : ℕ → ℕ → Bool) (k : ℕ) (ls : List ℕ) → ((l : ℕ) → memb l ls ≡ true → p k l ≡ q k l) → insert p k ls ≡ insert q k ls
unfolding insert
insert_same p q k [] f = refl
insert_same p q k (l ∷ ls) f =
    ap₂ (λ (b : Bool) (x : List ℕ). cond b (k ∷ l ∷ ls) (l ∷ x)) (f l (memb_head l ls))
    (insert_same p q k ls (λ x i. f x (memb_tail x l ls i)))

ordered_same : (p q : ℕ → ℕ → Bool) (r e : ℕ → Bool) (n : ℕ) → Agree n p q → ((k : ℕ) → k < n → r k ≡ e k) → ordered p r n ≡ ordered q e n
unfolding ordered
ordered_same p q r e zero f g = refl
ordered_same p q r e (suc n) f g =
    let a = ordered_same p q r e n (λ k l i j. f k l (omega arith) (omega arith)) (λ k i. g k (omega arith)) in
    let b = insert_same p q n (ordered p r n) (λ l i. f n l (le_refl (suc n)) (omega (arith, ordered_only p r n l i))) in
    ap₂ (λ (b : Bool) (x : List ℕ). cond b (insert p n (ordered p r n)) x) (g n (le_refl (suc n))) a
    ∙ ap (λ (x : List ℕ). cond (e n) x (ordered q e n)) (b ∙ ap (insert q n) a)

place_same : (n m : ℕ) (c d : ℕ → ℕ → Bool) → Agree n c d → (ls ks : List ℕ) → Below n ls → Below n ks → place m c ls ks ≡ place m d ls ks
unfolding place
place_same n m c d f ls [] i j = refl
place_same n m c d f ls (k ∷ ks) i j =
    let a = any_same (c k) (d k) ls (λ l h. f k l (j k (memb_head k ks)) (i l h)) in
    ap (λ (x : Bool). place m c (more x) ks) a
    ∙ place_same n m c d f (more (any_of (d k) ls)) ks (below (any_of (d k) ls)) (λ l h. j l (memb_tail l k ks h))
  where
    -- what is placed once k is taken, where x says whether it conflicts
    more : Bool → List ℕ
    more x = cond (ltb (length ls) m && not x) (ls ++ (k ∷ [])) ls

    below : (x : Bool) → Below n (more x)
    below x = go (ltb (length ls) m && not x)
      where
        go : (b : Bool) → Below n (cond b (ls ++ (k ∷ [])) ls)
        go false l h = i l h
        go true l h =
            elim (or_case (memb l ls) (eqb l k) (sym (memb_snoc l ls k) ∙ h)) [
              | inl q ↦ i l q
              | inr e ↦ rw (eqb-true l k e) (j k (memb_head k ks))
            ]

-- so a slot's choice is the same
pub choice_same : (n m : ℕ) (p q c d : ℕ → ℕ → Bool) (r e : ℕ → Bool) → Agree n p q → Agree n c d → ((k : ℕ) → k < n → r k ≡ e k)
    → place m c [] (ordered p r n) ≡ place m d [] (ordered q e n)
choice_same n m p q c d r e f g h =
    place_same n m c d g [] (ordered p r n) (λ l i. absurd (memb_empty l i)) (λ l i. (ordered_only p r n l i).0)
    ∙ ap (place m d []) (ordered_same p q r e n f h)
