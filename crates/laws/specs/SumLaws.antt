-- The laws of Σ and of "some", each true because it holds of no numbers and one number more keeps it.
use Rattle.std.specs.Prelude.{◌≡◌, refl, ◌⊎◌, Bool, true, false, ◌&&◌, ◌||◌, ℕ, zero, suc, ◌+◌, ◌-◌, ◌*◌, ◌≤◌, ◌<◌}
use Rattle.std.proofs.Common.{sym, ap, ap₂, ◌∙◌, inl, inr, zero-le, le_refl, add-zero, add-suc, add_assoc, add-one, arith}
use Rattle.std.proofs.Math.Bool.{or-true}
use Rattle.std.proofs.lemmas.Bool.{false≢true}
use Rattle.std.proofs.Math.Decide.{dec_le}
use Rattle.model.specs.Sums.{bit, sum_to, any_to}

-- how many of the n slots from r on pass
abbrev pub count : (ℕ → Bool) → ℕ → ℕ → ℕ
count s r n = sum_to (λ i. bit (s (r + i))) n

-- a sum of smaller terms is smaller
pub sum_le : (f g : ℕ → ℕ) (n : ℕ) → ((i : ℕ) → i < n → f i ≤ g i) → sum_to f n ≤ sum_to g n
unfolding sum_to
sum_le f g zero h = zero-le
sum_le f g (suc n) h =
    let a = sum_le f g n (λ i k. h i (omega arith)) in
    let b = h n (le_refl (suc n)) in omega arith

-- the same terms, the same sum
pub sum_ext : (f g : ℕ → ℕ) (n : ℕ) → ((i : ℕ) → i < n → f i ≡ g i) → sum_to f n ≡ sum_to g n
unfolding sum_to
sum_ext f g zero h = refl
sum_ext f g (suc n) h = ap₂ (λ (x y : ℕ). x + y) (sum_ext f g n (λ i k. h i (omega arith))) (h n (le_refl (suc n)))

-- the sum of two terms at each place
pub sum_add : (f g : ℕ → ℕ) (n : ℕ) → sum_to (λ i. f i + g i) n ≡ sum_to f n + sum_to g n
unfolding sum_to
sum_add f g zero = refl
sum_add f g (suc n) = omega (arith, sum_add f g n)

-- terms that are all 0
pub sum_zero : (f : ℕ → ℕ) (n : ℕ) → ((i : ℕ) → i < n → f i ≡ 0) → sum_to f n ≡ 0
unfolding sum_to
sum_zero f zero h = refl
sum_zero f (suc n) h = omega (arith, sum_zero f n (λ i k. h i (omega arith)), h n (le_refl (suc n)))

-- terms that are all one number
pub sum_const : (c n : ℕ) → sum_to (λ i. c) n ≡ n * c
unfolding sum_to
sum_const c zero = omega arith
sum_const c (suc n) = omega (arith, sum_const c n)

-- a factor common to all terms
pub sum_mul : (c : ℕ) (f : ℕ → ℕ) (n : ℕ) → sum_to (λ i. c * f i) n ≡ c * sum_to f n
unfolding sum_to
sum_mul c f zero = omega arith
sum_mul c f (suc n) = omega (arith, sum_mul c f n)

-- the first n terms, then k more
pub sum_split : (f : ℕ → ℕ) (n k : ℕ) → sum_to f (n + k) ≡ sum_to f n + sum_to (λ i. f (n + i)) k
unfolding sum_to
sum_split f n zero = rw (add-zero n) (omega arith)
sum_split f n (suc k) = rw add-suc (omega (arith, sum_split f n k))

-- the order of two sums is free
pub sum_swap : (f : ℕ → ℕ → ℕ) (n k : ℕ) → sum_to (λ i. sum_to (λ j. f i j) k) n ≡ sum_to (λ j. sum_to (λ i. f i j) n) k
unfolding sum_to
sum_swap f zero k = sym (sum_zero (λ j. 0) k (λ i h. refl))
sum_swap f (suc n) k =
    ap (λ (x : ℕ). x + sum_to (λ j. f n j) k) (sum_swap f n k) ∙ sym (sum_add (λ j. sum_to (λ i. f i j) n) (λ j. f n j) k)

-- one term more, at the end
pub sum_next : (f : ℕ → ℕ) (n : ℕ) → sum_to f (n + 1) ≡ sum_to f n + f n
unfolding sum_to
sum_next f n = rw add-one

-- the first term apart
pub sum_first : (f : ℕ → ℕ) (n : ℕ) → sum_to f (suc n) ≡ f 0 + sum_to (λ i. f (suc i)) n
unfolding sum_to
sum_first f zero = omega arith
sum_first f (suc n) = omega (arith, sum_first f n)

-- more terms, no smaller a sum
pub sum_more : (f : ℕ → ℕ) (n k : ℕ) → n ≤ k → sum_to f n ≤ sum_to f k
sum_more f n k h =
    let d : (d : ℕ) × (k ≡ n + d) = (k - n, omega arith) in
    rw d.1 (omega (arith, sum_split f n d.0))

-- terms that are 0 from n on may be cut off
pub sum_cut : (f : ℕ → ℕ) (n k : ℕ) → n ≤ k → ((i : ℕ) → n ≤ i → i < k → f i ≡ 0) → sum_to f k ≡ sum_to f n
sum_cut f n k h z =
    let d : (d : ℕ) × (k ≡ n + d) = (k - n, omega arith) in
    let y = sum_zero (λ i. f (n + i)) (k - n) (λ i l. z (n + i) (omega arith) (omega arith)) in
    rw d.1 (omega (arith, sum_split f n d.0))

-- one term is at most the sum
pub sum_term : (f : ℕ → ℕ) (n i : ℕ) → i < n → f i ≤ sum_to f n
unfolding sum_to
sum_term f n i h = omega (arith, sum_more f (suc i) n h)

-- smaller terms, one of them strictly, have a strictly smaller sum
pub sum_lt : (f g : ℕ → ℕ) (n i : ℕ) → ((j : ℕ) → j < n → f j ≤ g j) → i < n → f i < g i → sum_to f n < sum_to g n
unfolding sum_to
sum_lt f g n i h l s =
    let d : (d : ℕ) × (n ≡ suc i + d) = (n - suc i, omega arith) in
    let a = sum_le f g i (λ j k. h j (omega arith)) in
    let b = sum_le (λ j. f (suc i + j)) (λ j. g (suc i + j)) d.0 (λ j k. h (suc i + j) (omega arith)) in
    rw d.1 (omega (arith, sum_split f (suc i) d.0, sum_split g (suc i) d.0))

-- nothing passes below 0
pub any_zero : (p : ℕ → Bool) → any_to p 0 ≡ false
unfolding any_to
any_zero p = refl

-- if none passes so far and the next does not, none passes
pub any_next : (p : ℕ → Bool) (n : ℕ) → any_to p n ≡ false → p n ≡ false → any_to p (n + 1) ≡ false
unfolding any_to
any_next p n h k = rw (add-one, h, k)

-- one that passes is enough
pub any_in : (p : ℕ → Bool) (n i : ℕ) → i < n → p i ≡ true → any_to p n ≡ true
unfolding any_to
any_in p zero i h e = absurd (omega arith)
any_in p (suc n) i h e =
    elim (dec_le n i) [
      | yes k ↦ let q : i ≡ n = omega arith in rw (← q, e, or-true)
      | no k ↦ rw (any_in p n i (omega arith) e)
    ]

-- the same tests, the same answer
pub any_ext : (p q : ℕ → Bool) (n : ℕ) → ((j : ℕ) → j < n → p j ≡ q j) → any_to p n ≡ any_to q n
unfolding any_to
any_ext p q zero h = refl
any_ext p q (suc n) h = ap₂ (λ (a b : Bool). a || b) (any_ext p q n (λ j l. h j (omega arith))) (h n (le_refl (suc n)))

-- where none passes, each one fails
pub any_none : (p : ℕ → Bool) (n : ℕ) → any_to p n ≡ false → (i : ℕ) → i < n → p i ≡ false
any_none p n h i l = go (p i) refl
  where
    go : (b : Bool) → p i ≡ b → b ≡ false
    go false e = refl
    go true e = cc (any_in p n i l e)

-- where some passes, here is one
pub any_find : (p : ℕ → Bool) (n : ℕ) → any_to p n ≡ true → (i : ℕ) × (i < n) × (p i ≡ true)
unfolding any_to
any_find p zero h = absurd (false≢true h)
any_find p (suc n) h = go (any_find p n) (any_to p n) refl h
  where
    go : (any_to p n ≡ true → (i : ℕ) × (i < n) × (p i ≡ true)) → (b : Bool) → any_to p n ≡ b → (b || p n) ≡ true
        → (i : ℕ) × (i < suc n) × (p i ≡ true)
    go f true e k = let w = f e in (w.0, omega arith, w.2)
    go f false e k = (n, le_refl (suc n), k)

-- a conjunction gives its parts and is made of them
pub and_l : (p q : Bool) → (p && q) ≡ true → p ≡ true
and_l true q h = refl
and_l false q h = h

pub and_r : (p q : Bool) → (p && q) ≡ true → q ≡ true
and_r true q h = h
and_r false q h = absurd (false≢true h)

pub and_i : (p q : Bool) → p ≡ true → q ≡ true → (p && q) ≡ true
and_i p q h k = rw (h, k)

-- a disjunction has one of its parts and is made of either
pub or_case : (p q : Bool) → (p || q) ≡ true → (p ≡ true) ⊎ (q ≡ true)
or_case true q h = inl refl
or_case false q h = inr h

pub or_l : (p q : Bool) → p ≡ true → (p || q) ≡ true
or_l p q h = rw h

pub or_r : (p q : Bool) → q ≡ true → (p || q) ≡ true
or_r p q h = rw (h, or-true)

pub neither : (p q : Bool) → (p || q) ≡ false → (p ≡ false) × (q ≡ false)
neither true q h = absurd (false≢true (sym h))
neither false q h = (refl, h)

-- a test that implies another counts no more
pub bit_le : (p q : Bool) → (p ≡ true → q ≡ true) → bit p ≤ bit q
bit_le true q h = rw (h refl) (le_refl 1)
bit_le false q h = zero-le

-- of n numbers at most n pass
pub bits_le : (p : ℕ → Bool) (n : ℕ) → sum_to (λ i. bit (p i)) n ≤ n
bits_le p n =
    let h = sum_le (λ i. bit (p i)) (λ i. 1) n (λ i l. bit_le (p i) true (λ e. refl)) in
    omega (arith, sum_const 1 n)

-- a window in two parts
pub count_split : (s : ℕ → Bool) (r n k : ℕ) → count s r (n + k) ≡ count s r n + count s (r + n) k
count_split s r n k = sum_split (λ i. bit (s (r + i))) n k ∙ simp add_assoc

-- each slot of the n from r on that passes p is one of the k from u on and passes q
abbrev pub Into : (ℕ → Bool) → (ℕ → Bool) → ℕ → ℕ → ℕ → ℕ → Type 0
Into p q r n u k = (t : ℕ) → r ≤ t → t < r + n → p t ≡ true → (u ≤ t) × (t < u + k) × (q t ≡ true)

-- then at least as many pass q
pub count_in : (p q : ℕ → Bool) (r n u k : ℕ) → Into p q r n u k → count p r n ≤ count q u k
unfolding sum_to
count_in p q r zero u k h = zero-le
count_in p q r (suc n) u k h = go (λ d i. count_in p q r n u d i) (p (r + n)) refl
  where
    go : ((d : ℕ) → Into p q r n u d → count p r n ≤ count q u d) → (b : Bool) → p (r + n) ≡ b → count p r n + bit b ≤ count q u k
    go ih false e = omega (arith, ih k (λ t l g i. h t l (omega arith) i))
    go ih true e =
        let w = h (r + n) (omega arith) (omega arith) e in
        let x : u + (r + n - u) ≡ r + n = omega arith in
        let y : bit (q (u + (r + n - u))) ≡ 1 = rw (x, w.2) in
        let a = sum_more (λ i. bit (q (u + i))) (suc (r + n - u)) k (omega arith) in
        let b = ih (r + n - u) (λ t l g i. ((h t l (omega arith) i).0, omega arith, (h t l (omega arith) i).2)) in
        omega arith

-- where no slot passes, none is counted
pub count_none : (p : ℕ → Bool) (r n : ℕ) → ((t : ℕ) → r ≤ t → t < r + n → p t ≡ true → ⊥) → count p r n ≡ 0
unfolding sum_to
count_none p r n h = omega (arith, count_in p p r n r 0 (λ t l g i. absurd (h t l g i)))
