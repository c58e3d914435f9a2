-- Arrays that a loop goes through or fills, and the lists of the definitions: what one entry more does.
use Rattle.std.specs.Prelude.{◌≡◌, refl, Bool, true, false, ◌||◌, cond, List, [], ◌∷◌, ◌++◌, ℕ, zero, suc, ◌+◌, ◌-◌, ◌≤◌, ◌<◌, eqb, ltb, length, get_or, take, drop, set, replicate}
use Rattle.std.proofs.Common.{sym, ap, ap₂, ◌∙◌, append-nil, zero-le, le_refl, add-one, arith, eqb-true, lt-ltb, le-ltb, length-append, length-set, length-take, drop_of_length-le, get_or-set_same, get_or-set_other, take-suc, take-suc-set, ext_get_or, length-take-le, drop-cons, get_or-take, drop-set-lt, drop-drop}
use Rattle.std.proofs.Math.Bool.{or-false}
use Rattle.std.proofs.lemmas.Bool.{eqb-false}
use Rattle.std.proofs.Math.Decide.{dec_le}
use Rattle.std.proofs.lemmas.List.{length-replicate, get_or_at, set_past}
use Rattle.std.proofs.Math.ListN.{get_or-append}
use Rattle.std.proofs.Math.Seq.{take-append-add, set-append_seam, append_snoc, take-set-lt}
use Rattle.document.specs.Machine.{filled}
use Rattle.model.specs.Sets.{any_of, memb, list_to, filter_to}
use Rattle.model.specs.Sums.{bit, sum_to, any_to}
use Rattle.laws.specs.SumLaws.{sum_le, sum_add, sum_zero, sum_next, sum_more, bits_le}
use Rattle.laws.specs.Members.{any_append}

-- the first n entries of an array are now those of f, the others as they were
pub record Through (f : ℕ → ℕ) (n : ℕ) (old new : List ℕ) : Type 0 where
  pub long : length new ≡ length old
  pub below : (k : ℕ) → k < n → get_or new k 0 ≡ f k
  pub above : (k : ℕ) → n ≤ k → get_or new k 0 ≡ get_or old k 0

pub through_none : (f : ℕ → ℕ) (l : List ℕ) → Through f 0 l l
through_none f l = record { long = refl; below = λ k h. absurd (omega arith); above = λ k h. refl }

pub through_next : (f : ℕ → ℕ) (n : ℕ) (old new : List ℕ) (x : ℕ) → n < length old → x ≡ f n → Through f n old new
    → Through f (n + 1) old (set new n x)
through_next f n old new x h e t =
    record {
      long = length-set new n x ∙ t.long;
      below = λ k l. elim (dec_le n k) [
        | yes d ↦ let q : k ≡ n = omega arith in rw (q, get_or-set_same new n x 0 (rw t.long h)) e
        | no d ↦ get_or-set_other new n k x 0 (λ q. omega arith) ∙ t.below k (omega arith)
      ];
      above = λ k l. get_or-set_other new n k x 0 (λ q. omega arith) ∙ t.above k (omega arith);
    }

-- an entry that is f's already may stay
pub through_stay : (f : ℕ → ℕ) (n : ℕ) (old new : List ℕ) → get_or old n 0 ≡ f n → Through f n old new → Through f (n + 1) old new
through_stay f n old new e t =
    record {
      long = t.long;
      below = λ k l. elim (dec_le n k) [
        | yes d ↦ let q : k ≡ n = omega arith in rw q (t.above n (le_refl n) ∙ e)
        | no d ↦ t.below k (omega arith)
      ];
      above = λ k l. t.above k (omega arith);
    }

-- the same at an equal number of entries
pub through_all : (f : ℕ → ℕ) (n m : ℕ) (old new : List ℕ) → n ≡ m → Through f n old new → Through f m old new
through_all f n m old new e t = rw (← e) t

-- an array that holds a list's entries and then blank ones
take-replicate {ℓ} : {A : Type ℓ} (j n : ℕ) (d : A) → j ≤ n → take j (replicate n d) ≡ replicate j d
take-replicate zero n d h = refl
take-replicate (suc j) zero d h = absurd (omega arith)
take-replicate (suc j) (suc n) d h = ap (λ l. d ∷ l) (take-replicate j n d (omega arith))

filled_is {ℓ} : {A : Type ℓ} (d : A) (l : List A) (n j : ℕ) → n ≡ length l + j → filled n d l ≡ l ++ replicate j d
filled_is d l n j e =
    rw e (take-append-add l (replicate (length l + j) d) j ∙ ap (λ r. l ++ r) (take-replicate j (length l + j) d (omega arith)))

-- with one entry more
pub filled_next {ℓ} : {A : Type ℓ} (n : ℕ) (d : A) (l : List A) (x : A) → length l < n
    → set (filled n d l) (length l) x ≡ filled n d (l ++ (x ∷ []))
filled_next n d l x h = go (n - suc (length l)) (omega arith)
  where
    go : (j : ℕ) → n ≡ length l + suc j → set (filled n d l) (length l) x ≡ filled n d (l ++ (x ∷ []))
    go j e =
        let f : n ≡ length (l ++ (x ∷ [])) + j = rw (length-append l (x ∷ [])) (omega arith) in
        ap (λ r. set r (length l) x) (filled_is d l n (suc j) e) ∙ set-append_seam l d (replicate j d) x
        ∙ sym (append_snoc l x (replicate j d)) ∙ sym (filled_is d (l ++ (x ∷ [])) n j f)

pub length-filled {ℓ} : {A : Type ℓ} (n : ℕ) (d : A) (l : List A) → length (filled n d l) ≡ n
length-filled n d l = length-take n (l ++ replicate n d) ∙ rw (length-append, length-replicate) (omega arith)

-- some entry of the first n passes
pub any_take : (p : ℕ → Bool) (l : List ℕ) (n : ℕ) → n ≤ length l → any_of p (take n l) ≡ any_to (λ j. p (get_or l j 0)) n
unfolding any_of any_to
any_take p l zero h = refl
any_take p l (suc n) h =
    rw (take-suc l n 0 h) (any_append p (take n l) (get_or l n 0 ∷ []) ∙ rw (any_take p l n (omega arith), or-false))

-- the listed values
pub length_list_to : (f : ℕ → ℕ) (n : ℕ) → length (list_to f n) ≡ n
unfolding list_to
length_list_to f zero = refl
length_list_to f (suc n) = length-append (list_to f n) (f n ∷ []) ∙ rw (length_list_to f n) (add-one n)

pub get_or_list_to : (f : ℕ → ℕ) (n k : ℕ) → k < n → get_or (list_to f n) k 0 ≡ f k
unfolding list_to
get_or_list_to f zero k h = absurd (omega arith)
get_or_list_to f (suc n) k h =
    elim (dec_le n k) [
      | yes d ↦ let q : k ≡ n = omega arith in rw q (get_or_at (list_to f n) (f n) [] 0 n (length_list_to f n))
      | no d ↦ get_or-append (list_to f n) (f n ∷ []) 0 k (rw (length_list_to f n) (omega arith)) ∙ get_or_list_to f n k (omega arith)
    ]

-- an array of n numbers is the list of f if each entry is f's
pub is_list_to : (f : ℕ → ℕ) (n : ℕ) (l : List ℕ) → length l ≡ n → ((k : ℕ) → k < n → get_or l k 0 ≡ f k) → l ≡ list_to f n
is_list_to f n l e h =
    ext_get_or 0 l (list_to f n) (e ∙ sym (length_list_to f n)) (λ k i. h k (rw e at i) ∙ sym (get_or_list_to f n k (rw e at i)))

-- the numbers that pass, as many as pass
pub length_filter_to : (p : ℕ → Bool) (n : ℕ) → length (filter_to p n) ≡ sum_to (λ k. bit (p k)) n
unfolding filter_to sum_to
length_filter_to p zero = refl
length_filter_to p (suc n) =
    length-append (filter_to p n) _ ∙ ap₂ (λ (x y : ℕ). x + y) (length_filter_to p n) (one (p n))
  where
    one : (b : Bool) → length (cond b (n ∷ []) []) ≡ bit b
    one true = refl
    one false = refl

pub filter_next : (p : ℕ → Bool) (n : ℕ) → filter_to p (n + 1) ≡ filter_to p n ++ cond (p n) (n ∷ []) []
unfolding filter_to
filter_next p n = rw add-one

pub bit_one : (p : Bool) → bit p ≤ 1
bit_one true = omega arith
bit_one false = omega arith

-- no more numbers below n are in a list than it is long
once : (x n : ℕ) → sum_to (λ k. bit (eqb k x)) n ≤ bit (ltb x n)
unfolding sum_to
once x zero = zero-le
once x (suc n) = go (once x n) (eqb n x) refl
  where
    go : sum_to (λ k. bit (eqb k x)) n ≤ bit (ltb x n) → (b : Bool) → eqb n x ≡ b → sum_to (λ k. bit (eqb k x)) n + bit b ≤ bit (ltb x (suc n))
    go i true e = let q = eqb-true n x e in rw (lt-ltb x (suc n) (omega arith)) (omega (arith, rw (le-ltb x n (omega arith)) at i))
    go i false e =
        elim (dec_le n x) [
          | yes d ↦ omega (arith, rw (le-ltb x n d) at i)
          | no d ↦ rw (lt-ltb x (suc n) (omega arith)) (omega (arith, rw (lt-ltb x n (omega arith)) at i))
        ]

pub members_le : (l : List ℕ) (n : ℕ) → sum_to (λ k. bit (memb k l)) n ≤ length l
unfolding any_of
members_le [] n = omega (arith, sum_zero (λ k. 0) n (λ k h. refl))
members_le (x ∷ l) n =
    let a = sum_le (λ k. bit (eqb k x || memb k l)) (λ k. bit (eqb k x) + bit (memb k l)) n (λ k h. either (eqb k x) (memb k l)) in
    let b = once x n in
    omega (arith, sum_add (λ k. bit (eqb k x)) (λ k. bit (memb k l)) n, members_le l n, bit_one (ltb x n))
  where
    either : (p q : Bool) → bit (p || q) ≤ bit p + bit q
    either true q = omega arith
    either false q = omega arith

-- x put in place i of the first n, which then move up by one: a move changes nothing of the whole
pub move_up : (l : List ℕ) (i n x : ℕ) → i < n → n ≤ length l
    → take i l ++ x ∷ drop i (take n l) ≡ take (i + 1) (set l i x) ++ get_or l i 0 ∷ drop (i + 1) (take n (set l i x))
move_up l i n x h k =
    let w : i < length (take n l) = rw (length-take-le n l k) h in
    let d : drop i (take n l) ≡ get_or l i 0 ∷ drop (suc i) (take n l) =
    drop-cons (take n l) i 0 w ∙ ap (λ (y : ℕ). y ∷ drop (suc i) (take n l)) (get_or-take n l i 0 h) in
    let e : drop (suc i) (take n (set l i x)) ≡ drop (suc i) (take n l) =
    ap (drop (suc i)) (take-set-lt n l i x h) ∙ drop-set-lt (suc i) (take n l) i x (omega arith) in
    rw (add-one, d, e, take-suc-set l i x (omega arith)) (sym (append_snoc (take i l) x (get_or l i 0 ∷ drop (suc i) (take n l))))

-- and the last lands behind the first n
pub move_end : (l : List ℕ) (n x : ℕ) → n < length l → take n l ++ x ∷ drop n (take n l) ≡ take (n + 1) (set l n x)
move_end l n x h =
    rw (add-one, take-suc-set l n x h, drop_of_length-le (take n l) {i = n} (rw (length-take-le n l (omega arith)) (le_refl n)))

pub filter_hit : (p : ℕ → Bool) (n : ℕ) → p n ≡ true → filter_to p (n + 1) ≡ filter_to p n ++ (n ∷ [])
filter_hit p n e = filter_next p n ∙ rw e

pub filter_miss : (p : ℕ → Bool) (n : ℕ) → p n ≡ false → filter_to p (n + 1) ≡ filter_to p n
filter_miss p n e = filter_next p n ∙ rw (e, append-nil)

-- before one that passes fewer pass than in all
pub filter_room : (p : ℕ → Bool) (k n : ℕ) → k < n → p k ≡ true → length (filter_to p k) < length (filter_to p n)
filter_room p k n h e =
    let b : bit (p k) ≡ 1 = rw e in
    let m = sum_more (λ j. bit (p j)) (k + 1) n (omega arith) in
    omega (arith, length_filter_to p k, length_filter_to p n, sum_next (λ j. bit (p j)) k)

pub filter_le : (p : ℕ → Bool) (n : ℕ) → length (filter_to p n) ≤ n
filter_le p n = omega (arith, length_filter_to p n, bits_le p n)

pub filter_none : (p : ℕ → Bool) (n : ℕ) → ((k : ℕ) → k < n → p k ≡ false) → filter_to p n ≡ []
unfolding filter_to
filter_none p zero h = refl
filter_none p (suc n) h = rw (filter_none p n (λ k l. h k (omega arith)), h n (le_refl (suc n)))

-- the next entry put behind those that an array holds
pub filled_put {ℓ} : {A : Type ℓ} (n : ℕ) (d : A) (l array : List A) (i : ℕ) (x : A) → array ≡ filled n d l → i ≡ length l → length l < n
    → set array i x ≡ filled n d (l ++ (x ∷ []))
filled_put n d l array i x e f h = rw (e, f) (filled_next n d l x h)

-- a blank array reads 0 everywhere
pub get_or_zeros : (n k : ℕ) → get_or {A = ℕ} (replicate n 0) k 0 ≡ 0
get_or_zeros zero k = refl
get_or_zeros (suc n) zero = refl
get_or_zeros (suc n) (suc k) = get_or_zeros n k

-- entries within a bound, and one more
pub set_le : (l : List ℕ) (k x m : ℕ) → k < length l → ((j : ℕ) → j < k → get_or l j 0 ≤ m) → x ≤ m → (j : ℕ) → j < k + 1 → get_or (set l k x) j 0 ≤ m
set_le l k x m h a b j i = elim (dec_le k j) [
  | yes d ↦ let e : j ≡ k = omega arith in rw (e, get_or-set_same l k x 0 h) b
  | no d ↦ rw (get_or-set_other l k j x 0 (λ e. omega arith)) (a j (omega arith))
]

-- and of a whole list, wherever one is put
pub set_le_all : (l : List ℕ) (k x m : ℕ) → ((j : ℕ) → get_or l j 0 ≤ m) → x ≤ m → (j : ℕ) → get_or (set l k x) j 0 ≤ m
set_le_all l k x m a b j = elim (dec_le (length l) k) [
  | yes d ↦ rw (set_past l k x d) (a j)
  | no d ↦ go (eqb j k) refl d
]
  where
    go : (c : Bool) → eqb j k ≡ c → (length l ≤ k → ⊥) → get_or (set l k x) j 0 ≤ m
    go true e d = rw (eqb-true j k e, get_or-set_same l k x 0 (omega arith)) b
    go false e d = rw (get_or-set_other l k j x 0 (eqb-false j k e)) (a j)

-- entries that stay from n on stay from a later place on
pub drop_more {ℓ} : {A : Type ℓ} (n m : ℕ) (a b : List A) → n ≤ m → drop n a ≡ drop n b → drop m a ≡ drop m b
drop_more n m a b h e =
    let d : n + (m - n) ≡ m = omega arith in
    rw (← d) (sym (drop-drop (m - n) n a) ∙ ap (drop (m - n)) e ∙ drop-drop (m - n) n b)
