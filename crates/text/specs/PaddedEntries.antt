-- Laws of lists filled up with zeros: each entry is the list's own, or 0 beyond it.
use Rattle.std.specs.Prelude.{◌≡◌, ℕ, zero, suc, ◌+◌, ◌<◌, List, [], ◌∷◌, ◌++◌, length, take, drop, replicate, slice_index, refl}
use Rattle.std.proofs.Common.{sym, ◌∙◌, arith, get_or-take, get_or-drop, ext_get_or, length-take}
use Rattle.std.proofs.lemmas.List.{take-append-le}
use Rattle.document.specs.Reader.{pad}
use Rattle.laws.specs.Padded.{pad_length}

zeros_at : (m i : ℕ) → ◌≡◌ {A = ℕ} (slice_index (replicate m 0) i) 0
zeros_at zero i = refl
zeros_at (suc m) zero = refl
zeros_at (suc m) (suc i) = zeros_at m i

after_at : (l : List ℕ) (m i : ℕ) → slice_index (l ++ replicate m 0) i ≡ slice_index l i
after_at [] m i = zeros_at m i
after_at (x ∷ l) m zero = refl
after_at (x ∷ l) m (suc i) = after_at l m i

pub pad_at : (n : ℕ) (l : List ℕ) (i : ℕ) → i < n → slice_index (pad n l) i ≡ slice_index l i
pad_at n l i h = get_or-take n (l ++ replicate n 0) i 0 h ∙ after_at l n i

-- a list of that length with the same entries
pub is_pad : (n : ℕ) (r l : List ℕ) → length r ≡ n → ((i : ℕ) → i < n → slice_index r i ≡ slice_index l i) → r ≡ pad n l
is_pad n r l e h =
    ext_get_or 0 r (pad n l) (e ∙ sym (pad_length n l))
    (λ i k. let j : i < n = omega arith in h i j ∙ sym (pad_at n l i j))

-- entries from k on, of a list that is filled up
pub pad_drop : (k n : ℕ) (l : List ℕ) → pad n (drop k (pad (k + n) l)) ≡ pad n (drop k l)
pad_drop k n l = is_pad n (pad n (drop k (pad (k + n) l))) (drop k l) (pad_length n (drop k (pad (k + n) l))) (λ i h. go i h)
  where
    go : (i : ℕ) → i < n → slice_index (pad n (drop k (pad (k + n) l))) i ≡ slice_index (drop k l) i
    go i h =
        pad_at n (drop k (pad (k + n) l)) i h
        ∙ get_or-drop k (pad (k + n) l) i 0
        ∙ pad_at (k + n) l (k + i) (omega arith)
        ∙ sym (get_or-drop k l i 0)

-- a list that is long enough is not filled up
pub pad_long : (n : ℕ) (l : List ℕ) → length (take n l) ≡ n → take n l ≡ pad n l
pad_long n l e = sym (take-append-le n l (replicate n 0) (omega (arith, length-take n l)))
