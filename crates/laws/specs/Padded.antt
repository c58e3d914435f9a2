-- A list filled up to a length, with zeros or other blank entries: it has that length and begins with the list.
use Rattle.std.specs.Prelude.{◌≡◌, refl, List, ◌++◌, ℕ, ◌≤◌, length, take, replicate}
use Rattle.std.proofs.Common.{◌∙◌, arith, length-append, length-take, take-take, take_at}
use Rattle.std.proofs.lemmas.List.{length-replicate}
use Rattle.document.specs.Reader.{pad}
use Rattle.document.specs.Machine.{filled}

pub pad_length : (n : ℕ) (l : List ℕ) → length (pad n l) ≡ n
pad_length n l = simp (length-take, length-append, length-replicate) (omega arith)

-- cut to its own length it is the list
pub take_filled : {A : Type 0} (n : ℕ) (d : A) (l : List A) → length l ≤ n → take (length l) (filled n d l) ≡ l
take_filled n d l h = take-take (length l) n (l ++ replicate n d) h ∙ take_at l (replicate n d) (length l) refl

pub pad_take : (n : ℕ) (l : List ℕ) → length l ≤ n → take (length l) (pad n l) ≡ l
pad_take n l h = take_filled n 0 l h
