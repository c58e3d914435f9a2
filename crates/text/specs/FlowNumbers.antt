-- Laws of a route that is copied behind a flow's four numbers.
use Rattle.std.specs.Prelude.{◌≡◌, ℕ, ◌+◌, ◌<◌, ◌≤◌, List, [], ◌∷◌, length, take, replicate, slice_index, slice_set, refl}
use Rattle.std.proofs.Common.{ap, ◌∙◌, append-nil, arith, length-take-le, take_all}
use Rattle.std.proofs.lemmas.List.Edits.{sets, sets-eq}
use Rattle.model.specs.Limits.{most_nodes}
use Rattle.text.specs.DigitsPut.{sets_append, take_next}

-- a route that is copied behind a flow's four numbers
pub record Copied (o r out : List ℕ) (i : ℕ) : Type 0 where
  pub stored : out ≡ sets o 4 (take i r)
  pub long : length r ≡ most_nodes
  pub few : i ≤ most_nodes

pub copied_start : (o r : List ℕ) → length r ≡ most_nodes → Copied o r o 0
copied_start o r h = record { stored = refl; long = h; few = omega arith }

pub copied_more : (o r out : List ℕ) (i : ℕ) (x : ℕ) → Copied o r out i → i < most_nodes → x ≡ slice_index r i → Copied o r (slice_set out (4 + i) x) (i + 1)
copied_more o r out i x c h e =
    record {
      stored =
          rw (
            e,
            c.stored,
            ← (take_next r i (omega (arith, c.long))),
            sets_append (take i r) (slice_index r i ∷ []) o 4,
            length-take-le i r (omega (arith, c.long)),
          );
      long = c.long;
      few = omega arith;
    }

pub copied_done : (t d a k : ℕ) (r out : List ℕ) (i : ℕ) → Copied (t ∷ d ∷ a ∷ k ∷ replicate most_nodes 0) r out i → most_nodes ≤ i → out ≡ t ∷ d ∷ a ∷ k ∷ r
copied_done t d a k r out i c h =
    c.stored
    ∙ ap (sets (t ∷ d ∷ a ∷ k ∷ replicate most_nodes 0) 4) (take_all i r (omega (arith, c.long)))
    ∙ sets-eq r (t ∷ d ∷ a ∷ k ∷ replicate most_nodes 0) 4 (omega (arith, c.long))
    ∙ rw c.long (ap (λ (l : List ℕ). t ∷ d ∷ a ∷ k ∷ l) (append-nil r))
