-- A refusal's field is one that the refused line has: its rule comes after that of the form, so the line has the word and the numbers that the rule speaks of.
use Rattle.std.specs.Prelude.{◌≡◌, refl, ◌≢◌, Bool, false, ◌&&◌, ◌||◌, cond, List, ℕ, ◌+◌, ◌-◌, ◌*◌, ◌≤◌, ◌<◌, leb, eqb, length, get_or, drop}
use Rattle.std.proofs.Math.Bool.{true}
use Rattle.std.proofs.Common.{arith, length-drop}
use Rattle.std.proofs.Math.Dec.{ltb}
use borrow.Author.Tests.{ltb-true, leb-true, eqb-true}
use Rattle.model.specs.declared.answers.Refusal.{Refusal}
use Rattle.model.specs.declared.answers.Refusal.TheVariants.{Nothing, BadForm, NoChannel, TooManyFlows, BadPeriod, BadDeadline, BadTries, BadRoute, EqualNeighbours, TooMuchWork}
use Rattle.model.specs.Limits.{most_flows, most_nodes}
use Rattle.model.specs.Refusals.{refusal_number}
use Rattle.document.specs.Text.{set_word, flow_word, fields, well_formed, numbers_of}
use Rattle.document.specs.BadField.{breaks_first, breaks_flow, bad_field, field_of}
use Rattle.document.specs.Reader.{map_fault, repeat_at, flow_fault, first_line_fault, flow_line_fault}
use Rattle.laws.specs.SumLaws.{and_r}
use Rattle.laws.specs.LineFields.{found, numbers_length, nodes_in}

-- What the rules see to, of a refusal of line l: the field is one of the line, and an 8's node is one of the n of the route.
pub record Fits (breaks : ℕ → List ℕ → Bool) (l : List ℕ) (equal n : ℕ) (r : Refusal) : Type 0 where
  pub present : field_of r (bad_field breaks l) equal ≤ length (fields l)
  pub repeats : refusal_number r ≡ 8 → equal < n

module _ (breaks : ℕ → List ℕ → Bool) (l : List ℕ) (equal n : ℕ) where
  -- a refusal other than 8
  fits : (x : Refusal) → field_of x (bad_field breaks l) equal ≤ length (fields l) → refusal_number x ≢ 8 → Fits breaks l equal n x
  fits x h d = record { present = h; repeats = λ k. absurd (d k) }

  form_fits : Fits breaks l equal n BadForm
  form_fits = fits BadForm (omega (arith, (found breaks 1 (fields l) (omega arith)).below)) (λ e. omega arith)

  nothing_fits : Fits breaks l equal n Nothing
  nothing_fits = fits Nothing (omega arith) (λ e. omega arith)

  -- one test of a chain of rules
  by_test : (b : Bool) (x y : Refusal) → (b ≡ true → Fits breaks l equal n x) → Fits breaks l equal n y → Fits breaks l equal n (cond b x y)
  by_test true x y f g = f refl
  by_test false x y f g = g

  by_rule : (b : Bool) (x y : Refusal) → field_of x (bad_field breaks l) equal ≤ length (fields l) → refusal_number x ≢ 8
      → Fits breaks l equal n y → Fits breaks l equal n (cond b x y)
  by_rule b x y h d g = by_test b x y (λ e. fits x h d) g

  map_fits : (i : ℕ) → 2 ≤ length (fields l) → Fits breaks l equal n (map_fault i)
  map_fits i h = by_rule (eqb i 0) NoChannel Nothing (omega arith) (λ e. omega arith) nothing_fits

  flow_fits : (k t d c i : ℕ) (r : List ℕ) → equal ≡ repeat_at r → n ≡ length r → n + 5 ≤ length (fields l) → Fits breaks l equal n (flow_fault k t d c i r)
  unfolding flow_fault
  flow_fits k t d c i r p q h =
      by_rule (leb most_flows k) TooManyFlows _ (omega arith) (λ e. omega arith)
      (by_rule (eqb t 0) BadPeriod _ (omega arith) (λ e. omega arith)
      (by_rule (eqb d 0 || ltb t d) BadDeadline _ (omega arith) (λ e. omega arith)
      (by_rule (eqb c 0 || ltb 4 c) BadTries _ (omega arith) (λ e. omega arith)
      (by_rule (ltb i 2 || ltb most_nodes i) BadRoute _ (omega arith) (λ e. omega arith)
      (by_test (ltb (repeat_at r) (length r)) EqualNeighbours _ equals
      (by_rule (ltb d ((i - 1) * c)) TooMuchWork Nothing (omega arith) (λ e. omega arith) nothing_fits))))))
    where
      equals : ltb (repeat_at r) (length r) ≡ true → Fits breaks l equal n EqualNeighbours
      equals e = let w : equal < n = omega (arith, ltb-true (repeat_at r) (length r) e) in record { present = omega arith; repeats = λ k. w }

pub first_line_fits : (l : List ℕ) → Fits breaks_first l 0 0 (first_line_fault l)
unfolding first_line_fault
first_line_fits l =
    by_test breaks_first l 0 0 (well_formed set_word l && eqb (length (numbers_of l)) 1) (map_fault (get_or (numbers_of l) 0 0)) BadForm
    (λ e. map_fits breaks_first l 0 0 (get_or (numbers_of l) 0 0)
    (omega (arith, numbers_length l, eqb-true (length (numbers_of l)) 1 (and_r (well_formed set_word l) _ e))))
    (form_fits breaks_first l 0 0)

pub flow_line_fits : (k : ℕ) (l : List ℕ) → Fits breaks_flow l (repeat_at (nodes_in l)) (length (nodes_in l)) (flow_line_fault k l)
unfolding flow_line_fault
flow_line_fits k l =
    let vs = numbers_of l in
    by_test breaks_flow l _ _ (well_formed flow_word l && leb 4 (length vs))
    (flow_fault k (get_or vs 0 0) (get_or vs 1 0) (get_or vs 3 0) (length vs - 4) (drop 4 vs)) BadForm
    (λ e. flow_fits breaks_flow l _ _ k (get_or vs 0 0) (get_or vs 1 0) (get_or vs 3 0) (length vs - 4) (drop 4 vs) refl refl
    (omega (arith, numbers_length l, length-drop 4 vs, leb-true 4 (length vs) (and_r (well_formed flow_word l) _ e))))
    (form_fits breaks_flow l _ _)
