-- One flow in rule 4's choice: it is placed if its packet is ready and its link shares no node with a placed one.
use Rattle.std.specs.Prelude.{◌≡◌, refl, Bool, true, false, not, ◌&&◌, List, ℕ, ◌+◌, ◌≤◌, ◌<◌, drop, get_or, length}
use Rattle.std.proofs.Common.{sym, ap, ◌∙◌}
use Rattle.machine.specs.LentArrays.{Links, Placing}
use Rattle.machine.specs.PlacedChoice.{clash_ends, place_if, place_none, place_rest, ChoiceSoFar, choice_more, choice_skip}
use Rattle.machine.specs.LinkColumns.{from_in, end_in, link_in}
use Rattle.model.specs.Limits.{most_channels, most_flows}

-- flow k's next link shares no node with a placed one
abbrev pub link_free : List ℕ → Links → ℕ → Placing → Bool
link_free sent links k q = not (clash_ends (from_in sent links k) (end_in sent links k 1) q.from q.to q.placed)

-- flow k judged
abbrev pub judge : List ℕ → Links → Bool → ℕ → Placing → Placing
judge sent links ready k q = place_if (ready && link_free sent links k q) k (from_in sent links k) (end_in sent links k 1) q

module _ (sent : List ℕ) (links : Links) (ready : Bool) (k : ℕ) (q : Placing) where
  pub placed_if_ready : (a b : ℕ) (after : Placing) → ready ≡ true → a ≡ from_in sent links k → b ≡ end_in sent links k 1
      → after ≡ place_if (not (clash_ends a b q.from q.to q.placed)) k a b q → after ≡ judge sent links ready k q
  placed_if_ready a b after e f g w = rw (e, ← f, ← g) w

  pub not_ready : ready ≡ false → q ≡ judge sent links ready k q
  not_ready e =
      let free : Bool = link_free sent links k q in
      place_none (ready && free) k (from_in sent links k) (end_in sent links k 1) q (ap (λ (b : Bool). b && free) e)

  -- behind the placed nothing changes
  pub judge_rest : (after : Placing) → after ≡ judge sent links ready k q → (old : List ℕ) → drop q.placed q.chosen ≡ drop q.placed old
      → drop after.placed after.chosen ≡ drop after.placed old
  judge_rest after w old e = place_rest (ready && link_free sent links k q) k (from_in sent links k) (end_in sent links k 1) q after w old e

-- what is placed so far stays together with what is still to be judged the same choice
pub choice_next : (m : ℕ) (sent : List ℕ) (links : Links) (r : ℕ → Bool) (ord : List ℕ) (i : ℕ) (q : Placing) → ChoiceSoFar m (link_in sent links) r ord i q
    → (k : ℕ) → m ≤ most_channels → q.placed < m → i < length ord → get_or ord i 0 ≡ k → k < most_flows
    → (after : Placing) → after ≡ judge sent links (r k) k q → ChoiceSoFar m (link_in sent links) r ord (i + 1) after
choice_next m sent links r ord i q c k l f h o b after w = go (r k) refl w
  where
    go : (x : Bool) → r k ≡ x → after ≡ judge sent links x k q → ChoiceSoFar m (link_in sent links) r ord (i + 1) after
    go true e v = choice_more m (link_in sent links) r ord i q c k _ _ l f h o e b refl after v
    go false e v = rw (v ∙ sym (place_none false k (from_in sent links k) (end_in sent links k 1) q refl)) (choice_skip m (link_in sent links) r ord i q c k h o e)
