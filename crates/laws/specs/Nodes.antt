-- The nodes of a route from a place on: one step further takes the node there off the front.
use Rattle.std.specs.Prelude.{◌≡◌, true, false, List, [], ◌∷◌, ℕ, ◌+◌, ◌≤◌, ◌<◌, length, get_or, take, drop}
use Rattle.std.proofs.Common.{add-one, arith, drop_of_length-le, drop-cons, get_or-take, length-take-le}
use borrow.Author.Tests.{eq-eqb, ne_eqb}
use Rattle.model.specs.Sets.{any_of, memb}

module _ (r : List ℕ) (n : ℕ) (fits : n ≤ length r) where
  -- what is left at a place of the route
  step : (j : ℕ) → j < n → drop j (take n r) ≡ get_or r j 0 ∷ drop (j + 1) (take n r)
  step j h =
      let e = length-take-le n r fits in
      let g = get_or-take n r j 0 h in
      rw (add-one, drop-cons (take n r) j 0 (omega arith), g)

  none : (j : ℕ) → n ≤ j → drop j (take n r) ≡ []
  none j h =
      let e = length-take-le n r fits in
      let l : length (take n r) ≤ j = omega arith in drop_of_length-le (take n r) l

  -- the search for a node: found, further, at the end
  pub memb_here : (x j : ℕ) → j < n → x ≡ get_or r j 0 → memb x (drop j (take n r)) ≡ true
  unfolding any_of
  memb_here x j h e = rw (step j h, eq-eqb x (get_or r j 0) e)

  pub memb_on : (x j : ℕ) → j < n → (x ≡ get_or r j 0 → ⊥) → memb x (drop j (take n r)) ≡ memb x (drop (j + 1) (take n r))
  unfolding any_of
  memb_on x j h e = rw (step j h, ne_eqb x (get_or r j 0) e)

  pub memb_end : (x j : ℕ) → n ≤ j → memb x (drop j (take n r)) ≡ false
  unfolding any_of
  memb_end x j h = rw (none j h)
