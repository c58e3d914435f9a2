-- The radio channels of a slot: a map has as many channels as ones, in rising order, so offsets below that number stand for different channels,
-- all of them the map's.
use Rattle.std.specs.Prelude.{◌≡◌, refl, ◌≢◌, Bool, true, false, cond, [], ◌∷◌, ◌++◌, ℕ, zero, suc, ◌+◌, ◌/◌, ◌%◌, ◌^◌, ◌≤◌, ◌<◌, eqb, length}
use Rattle.std.proofs.Common.{sym, ap, ◌∙◌, inl, inr, append-nil, div-add-mod', mod-lt, mul-le-mul_right, suc-mul, div-one, add-one, arith, shr-shr, length-append, eqb-true}
use Rattle.std.proofs.Math.Nat.{div-eq_of_lt}
use Rattle.std.proofs.Math.Decide.{dec_le}
use Rattle.std.proofs.Math.Arith.{lt_of_le-ne}
use Rattle.std.specs.Int.Count.{ones, ones_step}
use Rattle.std.proofs.lemmas.Bool.{eqb-false}
use Rattle.model.specs.Limits.{first_channel, most_channels}
use Rattle.model.specs.Sets.{memb}
use Rattle.document.specs.Machine.{channels_to, channels, radio_channel}
use Rattle.laws.specs.SumLaws.{or_case}
use Rattle.laws.specs.Members.{memb_empty, memb_snoc, memb_at, Pairs, pairs_snoc, pairs_at}

-- places less than m apart stay different modulo m
mod_apart : (m t p q : ℕ) → p < q → q < m → (t + p) % m ≢ (t + q) % m
mod_apart m t p q h l e =
    let a = div-add-mod' (t + p) m in
    let b = div-add-mod' (t + q) m in
    elim (dec_le ((t + q) / m) ((t + p) / m)) [
      | yes c ↦ omega (arith, mul-le-mul_right m c)
      | no c ↦ let d : suc ((t + p) / m) ≤ (t + q) / m = omega arith in omega (arith, mul-le-mul_right m d, suc-mul ((t + p) / m) m)
    ]

-- the map's channels are as many as its ones
channels_to_length : (m i : ℕ) → length (channels_to m i) + ones (m / 2 ^ i) ≡ ones m
unfolding channels_to
channels_to_length m zero = rw (div-one m) (omega arith)
channels_to_length m (suc i) = rw length-append (go (eqb (m / 2 ^ i % 2) 1) refl (channels_to_length m i))
  where
    half : m / 2 ^ i / 2 ≡ m / 2 ^ suc i
    half = shr-shr m i 1 ∙ ap (λ (x : ℕ). m / 2 ^ x) (add-one i)

    go : (b : Bool) → eqb (m / 2 ^ i % 2) 1 ≡ b → length (channels_to m i) + ones (m / 2 ^ i) ≡ ones m
        → length (channels_to m i) + length (cond b ((first_channel + i) ∷ []) []) + ones (m / 2 ^ suc i) ≡ ones m
    go true e h = omega (arith, ones_step (m / 2 ^ i), ap ones half, eqb-true (m / 2 ^ i % 2) 1 e)
    go false e h = omega (arith, ones_step (m / 2 ^ i), ap ones half, eqb-false (m / 2 ^ i % 2) 1 e)

-- and rise
pub channels_below : (m i c : ℕ) → memb c (channels_to m i) ≡ true → c < first_channel + i
unfolding channels_to
channels_below m zero c h = absurd (memb_empty c h)
channels_below m (suc i) c h = go (eqb (m / 2 ^ i % 2) 1) h (channels_below m i c)
  where
    go : (b : Bool) → memb c (channels_to m i ++ cond b ((first_channel + i) ∷ []) []) ≡ true → (memb c (channels_to m i) ≡ true → c < first_channel + i)
        → c < first_channel + suc i
    go true h ih =
        elim (or_case (memb c (channels_to m i)) (eqb c (first_channel + i)) (sym (memb_snoc c (channels_to m i) (first_channel + i)) ∙ h)) [
          | inl x ↦ omega (arith, ih x)
          | inr x ↦ omega (arith, eqb-true c (first_channel + i) x)
        ]
    go false h ih = omega (arith, ih (rw append-nil at h))

pub channels_rise : (m i : ℕ) → Pairs ◌<◌ (channels_to m i)
unfolding channels_to Pairs
channels_rise m zero = tt
channels_rise m (suc i) = go (eqb (m / 2 ^ i % 2) 1) (channels_rise m i)
  where
    go : (b : Bool) → Pairs ◌<◌ (channels_to m i) → Pairs ◌<◌ (channels_to m i ++ cond b ((first_channel + i) ∷ []) [])
    go true h = pairs_snoc ◌<◌ (channels_to m i) (first_channel + i) h (λ l x. channels_below m i l x)
    go false h = rw append-nil h

-- so offsets below their number stand for different ones, all of them the map's
pub channels_length : (m : ℕ) → m < 2 ^ most_channels → length (channels m) ≡ ones m
unfolding ones
channels_length m h = omega (arith, channels_to_length m most_channels, ap ones (div-eq_of_lt h))

pub radio_own : (m t p : ℕ) → m < 2 ^ most_channels → 0 < ones m → memb (radio_channel m t p) (channels m) ≡ true
unfolding radio_channel
radio_own m t p h k = memb_at (channels m) ((t + p) % ones m) (omega (arith, channels_length m h, mod-lt (t + p) k))

pub radio_apart : (m t p q : ℕ) → m < 2 ^ most_channels → p < q → q < ones m → radio_channel m t p ≢ radio_channel m t q
unfolding radio_channel
radio_apart m t p q h k l e =
    let z = channels_length m h in
    let pos : 0 < ones m = omega arith in
    let a = mod-lt (t + p) pos in
    let b = mod-lt (t + q) pos in
    elim (dec_le ((t + p) % ones m) ((t + q) % ones m)) [
      | yes c ↦
          let n : (t + p) % ones m < (t + q) % ones m = lt_of_le-ne c (mod_apart (ones m) t p q k l) in
          omega (arith, pairs_at ◌<◌ (channels m) _ _ (channels_rise m most_channels) n (omega arith))
      | no c ↦
          let n : (t + q) % ones m < (t + p) % ones m = omega arith in
          omega (arith, pairs_at ◌<◌ (channels m) _ _ (channels_rise m most_channels) n (omega arith))
    ]
