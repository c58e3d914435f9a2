-- Rule 5's channels: as many as the map has ones, and found by going through its bits in rising order.
use Rattle.std.specs.Prelude.{◌≡◌, refl, cond, [], ◌∷◌, ◌++◌, ℕ, zero, suc, ◌+◌, ◌-◌, ◌*◌, ◌/◌, ◌%◌, ◌^◌, ◌≤◌, ◌<◌, eqb, length, get_or}
use Rattle.std.proofs.Common.{sym, ap, ap₂, ◌∙◌, append-nil, add-zero, mod-lt, add_comm, add-one, one-add, arith, eq-eqb, ne_eqb, lit<, pow_pos, shr-shr, length-append}
use Rattle.std.specs.Int.Count.{ones, ones_in}
use Rattle.std.proofs.lemmas.Nat.{ones_cat, mod-pow-add}
use Rattle.std.proofs.Math.Arith.{lt-one}
use Rattle.std.proofs.Math.ListN.{get_or-append}
use Rattle.std.proofs.Math.Seq.{get_or-append_seam}
use Rattle.model.specs.Limits.{first_channel}
use Rattle.document.specs.Machine.{channels_to}

-- bit i of a map
abbrev pub bit_at : ℕ → ℕ → ℕ
bit_at m i = m / 2 ^ i % 2

pub channels_next : (m i : ℕ) → channels_to m (i + 1) ≡ channels_to m i ++ cond (eqb (bit_at m i) 1) ((first_channel + i) ∷ []) []
unfolding channels_to
channels_next m i = rw add-one

-- a further bit changes no earlier place
keep : (m i d j : ℕ) → j < length (channels_to m i) → (j < length (channels_to m (i + d))) × (get_or (channels_to m (i + d)) j 0 ≡ get_or (channels_to m i) j 0)
keep m i zero j l = rw add-zero (l, refl)
keep m i (suc d) j l =
    let w = keep m i d j l in
    let e : i + suc d ≡ i + d + 1 = omega arith in
    let c : channels_to m (i + suc d) ≡ _ = ap (channels_to m) e ∙ channels_next m (i + d) in
    rw c (rw length-append (omega arith), get_or-append (channels_to m (i + d)) _ 0 j w.0 ∙ w.1)

pub channels_keep : (m i n j : ℕ) → i ≤ n → j < length (channels_to m i) → get_or (channels_to m n) j 0 ≡ get_or (channels_to m i) j 0
channels_keep m i n j h l =
    let e : n ≡ i + (n - i) = omega arith in
    rw e (keep m i (n - i) j l).1

-- a set bit adds a channel, at the next place; one that is not set adds none
pub channels_set : (m i : ℕ) → bit_at m i ≡ 1 → channels_to m (i + 1) ≡ channels_to m i ++ ((first_channel + i) ∷ [])
channels_set m i e = channels_next m i ∙ rw (eq-eqb (bit_at m i) 1 e)

pub channels_clear : (m i : ℕ) → (bit_at m i ≡ 1 → ⊥) → channels_to m (i + 1) ≡ channels_to m i
channels_clear m i e = channels_next m i ∙ rw (ne_eqb (bit_at m i) 1 e, append-nil)

-- the channel of a set bit
pub channel_here : (m i n : ℕ) → i < n → bit_at m i ≡ 1 → get_or (channels_to m n) (length (channels_to m i)) 0 ≡ first_channel + i
channel_here m i n h e =
    let l : length (channels_to m i) < length (channels_to m (i + 1)) = rw (channels_set m i e, length-append) (omega arith) in
    channels_keep m (i + 1) n (length (channels_to m i)) (omega arith) l
    ∙ rw (channels_set m i e) (get_or-append_seam (channels_to m i) (first_channel + i) [] 0)

-- as many channels as the map has ones among its lowest bits
pub channels_ones : (m n : ℕ) → length (channels_to m n) ≡ ones (m % 2 ^ n)
unfolding channels_to ones ones_in
channels_ones m zero = ap ones (sym (lt-one (mod-lt m (pow_pos 0))))
channels_ones m (suc n) =
    let a : length (cond (eqb (bit_at m n) 1) ((first_channel + n) ∷ []) []) ≡ ones (bit_at m n) = one (bit_at m n) (mod-lt (m / 2 ^ n) (lit< tt)) in
    let e : m % 2 ^ suc n ≡ bit_at m n * 2 ^ n + m % 2 ^ n = ap (λ (x : ℕ). m % 2 ^ x) (sym (one-add n)) ∙ mod-pow-add m 1 n in
    length-append (channels_to m n) _ ∙ ap₂ (λ (x y : ℕ). x + y) (channels_ones m n) a
    ∙ add_comm (ones (m % 2 ^ n)) (ones (bit_at m n)) ∙ sym (ones_cat n (bit_at m n) (m % 2 ^ n) (mod-lt m (pow_pos n))) ∙ ap ones (sym e)
  where
    one : (b : ℕ) → b < 2 → length (cond (eqb b 1) ((first_channel + n) ∷ []) []) ≡ ones b
    one zero h = refl
    one (suc zero) h = refl
    one (suc (suc b)) h = absurd (omega arith)

-- each bit adds as many channels as it is
pub channels_more : (m i : ℕ) → length (channels_to m (i + 1)) ≡ length (channels_to m i) + bit_at m i
channels_more m i =
    ap length (channels_next m i) ∙ length-append (channels_to m i) _
    ∙ ap (λ (x : ℕ). length (channels_to m i) + x) (one (bit_at m i) (mod-lt (m / 2 ^ i) (lit< tt)))
  where
    one : (b : ℕ) → b < 2 → length (cond (eqb b 1) ((first_channel + i) ∷ []) []) ≡ b
    one zero h = refl
    one (suc zero) h = refl
    one (suc (suc b)) h = absurd (omega arith)

-- the bits above i, and those above i + 1
pub bits_next : (m i : ℕ) → m / 2 ^ i / 2 ≡ m / 2 ^ (i + 1)
bits_next m i = shr-shr m i 1
