-- How long lines can be: no number has more than ten digits.
use Rattle.std.specs.Prelude.{◌≡◌, ℕ, zero, suc, ◌+◌, ◌*◌, ◌≤◌, List, [], ◌∷◌, ◌++◌, length, take, drop, ℤ, pos, negsuc}
use Rattle.std.proofs.Common.{sym, ap, ◌∙◌, arith, length-append, length-take, take_at}
use Rattle.std.proofs.lemmas.List.Edits.{sets-eq}
use Rattle.std.proofs.Math.Seq.{length-sets}
use Rattle.model.specs.declared.kinds.FlowSet.{FlowSet}
use Rattle.model.specs.declared.answers.Bounds.{Bounds}
use Rattle.model.specs.declared.answers.Send.{Send}
use Rattle.document.specs.Text.{decimals, line_of, tabbed}
use Rattle.document.specs.Delay.{bounds_of}
use Rattle.document.specs.Program.{send_lines, send_numbers, send_word, signed, bound_line, bound_lines}
use Rattle.text.specs.Decimals.{decimal_most}
use Rattle.text.specs.Put.{Put, last_place}

tabbed_le : (vs : List ℕ) → length (tabbed (decimals vs)) ≤ 11 * length vs + 1
unfolding tabbed decimals
tabbed_le [] = omega arith
tabbed_le (v ∷ vs) =
    let a = tabbed_le vs in
    let b = decimal_most v in simp length-append (omega arith)

pub line_le : (w vs : List ℕ) → length (line_of w vs) ≤ length w + 11 * length vs + 1
unfolding line_of
line_le w vs = let a = tabbed_le vs in simp length-append (omega arith)

-- a `send` line has six numbers
pub sends_le : (xs : List Send) → length (send_lines xs) ≤ 71 * length xs
unfolding send_lines
sends_le [] = omega arith
sends_le (x ∷ xs) =
    let a = sends_le xs in
    let b = line_le send_word (send_numbers x) in
    simp length-append (omega arith)

-- no more lines than there are sends
pub sends_take_le : (n m : ℕ) (xs : List Send) → length xs ≤ m → length (send_lines (take n xs)) ≤ 71 * m
sends_take_le n m xs h = let a = sends_le (take n xs) in let b = length-take n xs in omega arith

-- numbers and a last field
tabbed_last_le : (vs f : List ℕ) → length (tabbed (decimals vs ++ (f ∷ []))) ≤ 11 * length vs + length f + 2
unfolding tabbed decimals
tabbed_last_le [] f = simp length-append (omega arith)
tabbed_last_le (v ∷ vs) f =
    let a = tabbed_last_le vs f in
    let b = decimal_most v in simp length-append (omega arith)

signed_le : (z : ℤ) → length (signed z) ≤ 11
signed_le (pos n) = let a = decimal_most n in omega arith
signed_le (negsuc n) = let a = decimal_most (suc n) in omega arith

pub bound_le : (k : ℕ) (b : Bounds) → length (bound_line k b) ≤ 73
bound_le k b =
    let a = tabbed_last_le (k ∷ b.work ∷ b.basic ∷ b.tightened ∷ b.deadline.0 ∷ []) (signed b.margin) in
    let c = signed_le b.margin in
    simp length-append (omega arith)

pub bounds_le : (s : FlowSet) (n : ℕ) → length (bound_lines s n) ≤ 73 * n
unfolding bound_lines
bounds_le s zero = omega arith
bounds_le s (suc n) =
    let a = bounds_le s n in
    let b = bound_le n (bounds_of s n) in
    simp length-append (omega arith)

-- ---- text put at a buffer's start

-- the place after it is its length
pub put_length : {o t out : List ℕ} {r : ℕ} → Put o 0 t out r → length t ≤ last_place → r ≡ length t
put_length p h = omega (arith, p.place)

pub put_long : {o t out : List ℕ} {at r : ℕ} → Put o at t out r → length out ≡ length o
put_long {o} {t} {out} {at} p = ap (λ (x : List ℕ). length x) p.stored ∙ length-sets o at t

-- it stands there, and the further bytes stay
pub put_start : {o t out : List ℕ} {r : ℕ} → Put o 0 t out r → length t ≤ length o → out ≡ t ++ drop (length t) o
put_start {o} {t} p h =
    let e : 0 + length t ≡ length t = omega arith in
    p.stored ∙ sets-eq t o 0 (omega arith) ∙ ap (λ (k : ℕ). t ++ drop k o) e

-- and is what is read there
pub put_read : {o t out : List ℕ} {r : ℕ} → Put o 0 t out r → length t ≤ length o → length t ≤ last_place → take r out ≡ t
put_read {o} {t} {out} {r} p h l =
    ap (λ (x : List ℕ). take r x) (put_start p h) ∙ take_at t (drop (length t) o) r (sym (put_length p l))
