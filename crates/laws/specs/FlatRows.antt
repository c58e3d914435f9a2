-- Rows one after the other, as they stand in a lent table: their numbers, and the rows back.
use Rattle.std.specs.Prelude.{◌≡◌, refl, List, [], ◌∷◌, ◌++◌, ℕ, suc, ◌*◌, ◌/◌, ◌<◌, length, get_or}
use Rattle.std.proofs.Common.{sym, ap, ◌∙◌, append_assoc, arith, length-append, take_at, drop_at}
use Rattle.document.specs.Superframe.{flat, rows_in, rows_of}

-- every row has four numbers
abbrev pub Fours : List (List ℕ) → Type 0
Fours rs = (i : ℕ) → i < length rs → length (get_or rs i []) ≡ 4

-- the rows after the first
fours_rest : (r : List ℕ) (rs : List (List ℕ)) → Fours (r ∷ rs) → Fours rs
fours_rest r rs h i l = h (suc i) (omega arith)

pub flat_append : (rs qs : List (List ℕ)) → flat (rs ++ qs) ≡ flat rs ++ flat qs
unfolding flat
flat_append [] qs = refl
flat_append (r ∷ rs) qs = ap (λ (l : List ℕ). r ++ l) (flat_append rs qs) ∙ sym (append_assoc r (flat rs) (flat qs))

pub flat_length : (rs : List (List ℕ)) → Fours rs → length (flat rs) ≡ 4 * length rs
unfolding flat
flat_length [] h = refl
flat_length (r ∷ rs) h = omega (arith, length-append r (flat rs), h 0 (omega arith), flat_length rs (fours_rest r rs h))

rows_in_flat : (rs : List (List ℕ)) → Fours rs → rows_in (length rs) (flat rs) ≡ rs
unfolding flat rows_in
rows_in_flat [] h = refl
rows_in_flat (r ∷ rs) h =
    let e = h 0 (omega arith) in
    rw (take_at r (flat rs) 4 e, drop_at r (flat rs) 4 e) (ap (λ (l : List (List ℕ)). r ∷ l) (rows_in_flat rs (fours_rest r rs h)))

-- a table's rows are the rows that it was made of
pub rows_back : (rs : List (List ℕ)) → Fours rs → rows_of (flat rs) ≡ rs
rows_back rs h =
    let n : length (flat rs) / 4 ≡ length rs = omega (arith, flat_length rs h) in
    ap (λ (n : ℕ). rows_in n (flat rs)) n ∙ rows_in_flat rs h
