-- The loaded table goes through lines unharmed: its numbers have 16 bits and its rows rise, so that what is written of it is read as the same table.
use Rattle.std.specs.Prelude.{◌≡◌, Bool, true, false, List, [], ℕ, zero, suc, ◌^◌, ◌≤◌, ◌<◌, ltb, length, get_or, take}
use Rattle.std.proofs.Math.Path.{refl}
use Rattle.std.proofs.Common.{arith, take_at}
use Rattle.std.proofs.lemmas.Nat.{ones-le}
use Rattle.std.proofs.Math.ListN.{get_or-eq_default}
use borrow.Author.Tests.{le-ltb, ltb-false}
use Rattle.model.specs.declared.kinds.FlowSet.{FlowSet}
use Rattle.model.specs.{Limits.{most_channels}, Refusals.{good}}
use Rattle.document.specs.Reader.{record_fault, read_text}
use Rattle.document.specs.Superframe.{hyper, superframe, flat, most_hyper, rows_of, row_lines, SixteenBits, write_table_answer, write_table_into, read_table_fault, read_table_answer, read_table_into}
use Rattle.document.specs.ForC.{write_table_for_c, read_table_for_c}
use Rattle.laws.specs.{Accepted.{accepted, work_small}, FlatRows.{rows_back}, Used.{used_map}}
use Rattle.promise.specs.Promise.{set_in}
use Rattle.promise.specs.Repeated.{Shaped, flow_of, LoadedAgain}
use Rattle.promise.proofs.EveryTable.{text_repeats}
use Rattle.promise.specs.TextHeld.{text_held, text_passes}
use Rattle.promise.specs.LoadedCalls.{loads_read, set_loadable, loaded_numbers_law}
use Rattle.text.specs.TableLines.{lines_again}

-- a row of four small numbers
row_small : (r : List ℕ) → length r ≡ 4 → get_or r 0 0 ≤ 65535 → get_or r 1 0 ≤ 65535 → get_or r 2 0 ≤ 65535 → get_or r 3 0 ≤ 65535
    → (j : ℕ) → get_or r j 0 ≤ 65535
row_small r n a b c d zero = a
row_small r n a b c d (suc zero) = b
row_small r n a b c d (suc (suc zero)) = c
row_small r n a b c d (suc (suc (suc zero))) = d
row_small r n a b c d (suc (suc (suc (suc j)))) = omega (arith, get_or-eq_default r 0 {n = suc (suc (suc (suc j)))} (omega arith))

-- the numbers of a superframe that is loaded
loaded_small : (s : FlowSet) → good (record_fault s).refusal ≡ true → s.map.0 < 2 ^ most_channels → hyper s ≤ most_hyper
    → Shaped s (superframe s) (hyper s) → SixteenBits (superframe s)
loaded_small s g bits short shaped i l =
    let r = get_or (superframe s) i [] in
    let n = shaped.four i l in
    let f = shaped.flows i l in
    let small = work_small _ ((accepted s g).flow (flow_of r) f) in (
      n,
      row_small r n (omega (arith, shaped.slots i l)) (omega (arith, f, (accepted s g).count_le)) (omega (arith, shaped.numbers i l, small))
          (omega (arith, shaped.offsets i l, ones-le most_channels s.map.0 bits)),
    )

module _ (rows : List (List ℕ)) (four : (i : ℕ) → i < length rows → length (get_or rows i []) ≡ 4) (buffer : List ℕ)
    (room : (write_table_for_c (flat rows) (length buffer)).refusal ≡ 0) where
  -- the buffer has room for the lines
  lines_fit : length (row_lines rows) ≤ length buffer
  unfolding write_table_for_c write_table_answer
  lines_fit = go (ltb (length buffer) (length (row_lines rows))) refl
    where
      lines : rows_of (flat rows) ≡ rows
      lines = rows_back rows four

      go : (b : Bool) → ltb (length buffer) (length (row_lines rows)) ≡ b → length (row_lines rows) ≤ length buffer
      go false e = ltb-false _ _ e
      go true e = absurd (let z : 10 ≡ 0 = rw (lines, e) at room in omega arith)

  -- so they stand in it
  lines_in_law : take (write_table_for_c (flat rows) (length buffer)).length (write_table_into (flat rows) buffer) ≡ row_lines rows
  unfolding write_table_for_c write_table_answer write_table_into
  lines_in_law = rw (rows_back rows four, le-ltb (length buffer) (length (row_lines rows)) lines_fit) (take_at (row_lines rows) _ _ refl)

-- and are read as the rows
pub loaded_again : LoadedAgain
unfolding read_table_for_c read_table_answer read_table_into read_table_fault
loaded_again text table buffer other e room fits =
    let read = loads_read text (length table) e in
    let l = set_loadable text read (length table) e in
    let s = set_in text in
    let numbers = flat (superframe s) in
    let shaped = (text_repeats text read).shape (omega (arith, l.short)) in
    let bits : s.map.0 < 2 ^ most_channels = rw (used_map (read_text text).set) (text_held text read).0 in
    let n = loaded_numbers_law text table e in
    let again = lines_again.read (superframe s) (loaded_small s (text_passes text read) bits l.short shaped) shaped.rises in
    let lines = lines_in_law (superframe s) shaped.four buffer (rw n at room) in
    let le : ltb (length other) (length numbers) ≡ false = le-ltb _ _ (rw n at fits) in
    rw (n, lines, again.0, again.1, le) (refl, take_at numbers _ _ refl)
