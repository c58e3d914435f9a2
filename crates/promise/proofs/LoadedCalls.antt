-- Request 2 of what C calls and of what the program prints: a set that nothing refuses is accepted, admitted, with starts 0 and a short hyper-period; the rows
-- of the lent table are the superframe's; so a slot's lines are those of its rows.
use Rattle.std.specs.Prelude.{◌≡◌, refl, List, [], ◌∷◌, map, ℕ, suc, ◌%◌, ◌^◌, ◌≤◌, ◌<◌, length}
use Rattle.std.proofs.Common.{sym, ap, ◌∙◌, arith}
use borrow.Author.Tests.{le-ltb}
use Rattle.model.specs.declared.kinds.FlowSet.{FlowSet}
use Rattle.model.specs.{Limits.{most_channels}}
use Rattle.document.specs.Reader.{read_text}
use Rattle.document.specs.Program.{most_input, send_lines}
use Rattle.document.specs.Superframe.{hyper, superframe, flat, size_fault, superframe_fault, rows_of, row_lines, superframe_text}
use Rattle.document.specs.ForC.{superframe_for_c, channel_for_c}
use Rattle.laws.specs.{Accepted.{or_else_good}, Used.{used_map}, FlatRows.{rows_back}}
use Rattle.promise.specs.Promise.{set_in}
use Rattle.promise.specs.Repeated.{send_of_row, line_of_row, rows_of_slot, loaded, RepeatsForC, ProgramPrints}
use Rattle.promise.specs.DeadlineOrder.{deadline_order}
use Rattle.promise.proofs.EveryTable.{text_repeats}
use Rattle.promise.specs.TextHeld.{text_held}
use Rattle.promise.proofs.Calls.{calls_run, reported}
use Rattle.promise.specs.LoadedCalls.{nothing_refused, loads_read, set_loadable, answer_hyper, loaded_numbers_law}

-- a row's line is that of the transmission that it stands for
rows_lines : (s : FlowSet) (t : ℕ) (rs : List (List ℕ)) → s.map.0 ≤ 65535 → send_lines (map (send_of_row s t) rs) ≡ flat (map (line_of_row s t) rs)
unfolding send_lines flat channel_for_c
rows_lines s t [] h = refl
rows_lines s t (r ∷ rs) h = rw (le-ltb 65535 s.map.0 h, rows_lines s t rs h)

pub loaded_is : (text table : List ℕ) → (superframe_for_c text (length table)).refusal ≡ 0 → loaded text table ≡ superframe (set_in text)
loaded_is text table e =
    let read = loads_read text (length table) e in
    let l = set_loadable text read (length table) e in
    ap rows_of (loaded_numbers_law text table e) ∙ rows_back (superframe (set_in text)) ((text_repeats text read).shape (omega (arith, l.short))).four

pub repeats_for_c : RepeatsForC
repeats_for_c text table e lent room t h =
    let read = loads_read text (length table) e in
    let l = set_loadable text read (length table) e in
    let lines = ((calls_run deadline_order text read lent room (suc t) h).calls t (omega arith)).lines in
    let rows = rows_of_slot (t % hyper (set_in text)) (superframe (set_in text)) in
    let again = ((text_repeats text read).repeats l.from_zero t h).sends in
    let bits : (set_in text).map.0 < 2 ^ most_channels = rw (used_map (read_text text).set) (text_held text read).0 in
    rw (loaded_is text table e, answer_hyper text read (length table) e)
    (lines ∙ ap send_lines (reported deadline_order text read t h ∙ again) ∙ rows_lines (set_in text) t rows (omega arith))

pub program_prints : ProgramPrints
unfolding superframe_text superframe_fault
program_prints text table e h =
    let read = loads_read text (length table) e in
    let f = (or_else_good (size_fault (set_in text)) _ (nothing_refused text read (length table) e)).0 in
    rw (le-ltb most_input (length text) h, read, f) (ap row_lines (sym (loaded_is text table e)))
