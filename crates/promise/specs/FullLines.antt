-- A text by which a slot's lines have their full length.
use Rattle.std.specs.Prelude.{ℕ, zero, suc, ◌+◌}
use mathlib.Core.List.{List, [], ◌∷◌, ◌++◌}
use Rattle.document.specs.Text.{set_word, flow_word, line_of}

-- flows that are released every 200 slots and due after 100, and flows that are released every 100 slots
unfoldable pub rare_flows : ℕ → List ℕ
rare_flows zero = []
rare_flows (suc n) = line_of flow_word (200 ∷ 100 ∷ 0 ∷ 1 ∷ 1 ∷ 2 ∷ []) ++ rare_flows n

unfoldable pub often_flows : ℕ → List ℕ
often_flows zero = []
often_flows (suc n) = line_of flow_word (100 ∷ 100 ∷ 0 ∷ 1 ∷ (10000 + n) ∷ (20000 + n) ∷ []) ++ often_flows n

unfoldable pub crowded_text : List ℕ
crowded_text = line_of set_word (65535 ∷ []) ++ rare_flows 10 ++ often_flows 16
