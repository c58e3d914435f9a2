-- The sends of a step by any order of priority: the array of its answer holds them all, since a map has 16 bits.
use Rattle.std.specs.Prelude.{◌≡◌, ◌≤◌, ◌<◌, ◌^◌, length, take}
use Rattle.std.proofs.Common.{sym, ap, le_trans}
use Rattle.std.proofs.lemmas.Nat.{ones-le}
use Rattle.model.specs.declared.kinds.FlowSet.{FlowSet}
use Rattle.model.specs.declared.kinds.State.{State}
use Rattle.model.specs.Limits.{most_channels}
use Rattle.model.specs.Sets.{used}
use Rattle.document.specs.Machine.{Priority, filled, no_send, placed_with, sends_with}
use Rattle.document.specs.Program.{send_lines}
use Rattle.laws.specs.{Padded.{take_filled}, Used.{used_map}}
use Rattle.promise.specs.Reports.{sends_length}
use Rattle.machine.specs.PlacedChoice.{placed_le}

module _ (first : Priority) where
  -- a map has 16 bits, so a slot has no more sends than its array
  pub sends_with_few : (s : FlowSet) (st : State) → s.map.0 < 65536 → length (sends_with first (used s) st) ≤ most_channels
  sends_with_few s st h =
      let m : (used s).map.0 < 2 ^ 16 = rw (used_map s) h in
      rw (sends_length (used s) st 0 (placed_with first (used s) st)) (le_trans (placed_le first (used s) st) (ones-le 16 (used s).map.0 m))

  -- the lines of a slot's array are those of its sends
  pub lines_with_law : (s : FlowSet) (st : State) → s.map.0 < 65536 → let sends = sends_with first (used s) st in
      send_lines sends ≡ send_lines (take (length sends) (filled most_channels no_send sends))
  lines_with_law s st m = ap send_lines (sym (take_filled most_channels no_send (sends_with first (used s) st) (sends_with_few s st m)))
