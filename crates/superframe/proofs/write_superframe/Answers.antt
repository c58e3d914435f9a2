-- `write_superframe` writes what is printed for the input: the parts of its table, or the line of its refusal. Assumes nothing.
use Rattle.superframe.specs.Loads.{loaded_set}
use Rattle.superframe.specs.Prints.{refusal_prints, table_prints}
use Rattle.superframe.proofs.write_superframe.Goals as goal

pub write_parts-requires : goal.write_parts-requires
write_parts-requires g c = loaded_set c.in-Ok.ensures

pub returns-in_ok-write_parts-in-Ok : goal.returns-in_ok-write_parts-in-Ok
returns-in_ok-write_parts-in-Ok g c = table_prints _ _ c.in-Ok.ensures _ c.in_ok-write_parts-in-Ok.ensures

pub returns-in_ok-write_refusal-in-Err : goal.returns-in_ok-write_refusal-in-Err
returns-in_ok-write_refusal-in-Err g c = refusal_prints _ _ c.in-Err.ensures
