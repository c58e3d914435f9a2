use Rattle.std.proofs.Common.{refl, ◌∙◌, arith}
use Rattle.text.specs.TableStored.{storing_start, storing_ends, storing_small, storing_room, storing_number, storing_digit}
use Rattle.text.proofs.table.store_numbers.Goals as goal
use Rattle.text.proofs.table.store_numbers.Goals.{then-b-lt48, else-b-lt48}

pub loop-b-init : goal.loop-b-init
loop-b-init c = (refl, storing_start _ _ c.requires.0 c.requires.1)

pub overflow_cast-table : goal.overflow_cast-table
overflow_cast-table c = omega (arith, storing_small c.loop-b.invariant.1 c.loop-b-test.true)

pub bounds-table-i : goal.bounds-table-i
bounds-table-i c = storing_room c.loop-b.invariant.1 c.loop-b-test.true c.if-b-lt48.true

pub with_digit-v-requires : goal.with_digit-v-requires
with_digit-v-requires c = (storing_small c.loop-b.invariant.1 c.loop-b-test.true, c.if-b-lt48.false)

pub loop-b-preserved : goal.loop-b-preserved
loop-b-preserved c = (
  c.if-b-lt48.auto.table ∙ c.loop-b.invariant.0,
  elim c.if-b-lt48.branch [
    | then-b-lt48 w ↦ rw (w.table-is, w.i-is, w.v-is) (storing_number c.loop-b.invariant.1 c.loop-b-test.true w.if-b-lt48.true)
    | else-b-lt48 w ↦ rw (w.table-is, w.i-is, w.v-is, w.with_digit-v.ensures) (storing_digit c.loop-b.invariant.1 c.loop-b-test.true w.if-b-lt48.false)
  ],
)

pub returns : goal.returns
returns c = storing_ends _ _ _ _ _ _ c.loop-b.invariant.1 c.loop-b-test.false
