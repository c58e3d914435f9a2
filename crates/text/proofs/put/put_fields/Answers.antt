use Rattle.std.proofs.Common.{refl, arith}
use Rattle.text.specs.Put.{fields_of, putting_start, putting_more, fields_next}
use Rattle.text.proofs.put.put_fields.Goals as goal

pub loop-v-init : goal.loop-v-init
unfolding fields_of
loop-v-init c = putting_start _ _ _ _ refl (omega arith)

pub loop-v-preserved : goal.loop-v-preserved
loop-v-preserved c =
    putting_more _ _ _ _ _ _ _ c.loop-v.invariant _ _ _ c.loop-v-test.true (omega arith) (fields_next _ _ c.loop-v-test.true)
    c.put_field-place.ensures
