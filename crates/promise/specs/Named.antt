-- The named sets of the promise's premises, as their texts, and what is said of them.
use Rattle.std.specs.Prelude.{◌≡◌, Bool, true, false}
use Prim.Native.String as string
use Rattle.model.specs.declared.kinds.FlowSet.{FlowSet}
use Rattle.model.specs.Limits.{last_slot}
use Rattle.model.specs.Refusals.{good}
use Rattle.model.specs.Sets.{used}
use Rattle.document.specs.Reader.{read_text}
use Rattle.document.specs.Delay.{verdict_of}
use Rattle.document.specs.Machine.{step_of}
use Rattle.document.specs.Table.{bytes}
use Rattle.promise.specs.Promise.{Kept, basic, tightened}

-- the set of a quoted text
abbrev pub set_from : string.String → FlowSet
set_from x = used (read_text (bytes x)).set

-- the reader accepts the text, and these are the verdicts of the two tests
pub record Verdicts (x : string.String) (basic tightened : Bool) : Type 0 where
  pub read : good (read_text (bytes x)).fault.refusal ≡ true
  pub by_basic : (verdict_of (set_from x)).basic ≡ basic
  pub by_tightened : (verdict_of (set_from x)).tightened ≡ tightened

-- document 01's P1, P5, P7 and P8
abbrev pub p1 : string.String
p1 = "set\t3\nflow\t10\t8\t0\t1\t1\t2\t3\nflow\t20\t20\t0\t1\t4\t2\t5\n"

abbrev pub p5 : string.String
p5 = "set\t1\nflow\t10\t2\t0\t1\t1\t2\nflow\t10\t2\t0\t1\t3\t4\n"

abbrev pub p7 : string.String
p7 = "set\t3\nflow\t10\t10\t0\t1\t1\t2\nflow\t10\t10\t0\t1\t2\t3\nflow\t10\t10\t0\t1\t4\t5\n"

abbrev pub p8 : string.String
p8 = "set\t1\nflow\t10\t4\t0\t2\t1\t2\t3\n"

-- three flows on one channel, released together with equal deadlines, two of them with a common node
abbrev pub ties : string.String
ties = "set\t1\nflow\t10\t10\t0\t1\t1\t2\t3\nflow\t10\t10\t0\t2\t4\t2\nflow\t10\t10\t0\t1\t5\t6\n"

-- a flow that has two slots for one transmission, beside one that has ten for three: the tightened test alone admits it
abbrev pub tight : string.String
tight = "set\t1\nflow\t10\t2\t0\t1\t1\t2\nflow\t10\t10\t0\t1\t3\t4\t5\t6\n"

-- request 1's loops: out and back over the same nodes, beside a flow to one of them; and a route with one link twice
abbrev pub l1 : string.String
l1 = "set\t3\nflow\t20\t20\t0\t1\t1\t2\t3\t2\t1\nflow\t20\t20\t0\t1\t4\t2\n"

abbrev pub l2 : string.String
l2 = "set\t3\nflow\t10\t6\t0\t1\t1\t2\t1\t2\nflow\t10\t10\t0\t1\t2\t9\n"

pub record Premises : Type 0 where
  pub of_p1 : Verdicts p1 true true
  pub of_p5 : Verdicts p5 true true
  pub of_p7 : Verdicts p7 true true
  pub of_p8 : Verdicts p8 true true
  pub of_ties : Verdicts ties true true
  pub of_tight : Verdicts tight false true
  pub of_l1 : Verdicts l1 true true
  pub of_l2 : Verdicts l2 true true

-- a set that both tests admit keeps both bounds to the last slot there is
abbrev pub KeptAlways : string.String → Type 0
KeptAlways x =
    Kept step_of (set_from x) (basic.bound (set_from x)) last_slot × Kept step_of (set_from x) (tightened.bound (set_from x)) last_slot
