-- Request 2 of what C calls and of what the program prints: a set that nothing refuses is accepted, admitted, with starts 0 and a short hyper-period; the rows
-- of the lent table are the superframe's; so a slot's lines are those of its rows.
use Rattle.std.specs.Prelude.{◌≡◌, refl, Bool, true, false, not, cond, List, ℕ, ◌≤◌, ltb, length, take}
use Rattle.std.proofs.Common.{sym, ap, ◌∙◌, arith, take_at}
use Rattle.std.proofs.lemmas.Bool.{false≢true}
use borrow.Author.Tests.{ltb-false, eq-eqb}
use Rattle.model.specs.declared.kinds.FlowSet.{FlowSet}
use Rattle.model.specs.declared.answers.{Fault.{Fault}}
use Rattle.model.specs.declared.answers.Refusal.TheVariants.{NotAdmitted, LateStart, LongHyperPeriod}
use Rattle.model.specs.{Refusals.{good, refusal_number, fault_at, refused_table}, Sets.{flow_at}}
use Rattle.document.specs.Reader.{record_fault, read_text}
use Rattle.document.specs.Delay.{verdict_of}
use Rattle.document.specs.Superframe.{hyper, superframe, flat, most_hyper, neither_admits, starts_late, size_fault, superframe_fault, superframe_answer, superframe_into, tabled, at_start}
use Rattle.document.specs.ForC.{superframe_for_c, superframe_of_reading, superframe_after}
use Rattle.laws.specs.{Accepted.{or_else_good}, SumLaws.{any_none, or_case}}
use Rattle.promise.specs.Promise.{Admitted, set_in}
use Rattle.promise.specs.Repeated.{FromZero, loaded_numbers}

-- a set that is loaded, whatever the room
pub record Loadable (s : FlowSet) : Type 0 where
  pub accepted : good (record_fault s).refusal ≡ true
  pub from_zero : FromZero s
  pub admitted : Admitted s
  pub short : hyper s ≤ most_hyper

-- a test that refuses did not apply, nor did a later one
pass : (b : Bool) (f g : Fault) → good f.refusal ≡ false → good (cond b f g).refusal ≡ true → (b ≡ false) × (good g.refusal ≡ true)
pass true f g n h = absurd (false≢true (sym n ∙ h))
pass false f g n h = (refl, h)

not_false : (b : Bool) → not b ≡ false → b ≡ true
not_false true e = refl
not_false false e = absurd (false≢true (sym e))

pub loadable : (s : FlowSet) → good (size_fault s).refusal ≡ true → Loadable s
unfolding size_fault
loadable s h =
    let a = or_else_good (record_fault s) _ h in
    let b = pass (neither_admits s) (fault_at NotAdmitted 0) _ refl a.1 in
    let c = pass (starts_late s) (fault_at LateStart 0) _ refl b.1 in
    let d = pass (ltb most_hyper (hyper s)) (fault_at LongHyperPeriod 0) _ refl c.1 in
    record {
      accepted = a.0;
      from_zero = λ k l. omega (arith, ltb-false 0 (flow_at s k).start (any_none (λ k. ltb 0 (flow_at s k).start) s.count c.0 k l));
      admitted = or_case (verdict_of s).basic (verdict_of s).tightened (not_false _ b.0);
      short = ltb-false most_hyper (hyper s) d.0;
    }

-- the answer's fault is the refusal, whether it refuses or not
pub tabled_fault : (s : FlowSet) (f : Fault) → (tabled s f).fault ≡ f
tabled_fault s f = go (good f.refusal)
  where
    go : (b : Bool)
        → (cond b (record { fault = f; hyper = hyper s; numbers = length (flat (superframe s)) }) (refused_table f)).fault ≡ f
    go true = refl
    go false = refl

-- Where `rembasuk_superframe` refuses nothing, the text was read,
pub loads_read : (text : List ℕ) (room : ℕ) → (superframe_for_c text room).refusal ≡ 0 → good (read_text text).fault.refusal ≡ true
unfolding superframe_for_c superframe_of_reading
loads_read text room e = go (good (read_text text).fault.refusal) refl
  where
    go : (b : Bool) → good (read_text text).fault.refusal ≡ b → good (read_text text).fault.refusal ≡ true
    go true q = q
    go false q = let z : refusal_number (read_text text).fault.refusal ≡ 0 = rw q at e in eq-eqb _ 0 z

-- and of a text that was read it answers for its set:
module _ (text : List ℕ) (read : good (read_text text).fault.refusal ≡ true) (room : ℕ) (e : (superframe_for_c text room).refusal ≡ 0) where
  -- nothing refuses the set,
  pub nothing_refused : good (superframe_fault (set_in text) room).refusal ≡ true
  unfolding superframe_for_c superframe_of_reading superframe_answer
  nothing_refused =
      let z : refusal_number (tabled (set_in text) (superframe_fault (set_in text) room)).fault.refusal ≡ 0 = rw read at e in
      eq-eqb _ 0 (rw (tabled_fault (set_in text) (superframe_fault (set_in text) room)) at z)

  pub set_loadable : Loadable (set_in text)
  unfolding superframe_fault
  set_loadable = loadable (set_in text) (or_else_good (size_fault (set_in text)) _ nothing_refused).0

  -- and the answer has its hyper-period and the length of its table.
  pub answer_hyper : (superframe_for_c text room).hyper ≡ hyper (set_in text)
  unfolding superframe_for_c superframe_of_reading superframe_answer
  answer_hyper = rw (read, nothing_refused)

  answer_numbers : (superframe_for_c text room).numbers ≡ length (flat (superframe (set_in text)))
  unfolding superframe_for_c superframe_of_reading superframe_answer
  answer_numbers = rw (read, nothing_refused)

-- the numbers in the lent table are the superframe's, and so are the rows
pub loaded_numbers_law : (text table : List ℕ) → (superframe_for_c text (length table)).refusal ≡ 0 → loaded_numbers text table ≡ flat (superframe (set_in text))
unfolding superframe_after superframe_into
loaded_numbers_law text table e =
    let read = loads_read text (length table) e in
    let numbers = flat (superframe (set_in text)) in
    let n = answer_numbers text read (length table) e in
    let g : superframe_after (read_text text) table ≡ at_start numbers table = rw (read, nothing_refused text read (length table) e) in
    ap (take (superframe_for_c text (length table)).numbers) g ∙ take_at numbers _ _ (sym n)
