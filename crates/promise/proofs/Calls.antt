-- Demand 3 of what C calls: 68 bytes give the state back, no line is longer than 36 bytes, so no call is refused and the calls are the machine's run.
use Rattle.std.specs.Prelude.{◌≡◌, refl, Bool, true, false, cond, ltb, eqb, length, get_or, take, drop, replicate}
use Rattle.std.proofs.Common.{sym, ◌∙◌, div-add-mod', add-one, take_at, drop_at}
use Rattle.std.proofs.Math.Path.{ap}
use mathlib.Core.List.{List, ◌++◌, map}
use Prim.Native.Nat.{ℕ, zero, suc, ◌+◌, ◌*◌, ◌/◌, ◌%◌, ◌^◌, ◌≤◌, ◌<◌}
use Rattle.std.proofs.Math.Nat.{mod-lt}
use native.Mathlib.Omega.{arith}
use Rattle.std.proofs.lemmas.Nat.{ones-le}
use borrow.Author.Tests.{lt-ltb, le-ltb, eq-eqb}
use Rattle.model.specs.declared.kinds.{State.{State}}
use Rattle.model.specs.declared.answers.{SlotAnswer.{SlotAnswer}, Stepped.{Stepped}, VerdictAnswer.{VerdictAnswer}, BoundsAnswer.{BoundsAnswer}}
use Rattle.model.specs.Limits.{most_channels, most_flows, last_slot}
use Rattle.model.specs.Refusals.{good, refusal_number, fault_at, no_fault}
use Rattle.model.specs.declared.answers.Refusal.TheVariants.{NoRoom}
use Rattle.model.specs.{Sums.{bit}, Sets.{flow_at, fresh_state, memb}}
use Rattle.document.specs.Reader.{record_fault, read_text}
use Rattle.document.specs.Delay.{verdict_of, bounds_of}
use Rattle.document.specs.Machine.{Priority, ahead, no_send, send_of, sends_with, placed_with, had_at, step_with, run_with}
use Rattle.document.specs.Program.{state_length, state_bytes, state_of, send_numbers, send_lines, slot_lines_with, slot_fault_with, slot_state_with, slot_buffer_with}
use Rattle.document.specs.ForC.{verdict_numbers, bounds_numbers, verdict_of_reading, bounds_of_reading, slot_answer_with, verdict_for_c, bounds_for_c, slot_for_c_with}
use Rattle.laws.specs.TestAnswers.{basic_then_tightened}
use Rattle.laws.specs.{Accepted.{accepted}, Members.{memb_at}, Padded.{take_filled}, RadioChannels.{radio_own, channels_below}, Used.{used_map}, WrittenNumbers.{tens}}
use Rattle.promise.specs.Promise.{Test, TextPromiseOf, basic, tightened, lines_length, set_in, numbers_in, sends_of, report, bytes_at, answer_at, buffer_at, Gives, Runs, PromiseForCOf, PromiseForC, LinesTell, NoFewer}
use Rattle.promise.specs.SlotChoice.{Ordering}
use Rattle.promise.proofs.Larger.{kept_longer}
use Rattle.promise.specs.DeadlineOrder.{deadline_order}
use Rattle.promise.specs.RunStates.{choice, state_slot, state_next, state_length_law, state_good, report_step, report_good}
use Rattle.promise.specs.Timetable.{some_way}
use Rattle.promise.specs.Reports.{sends_length, sends_at_law, link_from, link_to}
use Rattle.promise.specs.SentLines.{Short, AllShort}
use Rattle.promise.proofs.SentLines.{lines_length_law, numbers_back, lines_tell}
use Rattle.promise.specs.TextHeld.{text_held, text_passes, text_nodes}
use Rattle.promise.proofs.Demand.{demand_3}
use Rattle.promise.specs.Calls.{state_in, sent_in}

-- four bytes hold every slot, so the 68 bytes give the state back; 68 zeros are the fresh one's
base_256 : (n x y z a b c : ℕ) → x * 256 + a ≡ n → y * 256 + b ≡ x → z * 256 + c ≡ y → a + b * 256 + c * 65536 + z * 16777216 ≡ n
base_256 n x y z a b c e f g = omega arith

four_bytes : (n : ℕ) → n ≤ last_slot → n % 256 + n / 256 % 256 * 256 + n / 65536 % 256 * 65536 + n / 16777216 % 256 * 16777216 ≡ n
four_bytes n h =
    let y : n / 65536 ≡ n / 256 / 256 = omega arith in
    let z : n / 16777216 ≡ n / 256 / 256 / 256 = omega arith in
    let w : n / 256 / 256 / 256 % 256 ≡ n / 256 / 256 / 256 = omega arith in
    rw (y, z, w) (base_256 n (n / 256) (n / 256 / 256) _ _ _ _ (div-add-mod' n 256) (div-add-mod' (n / 256) 256) (div-add-mod' (n / 256 / 256) 256))

pub state_back : (st : State) → st.slot.0 ≤ last_slot → state_of (state_bytes st) ≡ st
unfolding state_of state_bytes
state_back st h = ap (λ (n : ℕ). record { slot = record { 0 = n }; sent = st.sent }) (four_bytes st.slot.0 h)

pub fresh_bytes : replicate state_length 0 ≡ state_bytes fresh_state
unfolding state_bytes
fresh_bytes = refl

bytes_length : (st : State) → length st.sent ≡ most_flows → length (state_bytes st) ≡ state_length
unfolding state_bytes
bytes_length st h = omega arith

-- C is told the tests' own verdicts and bounds
bit_one : (b : Bool) → bit b ≡ 1 → b ≡ true
bit_one true e = refl
bit_one false e = absurd (omega arith)

verdict_is : (text : List ℕ) → good (read_text text).fault.refusal ≡ true → verdict_for_c text ≡ verdict_numbers (verdict_of (set_in text))
unfolding verdict_for_c verdict_of_reading
verdict_is text read = rw read

bounds_are : (text : List ℕ) (k : ℕ) → good (read_text text).fault.refusal ≡ true → bounds_for_c text k ≡ bounds_numbers (bounds_of (set_in text) k)
unfolding bounds_for_c bounds_of_reading
bounds_are text k read = rw read

-- From here on: the machine with any order of priority.
module _ {first : Priority} (o : Ordering first) where
  -- Of a text that the reader accepts:
  module _ (text : List ℕ) (read : good (read_text text).fault.refusal ≡ true) where
    passes : good (record_fault (set_in text)).refusal ≡ true
    passes = text_passes text read

    bits : (set_in text).map.0 < 2 ^ most_channels
    bits = rw (used_map (read_text text).set) (text_held text read).0

    -- it sends no more than there are channels
    few : (t : ℕ) → length (sent_in first text t) ≤ most_channels
    few t =
        omega (
          arith,
          sends_length (set_in text) (state_in first text t) 0 (placed_with first (set_in text) (state_in first text t)),
          (choice o (set_in text) (state_in first text t)).few,
          ones-le most_channels (set_in text).map.0 bits,
        )

    -- and its report shows that, and the state in which the next slot begins
    pub reported : (t : ℕ) → t < last_slot → sends_of (report (step_with first) (set_in text) t) ≡ sent_in first text t
    reported t h = ap sends_of (report_good o (set_in text) passes t h) ∙ take_filled most_channels no_send (sent_in first text t) (few t)

    next_is : (t : ℕ) → state_in first text (suc t) ≡ (report (step_with first) (set_in text) t).next
    unfolding run_with
    next_is t = ap (λ (r : Stepped). r.next) (sym (report_step o (set_in text) t))

    -- All its numbers are short, so its lines fit.
    send_short : (t k p : ℕ) → t < last_slot → memb k (placed_with first (set_in text) (state_in first text t)) ≡ true
        → Short (send_of (set_in text) (state_in first text t) k p)
    unfolding send_of tens
    send_short t k p h e =
        let s = set_in text in
        let st = state_in first text t in
        let l = ((choice o s st).only k e).0 in
        let f = (accepted s passes).flow k l in
        let i = had_at s st k / (flow_at s k).tries in
        record {
          slot = omega (arith, state_slot o s passes t (omega arith));
          flow = omega (arith, (accepted s passes).count_le);
          from = omega (arith, link_from (flow_at s k).route i, text_nodes text read k i l);
          to = omega (arith, link_to (flow_at s k).route i, text_nodes text read k (i + 1) l);
          attempt = omega (arith, mod-lt (had_at s st k) f.tries_pos, f.tries_le);
          channel = omega (
            arith,
            channels_below s.map.0 most_channels _ (radio_own s.map.0 st.slot.0 p bits (some_way o s passes)),
          );
        }

    all_short : (t : ℕ) → t < last_slot → AllShort (sent_in first text t)
    all_short t h p l =
        let s = set_in text in
        let st = state_in first text t in
        let i = rw (sends_length s st 0 (placed_with first s st)) at l in
        rw (sends_at_law s st 0 (placed_with first s st) p i) (send_short t (get_or (placed_with first s st) p 0) (0 + p) h (memb_at (placed_with first s st) p i))

    lines_fit : (t : ℕ) → t < last_slot → length (send_lines (sent_in first text t)) ≤ lines_length
    lines_fit t h = omega (arith, lines_length_law (sent_in first text t) (all_short t h), few t)

    -- Of a call on the run's state: it is refused only if the buffer is too short,
    bytes_long : (t : ℕ) → t < last_slot → eqb (length (state_bytes (state_in first text t))) state_length ≡ true
    bytes_long t h = eq-eqb _ state_length (bytes_length (state_in first text t) (state_length_law o (set_in text) passes t (omega arith)))

    bytes_back : (t : ℕ) → t ≤ last_slot → state_of (state_bytes (state_in first text t)) ≡ state_in first text t
    bytes_back t h = state_back (state_in first text t) (omega (arith, state_slot o (set_in text) passes t h))

    lines_of : (t : ℕ) → t < last_slot → slot_lines_with first (set_in text) (state_bytes (state_in first text t)) ≡ send_lines (sent_in first text t)
    unfolding slot_lines_with
    lines_of t h = ap (λ (st : State). send_lines (sends_with first (set_in text) st)) (bytes_back t (omega arith))

    call_fault : (t room : ℕ) → t < last_slot → slot_fault_with first (read_text text) (state_bytes (state_in first text t)) room
        ≡ cond (ltb room (length (send_lines (sent_in first text t)))) (fault_at NoRoom 0) no_fault
    unfolding slot_fault_with
    call_fault t room h =
        rw (read, bytes_long t h, bytes_back t (omega arith), state_good o (set_in text) passes t h, lines_of t h)

    -- so with 576 bytes it is not,
    call_good : (t room : ℕ) → t < last_slot → lines_length ≤ room
        → slot_fault_with first (read_text text) (state_bytes (state_in first text t)) room ≡ no_fault
    call_good t room h r = call_fault t room h ∙ rw (le-ltb room (length (send_lines (sent_in first text t))) (omega (arith, lines_fit t h)))

    -- and where the lines have 576 it is refused with less;
    call_refused : (t room : ℕ) → t < last_slot → room < length (send_lines (sent_in first text t))
        → (slot_for_c_with first text (state_bytes (state_in first text t)) room).refusal ≡ 10
    unfolding slot_for_c_with slot_answer_with
    call_refused t room h r = rw (call_fault t room h, lt-ltb room (length (send_lines (sent_in first text t))) r)

    -- it leaves the next state,
    call_state : (t room : ℕ) → t < last_slot → lines_length ≤ room
        → slot_state_with first (read_text text) (state_bytes (state_in first text t)) room ≡ state_bytes (state_in first text (suc t))
    unfolding slot_state_with
    call_state t room h r =
        rw (call_good t room h r, bytes_back t (omega arith))
        (ap state_bytes (sym (state_next o (set_in text) passes t h) ∙ ap (state_in first text) (add-one t)))

    -- and answers with the slot's lines.
    call_length : (t room : ℕ) → t < last_slot → lines_length ≤ room
        → slot_for_c_with first text (state_bytes (state_in first text t)) room
        ≡ record { refusal = 0; line = 0; field = 0; length = length (send_lines (sent_in first text t)) }
    unfolding slot_for_c_with slot_answer_with
    call_length t room h r = rw (call_good t room h r, lines_of t h)

    call_buffer : (t : ℕ) (buffer : List ℕ) → t < last_slot → lines_length ≤ length buffer
        → slot_buffer_with first (read_text text) (state_bytes (state_in first text t)) buffer
        ≡ send_lines (sent_in first text t) ++ drop (length (send_lines (sent_in first text t))) buffer
    unfolding slot_buffer_with
    call_buffer t buffer h r = rw (call_good t (length buffer) h r, lines_of t h)

    -- So it is with every call.
    module _ (lent : ℕ → List ℕ) (room : (t : ℕ) → lines_length ≤ length (lent t)) where
      run_bytes : (n : ℕ) → n ≤ last_slot → bytes_at first text lent n ≡ state_bytes (state_in first text n)
      unfolding bytes_at run_with
      run_bytes zero h = fresh_bytes
      run_bytes (suc n) h =
          ap (λ (b : List ℕ). slot_state_with first (read_text text) b (length (lent n))) (run_bytes n (omega arith))
          ∙ call_state n (length (lent n)) h (room n)

      answer_is : (t : ℕ) → t < last_slot
          → answer_at first text lent t ≡ record { refusal = 0; line = 0; field = 0; length = length (send_lines (sent_in first text t)) }
      answer_is t h =
          ap (λ (b : List ℕ). slot_for_c_with first text b (length (lent t))) (run_bytes t (omega arith)) ∙ call_length t (length (lent t)) h (room t)

      buffer_is : (t : ℕ) → t < last_slot
          → buffer_at first text lent t ≡ send_lines (sent_in first text t) ++ drop (length (send_lines (sent_in first text t))) (lent t)
      buffer_is t h =
          ap (λ (b : List ℕ). slot_buffer_with first (read_text text) b (lent t)) (run_bytes t (omega arith)) ∙ call_buffer t (lent t) h (room t)

      call_gives : (t : ℕ) → t < last_slot → Gives first text lent t (report (step_with first) (set_in text) t)
      call_gives t h =
          let a = answer_is t h in
          let n : length (send_lines (sent_in first text t)) ≡ (answer_at first text lent t).length = ap (λ (x : SlotAnswer). x.length) (sym a) in
          let b = buffer_is t h in
          let front : take (answer_at first text lent t).length (buffer_at first text lent t) ≡ send_lines (sent_in first text t) =
          ap (take (answer_at first text lent t).length) b ∙ take_at (send_lines (sent_in first text t)) _ (answer_at first text lent t).length n in
          record {
            fault = (ap (λ (x : SlotAnswer). x.refusal) a, ap (λ (x : SlotAnswer). x.line) a);
            next = run_bytes (suc t) h ∙ ap state_bytes (next_is t);
            most = omega (arith, lines_fit t h);
            lines = front ∙ ap send_lines (sym (reported t h));
            further = ap (drop (answer_at first text lent t).length) b ∙ drop_at (send_lines (sent_in first text t)) _ (answer_at first text lent t).length n
                ∙ ap (λ (k : ℕ). drop k (lent t)) n;
            numbers = ap numbers_in front ∙ numbers_back (sent_in first text t) (all_short t h)
                ∙ ap (map send_numbers) (sym (reported t h));
          }

      pub calls_run : (n : ℕ) → n ≤ last_slot → Runs first text lent n
      calls_run n h = record { state = run_bytes n h; calls = λ t l. call_gives t (omega arith) }

-- The verdict's refusal is 0 just for the texts that the reader accepts
pub verdict_reads : (text : List ℕ) → (verdict_for_c text).refusal ≡ 0 → good (read_text text).fault.refusal ≡ true
unfolding verdict_for_c verdict_of_reading
verdict_reads text e = go (good (read_text text).fault.refusal) refl
  where
    go : (b : Bool) → good (read_text text).fault.refusal ≡ b → good (read_text text).fault.refusal ≡ true
    go true q = q
    go false q = let z : refusal_number (read_text text).fault.refusal ≡ 0 = rw q at e in eq-eqb _ 0 z

pub read_verdict : (text : List ℕ) → good (read_text text).fault.refusal ≡ true → (verdict_for_c text).refusal ≡ 0
unfolding verdict_of
read_verdict text read = ap (λ (v : VerdictAnswer). v.refusal) (verdict_is text read) ∙ rw (text_passes text read)

-- What a test promises of accepted texts it promises of the calls, where C is told its verdict and its bounds.
pub calls_promise : {first : Priority} → Ordering first → (test : Test) → TextPromiseOf test (step_with first)
    → (admits : List ℕ → ℕ) (bound : List ℕ → ℕ → ℕ)
    → ((text : List ℕ) → good (read_text text).fault.refusal ≡ true → admits text ≡ bit (test.admits (set_in text)))
    → ((text : List ℕ) (k : ℕ) → good (read_text text).fault.refusal ≡ true → bound text k ≡ test.bound (set_in text) k)
    → PromiseForCOf first admits bound
calls_promise {first} o test f admits bound a b text read lent room n h = (
  calls_run o text read lent room n h,
  λ e. kept_longer (step_with first) (set_in text) (test.bound (set_in text)) (bound text) n (λ k l. omega (arith, b text k read))
      (f text read (bit_one (test.admits (set_in text)) (sym (a text read) ∙ e)) n h),
)

-- Demand 3 for C.
pub calls_keep : PromiseForC
calls_keep = (
  calls_promise deadline_order basic demand_3.0 _ _ (λ text read. ap (λ (v : VerdictAnswer). v.basic) (verdict_is text read))
      (λ text k read. ap (λ (b : BoundsAnswer). b.basic) (bounds_are text k read)),
  calls_promise deadline_order tightened demand_3.1 _ _ (λ text read. ap (λ (v : VerdictAnswer). v.tightened) (verdict_is text read))
      (λ text k read. ap (λ (b : BoundsAnswer). b.tightened) (bounds_are text k read)),
)

-- Of document 01's machine: no fewer bytes will do, where the lines of a slot have 576,
pub less_refused : (text : List ℕ) (read : good (read_text text).fault.refusal ≡ true) → (verdict_of (set_in text)).basic ≡ true
    → (t : ℕ) → t < last_slot → length (send_lines (sent_in ahead text t)) ≡ lines_length → NoFewer
less_refused text read v t h e =
    record {
      text = text;
      read = read;
      admitted = rw (verdict_is text read, v, basic_then_tightened (set_in text) v) (refl, refl);
      slot = t;
      before_last = h;
      refused = λ room r. call_refused deadline_order text read t room h (omega arith);
    }

-- and a slot's lines tell its transmissions, since their numbers are short.
pub lines_tell_sends : LinesTell
lines_tell_sends text other read also t u h k =
    lines_tell _ _ (rw (reported deadline_order text read t h) (all_short deadline_order text read t h))
    (rw (reported deadline_order other also u k) (all_short deadline_order other also u k))
