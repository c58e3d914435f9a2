-- A slot's answer from arrays: its sends, deliveries, drops and the next counts are the machine's.
use Rattle.std.specs.Prelude.{◌≡◌, Bool, ◌&&◌, ℕ, suc, ◌+◌, ◌-◌, ◌%◌, ◌≤◌, ◌<◌, leb, length, take, set}
use Rattle.std.proofs.Math.Path.{refl, ap₂, fun_ext}
use Rattle.std.proofs.Common.{sym, ap, ◌∙◌, add-zero, add-one, arith, length-take-le, take-suc}
use Rattle.std.proofs.Math.Bool.{true, false, cond}
use mathlib.Core.List.{List, [], ◌∷◌, ◌++◌}
use borrow.Author.Tests.{ltb-true, ltb-false}
use Rattle.std.proofs.Math.Dec.{ltb, eqb}
use Rattle.std.proofs.Math.ListN.{get_or}
use Rattle.model.specs.declared.kinds.FlowSet.{FlowSet}
use Rattle.model.specs.declared.kinds.Slot.{Slot}
use Rattle.model.specs.declared.kinds.State.{State}
use Rattle.model.specs.declared.answers.Send.{Send}
use Rattle.model.specs.declared.answers.Delivery.{Delivery}
use Rattle.model.specs.Limits.{last_slot, most_channels, most_flows}
use Rattle.model.specs.Sums.{bit}
use Rattle.model.specs.Sets.{flow_at, memb, filter_to, work}
use Rattle.document.specs.Machine.{release_at, count_at, had_at, radio_channel, send_of, sends_from, deliveries_of, filled, no_send, no_delivery, count_with, delivered_with, dropped_with, next_with, Priority, placed_with}
use Rattle.machine.specs.ArrayLists.{Through, is_list_to, filled_put, filter_hit}
use Rattle.machine.specs.LentArrays.{Links, Packets}
use Rattle.machine.specs.LinkColumns.{from_at, end_at}
use Rattle.machine.specs.PacketNumbers.{PacketsHold, next_is}
use Rattle.machine.specs.ReadyOrder.{Each}
use Rattle.machine.specs.PlacedChoice.{Choice, placed_ready}

-- rule 5: the transmission of flow k, whose packet has had n, at an offset
abbrev pub send_in : ℕ → Slot → Links → ℕ → ℕ → ℕ → Send
send_in m t links k n o =
    record {
      slot = t;
      flow = k;
      from = from_at links k n;
      to = end_at links k n 1;
      attempt = n % get_or links.tries k 0;
      offset = o;
      channel = radio_channel m t.0 o;
    }

-- the same by the counts of an array
abbrev pub send_by : ℕ → Slot → Links → List ℕ → ℕ → ℕ → Send
send_by m t links sent k o = send_in m t links k (get_or sent k 0) o

-- the placed flows' transmissions, each at the next offset
unfoldable pub sends_of : (ℕ → ℕ → Send) → ℕ → List ℕ → List Send
sends_of send o [] = []
sends_of send o (k ∷ ks) = send k o ∷ sends_of send (o + 1) ks

pub sends_more : (send : ℕ → ℕ → Send) (o : ℕ) (ks : List ℕ) (k : ℕ)
    → sends_of send o (ks ++ (k ∷ [])) ≡ sends_of send o ks ++ (send k (o + length ks) ∷ [])
unfolding sends_of
sends_more send o [] k = rw add-zero
sends_more send o (x ∷ ks) k =
    let e : o + 1 + length ks ≡ o + suc (length ks) = omega arith in
    ap (λ r. send x o ∷ r) (sends_more send (o + 1) ks k ∙ ap (λ (z : ℕ). sends_of send (o + 1) ks ++ (send k z ∷ [])) e)

pub length_sends : (send : ℕ → ℕ → Send) (o : ℕ) (ks : List ℕ) → length (sends_of send o ks) ≡ length ks
unfolding sends_of
length_sends send o [] = refl
length_sends send o (k ∷ ks) = ap suc (length_sends send (o + 1) ks)

-- which are the machine's, if each is
pub sends_by : (P : ℕ → Type 0) (s : FlowSet) (st : State) (send : ℕ → ℕ → Send) → ((k o : ℕ) → P k → send k o ≡ send_of s st k o)
    → (o : ℕ) (ks : List ℕ) → Each P ks → sends_of send o ks ≡ sends_from s st o ks
unfolding sends_of sends_from
sends_by P s st send h o [] e = refl
sends_by P s st send h o (k ∷ ks) e =
    ap₂ (λ (x : Send) (r : List Send). x ∷ r) (h k o e.0) (sends_by P s st send h (o + 1) ks e.1)

-- the array of a slot's sends
abbrev pub send_array : (ℕ → ℕ → Send) → List ℕ → List Send
send_array send ks = filled most_channels no_send (sends_of send 0 ks)

-- rule 6 by arrays: flow k's packet is delivered, and the flows whose packets are
abbrev pub delivered_by : List ℕ → List ℕ → List ℕ → ℕ → Bool
delivered_by sent work marked k = eqb (get_or marked k 0) 1 && eqb (get_or sent k 0 + 1) (get_or work k 0)

abbrev pub delivered_to : List ℕ → List ℕ → List ℕ → ℕ → List ℕ
delivered_to sent work marked n = filter_to (delivered_by sent work marked) n

abbrev pub delay_in : ℕ → ℕ → ℕ → ℕ
delay_in t due d = t - (due - d) + 1

abbrev pub delivery_in : ℕ → ℕ → Delivery
delivery_in k x = record { flow = k; delay = record { 0 = x } }

unfoldable pub deliveries_by : ℕ → List ℕ → List ℕ → List ℕ → List Delivery
deliveries_by t deadline due [] = []
deliveries_by t deadline due (k ∷ ks) = delivery_in k (delay_in t (get_or due k 0) (get_or deadline k 0)) ∷ deliveries_by t deadline due ks

pub deliveries_more : (t : ℕ) (deadline due ks : List ℕ) (k : ℕ)
    → deliveries_by t deadline due (ks ++ (k ∷ [])) ≡ deliveries_by t deadline due ks ++ (delivery_in k (delay_in t (get_or due k 0) (get_or deadline k 0)) ∷ [])
unfolding deliveries_by
deliveries_more t deadline due [] k = refl
deliveries_more t deadline due (x ∷ ks) k =
    ap (λ r. delivery_in x (delay_in t (get_or due x 0) (get_or deadline x 0)) ∷ r) (deliveries_more t deadline due ks k)

pub length_deliveries : (t : ℕ) (deadline due ks : List ℕ) → length (deliveries_by t deadline due ks) ≡ length ks
unfolding deliveries_by
length_deliveries t deadline due [] = refl
length_deliveries t deadline due (k ∷ ks) = ap suc (length_deliveries t deadline due ks)

-- the array of a slot's deliveries
abbrev pub delivery_array : ℕ → List ℕ → List ℕ → List ℕ → List Delivery
delivery_array t deadline due ks = filled most_channels no_delivery (deliveries_by t deadline due ks)

-- flow k's packet is dropped, and the flows whose packets are
abbrev pub dropped_by : ℕ → Packets → List ℕ → ℕ → Bool
dropped_by t p marked k =
    leb (get_or p.start k 0) t && eqb (t + 1) (get_or p.due k 0) && ltb (get_or p.sent k 0 + get_or marked k 0) (get_or p.work k 0)

abbrev pub dropped_to : ℕ → Packets → List ℕ → ℕ → List ℕ
dropped_to t p marked n = filter_to (dropped_by t p marked) n

-- rule 2's next count: what the packet has had, and one more if it was placed
abbrev pub count_by : List ℕ → List ℕ → ℕ → ℕ
count_by sent marked k = get_or sent k 0 + get_or marked k 0

-- a count after the slot
pub count_after_law : (first : Priority) (s : FlowSet) (st : State) (k : ℕ) → count_with first s st k ≡ had_at s st k + bit (memb k (placed_with first s st))
unfolding count_with
count_after_law first s st k = next_is (flow_at s k) st.slot.0 (count_at st k) (memb k (placed_with first s st)) (λ e. (placed_ready first s st k e).1)

module _ (s : FlowSet) (st : State) (p : Packets) (deadline : List ℕ) (h : PacketsHold s st p deadline) where
  pub deliveries_by_law : (ks : List ℕ) → deliveries_by st.slot.0 deadline p.due ks ≡ deliveries_of s st ks
  unfolding deliveries_by deliveries_of
  deliveries_by_law [] = refl
  deliveries_by_law (k ∷ ks) =
      ap₂ (λ (x : ℕ) (r : List Delivery). delivery_in k (st.slot.0 - x + 1) ∷ r) back (deliveries_by_law ks)
    where
      back : get_or p.due k 0 - get_or deadline k 0 ≡ release_at (flow_at s k) st.slot.0
      back = rw (h.dues k, h.deadlines k) (omega arith)

  -- the placed packets in arrays, for any order of priority
  module _ (first : Priority) (chosen marked : List ℕ) (n : ℕ) (c : Choice (placed_with first s st) chosen marked n) where
    pub delivered_by_law : delivered_by p.sent p.work marked ≡ delivered_with first s st
    unfolding delivered_with
    delivered_by_law =
        fun_ext (λ k. ap₂ (λ (a b : Bool). a && b) (ap (λ (x : ℕ). eqb x 1) (c.marks k) ∙ one (memb k (placed_with first s st)))
        (ap₂ (λ (x y : ℕ). eqb (x + 1) y) (h.hads k) (h.works k)))
      where
        one : (b : Bool) → eqb (bit b) 1 ≡ b
        one true = refl
        one false = refl

    pub after_by : (k : ℕ) → count_by p.sent marked k ≡ count_with first s st k
    after_by k = ap₂ (λ (x y : ℕ). x + y) (h.hads k) (c.marks k) ∙ sym (count_after_law first s st k)

    pub dropped_by_law : dropped_by st.slot.0 p marked ≡ dropped_with first s st
    unfolding dropped_with
    dropped_by_law = fun_ext (λ k. rw (h.starts k, h.dues k, h.works k, after_by k))

    -- an array with each flow's next count is the next state's
    pub next_by : (counts : List ℕ) → length p.sent ≡ most_flows → ((k : ℕ) → s.count ≤ k → get_or p.sent k 0 ≡ 0)
        → Through (count_by p.sent marked) s.count p.sent counts → counts ≡ (next_with first s st).sent
    unfolding next_with
    next_by counts l z w =
        is_list_to (λ k. cond (ltb k s.count) (count_with first s st k) 0) most_flows counts (w.long ∙ l) (λ k i. at k (ltb k s.count) refl)
      where
        at : (k : ℕ) (b : Bool) → ltb k s.count ≡ b → get_or counts k 0 ≡ cond b (count_with first s st k) 0
        at k true e = w.below k (ltb-true _ _ e) ∙ after_by k
        at k false e = let f = ltb-false _ _ e in w.above k f ∙ z k f

-- a packet that is released, with its deadline to come, within 16 bits
pub record Delayed (t due d : ℕ) : Type 0 where
  pub released : d ≤ due
  pub begun : due ≤ t + d
  pub in_time : t < due
  pub small : d ≤ 65535
  pub slot_le : t ≤ last_slot

-- each marked packet is one of these
abbrev pub MarkedDelayed : ℕ → List ℕ → List ℕ → List ℕ → Type 0
MarkedDelayed t deadline due marked = (k : ℕ) → get_or marked k 0 ≡ 1 → Delayed t (get_or due k 0) (get_or deadline k 0)

-- the next send of an array
pub sends_put : (send : ℕ → ℕ → Send) (chosen : List ℕ) (i : ℕ) (array : List Send) (x : Send) → i < most_channels → i < length chosen
    → array ≡ send_array send (take i chosen) → x ≡ send (get_or chosen i 0) i → set array i x ≡ send_array send (take (i + 1) chosen)
sends_put send chosen i array x h k e f =
    let l : length (sends_of send 0 (take i chosen)) ≡ i = length_sends send 0 (take i chosen) ∙ length-take-le i chosen (omega arith) in
    let o : 0 + length (take i chosen) ≡ i = omega (arith, length-take-le i chosen (omega arith)) in
    let w : sends_of send 0 (take (i + 1) chosen) ≡ sends_of send 0 (take i chosen) ++ (x ∷ []) =
    rw (add-one, take-suc chosen i 0 k, sends_more send 0 (take i chosen) (get_or chosen i 0), o, f) in
    rw w (filled_put most_channels no_send (sends_of send 0 (take i chosen)) array i x e (sym l) (rw l h))

-- the next delivery of an array
pub deliveries_put : (p : ℕ → Bool) (t : ℕ) (deadline due : List ℕ) (k n : ℕ) (array : List Delivery) (x : Delivery) → p k ≡ true
    → length (filter_to p k) < most_channels → n ≡ length (filter_to p k) → array ≡ delivery_array t deadline due (filter_to p k)
    → x ≡ delivery_in k (delay_in t (get_or due k 0) (get_or deadline k 0)) → set array n x ≡ delivery_array t deadline due (filter_to p (k + 1))
deliveries_put p t deadline due k n array x h l e f g =
    let d : List ℕ = filter_to p k in
    let m : length (deliveries_by t deadline due d) ≡ length d = length_deliveries t deadline due d in
    rw (filter_hit p k h, deliveries_more t deadline due d k, g)
    (filled_put most_channels no_delivery (deliveries_by t deadline due d) array n _ f (e ∙ sym m) (rw m l))
