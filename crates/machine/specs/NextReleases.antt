-- A run goes from slot to slot without a division: beside a flow's absolute deadline it keeps the flow's next release. Only where that is the
-- present slot does either of them change, and only there does the packet's count start again.
use Rattle.std.specs.Prelude.{◌≡◌, refl, ◌⊎◌, Bool, true, false, cond, List, ℕ, suc, ◌+◌, ◌-◌, ◌*◌, ◌≤◌, ◌<◌, eqb, length, get_or, set}
use Rattle.std.proofs.Common.{sym, ap, ◌∙◌, inl, inr, zero-le, le_refl, suc-mul, zero-mul, arith, eqb-true, eq-eqb, ne_eqb, get_or-set_same, get_or-set_other}
use Rattle.std.proofs.Math.Decide.{dec_le}
use Rattle.std.proofs.lemmas.Bool.{eqb-false}
use Rattle.std.proofs.Math.Arith.{digits_div}
use Rattle.model.specs.declared.kinds.FlowSet.{FlowSet}
use Rattle.model.specs.declared.kinds.State.{State}
use Rattle.model.specs.Sets.{used}
use Rattle.document.specs.Machine.{count_at}
use Rattle.machine.specs.ArrayLists.{Through, through_next, through_stay}
use Rattle.machine.specs.LentArrays.{Numbers, Releases, releases_of, packets_of}
use Rattle.machine.specs.PacketNumbers.{due_in, due_first, had_in, PacketsHold}
use Rattle.machine.specs.States.{GoodState}
use Rattle.machine.specs.SlotByColumns.{AfterNumbers, numbers_fit, packets_hold}

-- just before slot t the next release is t or later, and the deadline is that of the packet before it, or of the first
abbrev pub NextRelease : ℕ → ℕ → ℕ → ℕ → ℕ → ℕ → Type 0
NextRelease a p d t due next =
    ((t ≤ a) × (next ≡ a) × (due ≡ a + d))
    ⊎ ((i : ℕ) × (a + i * p < t) × (t ≤ next) × (next ≡ a + i * p + p) × (due ≡ a + i * p + d))

pub release_at_start : (a p d : ℕ) → NextRelease a p d 0 (due_in a p d 0) a
release_at_start a p d = inl (zero-le, refl, due_first a p d 0 zero-le)

due_in_law : (a p d i r t : ℕ) → r < p → t ≡ a + i * p + r → due_in a p d t ≡ a + i * p + d
due_in_law a p d i r t h e =
    let f : t - a ≡ i * p + r = omega arith in
    rw f (ap (λ (q : ℕ). a + q * p + d) (digits_div i h))

pub release_no_earlier : (a p d t due next : ℕ) → NextRelease a p d t due next → t ≤ next
release_no_earlier a p d t due next (inl w) = omega (arith, w)
release_no_earlier a p d t due next (inr w) = w.2

-- one that has started did so before, unless this is its next release
pub release_started : (a p d t due next : ℕ) → NextRelease a p d t due next → t < next → a ≤ t → a < t
release_started a p d t due next (inl w) h l = omega (arith, w)
release_started a p d t due next (inr w) h l = omega (arith, w)

-- in a release slot
pub release_now : (a p d t due next : ℕ) → 0 < p → next ≡ t → NextRelease a p d t due next
    → (due_in a p d t ≡ t + d) × NextRelease a p d (t + 1) (t + d) (t + p)
release_now a p d t due next h e (inl w) =
    let z : 0 * p ≡ 0 = zero-mul p in
    (due_first a p d t w.0 ∙ omega (arith, w), inr (0, omega (arith, w), omega arith, omega (arith, w), omega (arith, w)))
release_now a p d t due next h e (inr w) =
    let z : suc w.0 * p ≡ w.0 * p + p = suc-mul w.0 p in (
      due_in_law a p d (suc w.0) 0 t h (omega (arith, w)) ∙ omega (arith, w),
      inr (suc w.0, omega (arith, w), omega arith, omega (arith, w), omega (arith, w)),
    )

-- and in any other one
pub release_later : (a p d t due next : ℕ) → t < next → NextRelease a p d t due next
    → (due_in a p d t ≡ due) × NextRelease a p d (t + 1) due next × (t + d < due ⊎ due < t + d)
release_later a p d t due next h (inl w) =
    (due_first a p d t w.0 ∙ omega (arith, w), inl (omega (arith, w), w.1, w.2), inl (omega (arith, w)))
release_later a p d t due next h (inr w) = (
  due_in_law a p d w.0 (t - (a + w.0 * p)) t (omega (arith, w)) (omega (arith, w)) ∙ sym w.4,
  inr (w.0, omega (arith, w), omega arith, w.3, w.4),
  inr (omega (arith, w)),
)

-- where all flows of a set stand
pub record NextReleases (s : FlowSet) (t : ℕ) (numbers : Numbers) (due next : List ℕ) : Type 0 where
  pub turn : (k : ℕ) → k < s.count
      → NextRelease (get_or numbers.start k 0) (get_or numbers.period k 0) (get_or numbers.deadline k 0) t (get_or due k 0) (get_or next k 0)
  pub none : (k : ℕ) → s.count ≤ k → get_or due k 0 ≡ 0

-- a number that a flow's release in slot t makes, and the old one where it has none
abbrev pub released_by : ℕ → List ℕ → (ℕ → ℕ) → List ℕ → ℕ → ℕ
released_by t next made old k = cond (eqb (get_or next k 0) t) (made k) (get_or old k 0)

-- what slot t's releases change
pub record Released (count t : ℕ) (period deadline : List ℕ) (before after : Releases) : Type 0 where
  pub dues : Through (released_by t before.next (λ k. t + get_or deadline k 0) before.due) count before.due after.due
  pub nexts : Through (released_by t before.next (λ k. t + get_or period k 0) before.next) count before.next after.next
  pub sents : Through (released_by t before.next (λ k. 0) before.sent) count before.sent after.sent

-- with no release nothing changes
pub released_none : (count t : ℕ) (period deadline : List ℕ) (r : Releases) → ((k : ℕ) → k < count → t < get_or r.next k 0)
    → Released count t period deadline r r
released_none count t period deadline r h = record { dues = same r.due _; nexts = same r.next _; sents = same r.sent _ }
  where
    same : (l : List ℕ) (f : ℕ → ℕ) → Through (released_by t r.next f l) count l l
    same l f =
        record {
          long = refl;
          below = λ k b. sym (ap (λ (c : Bool). cond c (f k) (get_or l k 0)) (ne_eqb (get_or r.next k 0) t (λ e. omega (arith, h k b))));
          above = λ k b. refl;
        }

-- one flow after the other
module _ (n t : ℕ) (period deadline : List ℕ) (old new : Releases) (r : Released n t period deadline old new) where
  pub released_now : (x y : ℕ) → x ≡ t + get_or deadline n 0 → y ≡ t + get_or period n 0
      → n < length old.due → n < length old.next → n < length old.sent → get_or new.next n 0 ≡ t
      → Released (n + 1) t period deadline old (releases_of (set new.due n x) (set new.next n y) (set new.sent n 0))
  released_now x y d p a b c e =
      let h : eqb (get_or old.next n 0) t ≡ true = eq-eqb (get_or old.next n 0) t (sym (r.nexts.above n (le_refl n)) ∙ e) in
      record {
        dues = through_next _ n old.due new.due x a (d ∙ sym (ap (λ (z : Bool). cond z (t + get_or deadline n 0) (get_or old.due n 0)) h)) r.dues;
        nexts = through_next _ n old.next new.next y b (p ∙ sym (ap (λ (z : Bool). cond z (t + get_or period n 0) (get_or old.next n 0)) h)) r.nexts;
        sents = through_next _ n old.sent new.sent 0 c (sym (ap (λ (z : Bool). cond z 0 (get_or old.sent n 0)) h)) r.sents;
      }

  pub released_later : (get_or new.next n 0 ≡ t → ⊥) → Released (n + 1) t period deadline old new
  released_later e =
      let h : eqb (get_or old.next n 0) t ≡ false = ne_eqb (get_or old.next n 0) t (λ q. e (r.nexts.above n (le_refl n) ∙ q)) in
      record {
        dues = through_stay _ n old.due new.due (sym (ap (λ (x : Bool). cond x (t + get_or deadline n 0) (get_or old.due n 0)) h)) r.dues;
        nexts = through_stay _ n old.next new.next (sym (ap (λ (x : Bool). cond x (t + get_or period n 0) (get_or old.next n 0)) h)) r.nexts;
        sents = through_stay _ n old.sent new.sent (sym (ap (λ (x : Bool). cond x 0 (get_or old.sent n 0)) h)) r.sents;
      }

-- no next release of the first n flows comes before a slot
abbrev pub NoneBefore : ℕ → ℕ → List ℕ → Type 0
NoneBefore n slot next = (k : ℕ) → k < n → slot ≤ get_or next k 0

-- and one flow more
pub soon_set : (next : List ℕ) (n x a b : ℕ) → n < length next → b ≤ a → b ≤ x → NoneBefore n a next → NoneBefore (n + 1) b (set next n x)
soon_set next n x a b h i j f k l = elim (dec_le n k) [
  | yes d ↦ let e : k ≡ n = omega arith in rw (e, get_or-set_same next n x 0 h) j
  | no d ↦ rw (get_or-set_other next n k x 0 (λ e. omega arith)) (omega (arith, f k (omega arith)))
]

pub soon_stay : (next : List ℕ) (n a b : ℕ) → b ≤ a → b ≤ get_or next n 0 → NoneBefore n a next → NoneBefore (n + 1) b next
soon_stay next n a b i j f k l = elim (dec_le n k) [
  | yes d ↦ let e : k ≡ n = omega arith in rw e j
  | no d ↦ omega (arith, f k (omega arith))
]

module _ (s : FlowSet) (st : State) (numbers : Numbers) (due next : List ℕ) (after : Releases) (n : AfterNumbers s numbers) (g : GoodState (used s) st)
    (u : NextReleases s st.slot.0 numbers due next)
    (r : Released s.count st.slot.0 numbers.period numbers.deadline (releases_of due next st.sent) after) where
  -- one flow in the slot
  record One (k a q d : ℕ) : Type 0 where
    due_is : get_or after.due k 0 ≡ due_in a q d st.slot.0
    had_of : get_or after.sent k 0 ≡ had_in (get_or after.due k 0) d st.slot.0 (count_at st k)
    turn_on : NextRelease a q d (st.slot.0 + 1) (get_or after.due k 0) (get_or after.next k 0)

  one : (k : ℕ) → k < s.count → One k (get_or numbers.start k 0) (get_or numbers.period k 0) (get_or numbers.deadline k 0)
  one k h = go (eqb (get_or next k 0) st.slot.0) refl
    where
      a : ℕ
      a = get_or numbers.start k 0

      q : ℕ
      q = get_or numbers.period k 0

      d : ℕ
      d = get_or numbers.deadline k 0

      t : ℕ
      t = st.slot.0

      go : (b : Bool) → eqb (get_or next k 0) st.slot.0 ≡ b → One k a q d
      go true e =
          let w = release_now a q d t (get_or due k 0) (get_or next k 0) (numbers_fit s numbers n k h) (eqb-true _ _ e) (u.turn k h) in
          let x : get_or after.due k 0 ≡ t + d = r.dues.below k h ∙ rw e in
          let y : get_or after.next k 0 ≡ t + q = r.nexts.below k h ∙ rw e in
          record {
            due_is = x ∙ sym w.0;
            had_of = r.sents.below k h ∙ rw (e, x, eq-eqb (t + d) (t + d) refl);
            turn_on = rw (x, y) w.1;
          }
      go false e =
          let f = eqb-false (get_or next k 0) st.slot.0 e in
          let l : t < get_or next k 0 = omega (arith, release_no_earlier a q d t (get_or due k 0) (get_or next k 0) (u.turn k h), f) in
          let w = release_later a q d t (get_or due k 0) (get_or next k 0) l (u.turn k h) in
          let x : get_or after.due k 0 ≡ get_or due k 0 = r.dues.below k h ∙ rw e in
          let y : get_or after.next k 0 ≡ get_or next k 0 = r.nexts.below k h ∙ rw e in
          let z : eqb (t + d) (get_or due k 0) ≡ false = ne_eqb _ _ (λ f. apart w.2 f) in
          record {
            due_is = x ∙ sym w.0;
            had_of = r.sents.below k h ∙ rw (e, x, z);
            turn_on = rw (x, y) w.1;
          }
        where
          apart : {x y : ℕ} → (x < y ⊎ y < x) → x ≡ y → ⊥
          apart (inl h) e = omega arith
          apart (inr h) e = omega arith

  pub packets_after_releases : PacketsHold (used s) st (packets_of numbers.start after.due after.sent numbers.work) numbers.deadline
  packets_after_releases =
      packets_hold s st numbers after.due after.sent n g (λ k h. (one k h).due_is) (λ k h. (one k h).had_of)
      (λ k d. (r.dues.above k d ∙ u.none k d, r.sents.above k d))

  pub releases_next : NextReleases s (st.slot.0 + 1) numbers after.due after.next
  releases_next = record { turn = λ k h. (one k h).turn_on; none = λ k h. r.dues.above k h ∙ u.none k h }
