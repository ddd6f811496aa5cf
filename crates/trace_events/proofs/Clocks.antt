-- The time rule: the test says yes exactly if document 01's words hold (`time_step_iff`), and of two events with ranges that are not
-- empty exactly if every choice of true times puts the one later than the other by more than the delay (`time_rule_iff`). A longer
-- delay orders no more (`time_step_less`). Assumes nothing.
use Prim.Native.Nat.{ℕ, ◌+◌, ◌≤◌}
use native.Mathlib.Nat.{le_refl}
use native.Mathlib.Omega.{arith}
use mathlib.Core.Path.{◌≡◌, refl, sym, ◌∙◌}
use mathlib.Core.Logic.{◌↔◌}
use mathlib.Core.Bool.{Bool, true, false, not, ◌&&◌, false≢true, true≢false}
use lib.Dec.{ltb}
use borrow.Author.Tests.{lt-ltb, le-ltb, ltb-true, not-true}
use Rattle.basics.proofs.Booleans.{split, and_left, and_right, and_intro, and_false_right}
use Rattle.trace_events.specs.Types.{Origin, TableOperation, Operation, Event}
use Rattle.trace_events.specs.Events.{is_message, is_handled, is_received}
use Rattle.trace_events.specs.Clocks.{time_step, IsPkt, Clocked, TimeSteps, SurelyLater}

-- ---- which two events the rule is about
handled_of : (o : Operation) → is_handled o ≡ true → o ≡ Operation.Other → ⊥
handled_of o h e = false≢true (rw e at h)

is_handled_lem : (o : Operation) → (o ≡ Operation.Other → ⊥) → is_handled o ≡ true
is_handled_lem Operation.Other h = absurd (h refl)
is_handled_lem (Operation.Barrier w) h = refl
is_handled_lem (Operation.Message w) h = refl
is_handled_lem (Operation.Table w o) h = refl

received_packet : (w : ℕ) (o : TableOperation) → not (is_message o) ≡ true → IsPkt (Operation.Table w o)
received_packet w (TableOperation.Packet Origin.Received p) e = IsPkt.pkt
received_packet w (TableOperation.Packet Origin.SentOut p) e = absurd (false≢true e)
received_packet w (TableOperation.Add n) e = absurd (false≢true e)
received_packet w (TableOperation.AddChecked n) e = absurd (false≢true e)
received_packet w (TableOperation.ModifyStrict n) e = absurd (false≢true e)
received_packet w (TableOperation.Modify n) e = absurd (false≢true e)
received_packet w (TableOperation.DeleteStrict k) e = absurd (false≢true e)
received_packet w (TableOperation.Delete m) e = absurd (false≢true e)

received_of : (o : Operation) → is_received o ≡ true → IsPkt o
received_of Operation.Other e = absurd (false≢true e)
received_of (Operation.Barrier w) e = absurd (false≢true e)
received_of (Operation.Message w) e = absurd (false≢true e)
received_of (Operation.Table w o) e = received_packet w o e

is_received_lem : {o : Operation} → IsPkt o → is_received o ≡ true
is_received_lem IsPkt.pkt = refl

-- the part of the test that asks for no clock
abbrev clocked : Operation → Operation → Bool
clocked o p = is_handled o && is_handled p && not (is_received o && is_received p)

not_both : (o p : Operation) → not (is_received o && is_received p) ≡ true → IsPkt o → IsPkt p → ⊥
not_both o p h u v = true≢false (sym (and_intro (is_received_lem u) (is_received_lem v)) ∙ not-true (is_received o && is_received p) h)

is_not_both : (o p : Operation) → (IsPkt o → IsPkt p → ⊥) → not (is_received o && is_received p) ≡ true
is_not_both o p h = split (is_received o && is_received p)
    (λ e. absurd (h (received_of o (and_left (is_received o) (is_received p) e)) (received_of p (and_right (is_received o) (is_received p) e))))
    (λ e. rw e refl)

clocked_iff : (o p : Operation) → (clocked o p ≡ true) ↔ Clocked o p
clocked_iff o p = (
  λ e.
      let both = is_handled o && is_handled p in
      let apart = not (is_received o && is_received p) in
      let f = and_left both apart e in
      record {
        first = handled_of o (and_left (is_handled o) (is_handled p) f);
        second = handled_of p (and_right (is_handled o) (is_handled p) f);
        packets = not_both o p (and_right both apart e);
      },
  λ c. and_intro (and_intro (is_handled_lem o c.first) (is_handled_lem p c.second)) (is_not_both o p c.packets),
)

-- ---- the rule
module _ (delay : ℕ) (a b : Event) where
  pub time_step_iff : (time_step delay a b ≡ true) ↔ TimeSteps delay a b
  unfolding time_step
  time_step_iff = (
    λ e.
        let of = clocked a.operation b.operation in
        let later = ltb (a.head.to + delay) b.head.from in
        record {
          clocked = (clocked_iff a.operation b.operation).0 (and_left of later e);
          later = ltb-true (a.head.to + delay) b.head.from (and_right of later e);
        },
    λ t. and_intro ((clocked_iff a.operation b.operation).1 t.clocked) (lt-ltb (a.head.to + delay) b.head.from t.later),
  )

  -- THE time rule, by true times: with the least favourable clocks
  pub time_rule_iff : a.head.from ≤ a.head.to → b.head.from ≤ b.head.to → Clocked a.operation b.operation → (time_step delay a b ≡ true) ↔ SurelyLater delay a b
  time_rule_iff l m c = (
    λ e x y f g. let t = time_step_iff.0 e in omega (arith, t.later, f.latest, g.earliest),
    λ s. time_step_iff.1 (record {
      clocked = c;
      later = s a.head.to b.head.from
          (record { earliest = l; latest = le_refl a.head.to })
          (record { earliest = le_refl b.head.from; latest = m });
    }),
  )

  -- an event whose `from` is 0 comes after none
  pub from_none : b.head.from ≡ 0 → time_step delay a b ≡ false
  unfolding time_step
  from_none e = and_false_right (clocked a.operation b.operation) (le-ltb (a.head.to + delay) b.head.from (omega (arith, e)))

-- no event comes before itself, where its range is not empty
pub never_itself : (delay : ℕ) (a : Event) → a.head.from ≤ a.head.to → time_step delay a a ≡ false
unfolding time_step
never_itself delay a l = and_false_right (clocked a.operation a.operation) (le-ltb (a.head.to + delay) a.head.from (omega (arith, l)))

-- a longer delay orders no more
pub time_step_less : (d e : ℕ) (a b : Event) → d ≤ e → time_step e a b ≡ true → time_step d a b ≡ true
time_step_less d e a b l h =
    let t = (time_step_iff e a b).0 h in
    (time_step_iff d a b).1 (record { clocked = t.clocked; later = omega (arith, l, t.later) })
