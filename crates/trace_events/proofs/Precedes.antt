-- The test of a step to a later line says yes exactly if document 01's words hold: a token passed on, or a barrier step. Assumes
-- nothing.
use Prim.Native.Nat.{ℕ}
use mathlib.Core.Path.{◌≡◌, refl, sym, ap, ◌∙◌}
use mathlib.Core.Logic.{◌↔◌, ◌⊎◌, inl, inr, ⊎_elim}
use mathlib.Core.Bool.{true, ◌&&◌, ◌||◌, or-true, false≢true}
use lib.Dec.{eqb}
use borrow.Author.Tests.{eqb-true, eq-eqb}
use Rattle.flow_table.specs.Switches.{switch_of}
use Rattle.basics.proofs.Booleans.{and_left, and_right, and_intro, or_cases}
use Rattle.basics.proofs.Searches.{has_iff, shares_found, shares_at}
use Rattle.trace_events.specs.Types.{Origin, TableOperation, Operation, Head, Event}
use Rattle.trace_events.specs.Events.{tokens_of, is_barrier, is_message, barrier_orders}
use Rattle.trace_events.specs.Precedence.{barrier_step, token_step, line_step, Write, Among, BarrierJoins, TokenPasses, LineSteps}

-- ---- tokens
pub token_iff : (a b : Head) → (token_step a b ≡ true) ↔ TokenPasses a b
unfolding token_step
token_iff a b = (
  λ e.
      let r = shares_found (tokens_of a.outs) (tokens_of b.ins) e in
      record { token = r.0; in_out = (has_iff r.0 (tokens_of a.outs)).0 r.1; in_in = (has_iff r.0 (tokens_of b.ins)).0 r.2 },
  λ p. shares_at (tokens_of a.outs) (tokens_of b.ins) p.token ((has_iff p.token (tokens_of a.outs)).1 p.in_out) ((has_iff p.token (tokens_of b.ins)).1 p.in_in),
)

-- ---- barriers
message_of : (w : ℕ) (o : TableOperation) → is_message o ≡ true → Among w (Operation.Table w o)
message_of w (TableOperation.Packet Origin.Received p) e = absurd (false≢true e)
message_of w (TableOperation.Packet Origin.SentOut p) e = Among.pout
message_of w (TableOperation.Add n) e = Among.write Write.add
message_of w (TableOperation.AddChecked n) e = Among.write Write.addc
message_of w (TableOperation.ModifyStrict n) e = Among.write Write.mods
message_of w (TableOperation.Modify n) e = Among.write Write.modn
message_of w (TableOperation.DeleteStrict k) e = Among.write Write.dels
message_of w (TableOperation.Delete m) e = Among.write Write.deln

is_message_lem : {o : TableOperation} → Write o → is_message o ≡ true
is_message_lem Write.add = refl
is_message_lem Write.addc = refl
is_message_lem Write.mods = refl
is_message_lem Write.modn = refl
is_message_lem Write.dels = refl
is_message_lem Write.deln = refl

among_of : (o : Operation) → barrier_orders o ≡ true → Among (switch_of o) o
among_of Operation.Other e = absurd (false≢true e)
among_of (Operation.Barrier w) e = Among.bar
among_of (Operation.Message w) e = Among.msg
among_of (Operation.Table w o) e = message_of w o e

is_among : {w : ℕ} {o : Operation} → Among w o → (switch_of o ≡ w) × (barrier_orders o ≡ true)
is_among (Among.write u) = (refl, is_message_lem u)
is_among Among.bar = (refl, refl)
is_among Among.msg = (refl, refl)
is_among Among.pout = (refl, refl)

barrier_of : (o : Operation) → is_barrier o ≡ true → o ≡ Operation.Barrier (switch_of o)
barrier_of Operation.Other e = absurd (false≢true e)
barrier_of (Operation.Barrier w) e = refl
barrier_of (Operation.Message w) e = absurd (false≢true e)
barrier_of (Operation.Table w o) e = absurd (false≢true e)

-- the second operation, said of the first one's switch
moved : (v w : ℕ) (o : Operation) → v ≡ w → Among w o → Among v o
moved v w o e m = rw e m

module _ (o p : Operation) where
  joins : switch_of o ≡ switch_of p → barrier_orders o ≡ true → barrier_orders p ≡ true → (is_barrier o || is_barrier p) ≡ true → BarrierJoins o p
  joins w u v e = record {
    switch = switch_of o;
    first = among_of o u;
    second = moved (switch_of o) (switch_of p) p w (among_of p v);
    one_is_bar = or_cases (is_barrier o) (is_barrier p) e (λ f. inl (barrier_of o f)) (λ f. inr (barrier_of p f ∙ ap Operation.Barrier (sym w)));
  }

  one_barrier : (w : ℕ) → (o ≡ Operation.Barrier w) ⊎ (p ≡ Operation.Barrier w) → (is_barrier o || is_barrier p) ≡ true
  one_barrier w (inl e) = rw e refl
  one_barrier w (inr e) = rw e (or-true (is_barrier o))

  pub barrier_iff : (barrier_step o p ≡ true) ↔ BarrierJoins o p
  unfolding barrier_step
  barrier_iff = (
    λ e.
        let s = eqb (switch_of o) (switch_of p) in
        let f = and_left (s && barrier_orders o && barrier_orders p) (is_barrier o || is_barrier p) e in
        let g = and_left (s && barrier_orders o) (barrier_orders p) f in
        joins
        (eqb-true (switch_of o) (switch_of p) (and_left s (barrier_orders o) g))
        (and_right s (barrier_orders o) g)
        (and_right (s && barrier_orders o) (barrier_orders p) f)
        (and_right (s && barrier_orders o && barrier_orders p) (is_barrier o || is_barrier p) e),
    λ j.
        let f = is_among j.first in
        let g = is_among j.second in
        and_intro (and_intro (and_intro (eq-eqb (switch_of o) (switch_of p) (f.0 ∙ sym g.0)) f.1) g.1) (one_barrier j.switch j.one_is_bar),
  )

-- a directly precedes b, of a later line, by a token or a barrier
pub line_step_iff : (a b : Event) → (line_step a b ≡ true) ↔ LineSteps a b
unfolding line_step
line_step_iff a b = (
  λ e. or_cases (token_step a.head b.head) (barrier_step a.operation b.operation) e
      (λ f. inl ((token_iff a.head b.head).0 f))
      (λ f. inr ((barrier_iff a.operation b.operation).0 f)),
  λ d. ⊎_elim
      (λ t. rw ((token_iff a.head b.head).1 t) refl)
      (λ j. rw ((barrier_iff a.operation b.operation).1 j) (or-true (token_step a.head b.head)))
      d,
)
