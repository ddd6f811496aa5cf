-- The bytes that the call writes are those that single replays would lead to (`bytes_of`), and an allowed order of demand 3 has 0
-- (`byte_of`, its last field). Assumes nothing.
use Rattle.std.specs.Prelude.{Ok, Err}
use mathlib.Core.Path.{◌≡◌, refl, sym, ap, ◌∙◌, subst}
use mathlib.Core.Bool.{Bool, true, false, false≢true}
use mathlib.Core.Logic.{◌↔◌}
use mathlib.Core.List.{List}
use Prim.Native.Nat.{ℕ}
use native.Mathlib.Omega.{arith}
use lib.Dec.{ltb}
use lib.ListN.{length}
use Rattle.basics.specs.Searches.{gather}
use Rattle.refusals.specs.Checks.{Checked, ◌▹◌, refuse_if}
use Rattle.refusals.proofs.Checks.{same_value}
use Rattle.text_reader.proofs.Each.{refuses}
use Rattle.rows.specs.Rows.{tables_of}
use Rattle.trace_text.specs.TraceText.{read_trace}
use Rattle.tables_text.specs.TableText.{read_tables}
use Rattle.tables_text.proofs.Accepted.{accepted_table}
use Rattle.order_check.specs.Schedule.{check_order}
use Rattle.trace_text.proofs.Accepted.{accepted_in_line_order}
use Rattle.order_rows.specs.Runs.{recorded}
use Rattle.order_trials.specs.Same.{agreeing}
use Rattle.order_trials.specs.Trials.{uneven, order_count, order_at, byte_by, order_byte, order_bytes}
use Rattle.order_trials.proofs.Counting.{bytes_length, byte_at, order_size, orders_joined}
use Rattle.replay_texts.specs.Writing.{Replayed}
use Rattle.replay_call.specs.Replay.{texts_of, replayed}
use Rattle.replay_agreement.specs.Allowed.{Allowed}
use Rattle.replay_agreement.proofs.SameTexts.{same_texts}
use Rattle.replay_agreement.proofs.Demand3.{allowed_accepted, recorded_is_accepted}
use Rattle.trials_call.specs.Tried.{tried}
use Rattle.trials_meaning.specs.Types.{Refusal, Event, Row}
use Rattle.trials_meaning.specs.Single.{OrderRefused, ByteOf, BytesOf}
use Rattle.trials_meaning.proofs.Texts.{order_numbers, agreeing_texts_iff, refused_told, never_refused, writes_texts}

-- ---- the byte by its two tests
two_refused : (c : Checked (Unit {0})) (b : Bool) → byte_by c b ≡ 2 → (r : Refusal) × (c ≡ Err r)
two_refused (Err r) b e = (r, refl)
two_refused (Ok u) true e = absurd (omega arith)
two_refused (Ok u) false e = absurd (omega arith)

zero_iff : (b : Bool) → (byte_by (Ok tt) b ≡ 0) ↔ (b ≡ true)
zero_iff true = (λ e. refl, λ e. refl)
zero_iff false = (λ e. absurd (omega arith), λ e. absurd (false≢true e))

one_iff : (b : Bool) → (byte_by (Ok tt) b ≡ 1) ↔ (b ≡ true → ⊥)
one_iff true = (λ e. absurd (omega arith), λ f. absurd (f refl))
one_iff false = (λ e f. false≢true f, λ f. refl)

module _ (delay : ℕ) (s t : List ℕ) (es : List Event) (rs : List Row) (trace : read_trace delay s ≡ Ok es) (tables : read_tables t ≡ Ok rs) where
  module _ (o : List ℕ) where
    -- the byte of an accepted order
    accepted_byte : check_order delay es o ≡ Ok tt → order_byte delay es (tables_of rs) o ≡ byte_by (Ok tt) (agreeing es (tables_of rs) o (recorded es))
    unfolding order_byte
    accepted_byte e = rw e refl

    two_iff : (room room' : ℕ) → (order_byte delay es (tables_of rs) o ≡ 2) ↔ OrderRefused delay s t o room room'
    unfolding order_byte
    two_iff room room' = (
      λ e. let (r, p) = two_refused (check_order delay es o) _ e in (r, refused_told delay s t es rs trace tables o room room' r p, order_numbers delay es o r p),
      λ h. by (check_order delay es o) refl h,
    )
      where
        by : (c : Checked (Unit {0})) → check_order delay es o ≡ c → OrderRefused delay s t o room room' → byte_by c (agreeing es (tables_of rs) o (recorded es)) ≡ 2
        by (Err r) p h = refl
        by (Ok u) p h = absurd (never_refused delay s t es rs trace tables o room room' p h)

    -- where both replays write their texts
    module _ (room room' other other' : ℕ) (x y : Replayed) (e : replayed delay s t o room room' ≡ Ok x) (f : replayed delay s t (recorded es) other other' ≡ Ok y) where
      order : (check_order delay es o ≡ Ok tt) × (texts_of es o (tables_of rs) ≡ x)
      order = writes_texts delay s t es rs trace tables o room room' x e

      first : texts_of es (recorded es) (tables_of rs) ≡ y
      first = (writes_texts delay s t es rs trace tables (recorded es) other other' y f).1

      same_iff : (agreeing es (tables_of rs) o (recorded es) ≡ true) ↔ (x ≡ y)
      same_iff =
          let iff = agreeing_texts_iff delay s t es rs trace tables o (recorded es) order.0 (recorded_is_accepted delay s es trace) in
          (λ h. sym order.1 ∙ iff.0 h ∙ first, λ p. iff.1 (order.1 ∙ p ∙ sym first))

      byte_zero : (order_byte delay es (tables_of rs) o ≡ 0) ↔ (x ≡ y)
      byte_zero =
          let z = zero_iff (agreeing es (tables_of rs) o (recorded es)) in
          (λ h. same_iff.0 (z.0 (sym (accepted_byte order.0) ∙ h)), λ p. accepted_byte order.0 ∙ z.1 (same_iff.1 p))

      byte_one : (order_byte delay es (tables_of rs) o ≡ 1) ↔ (x ≡ y → ⊥)
      byte_one =
          let z = one_iff (agreeing es (tables_of rs) o (recorded es)) in
          (λ h p. z.0 (sym (accepted_byte order.0) ∙ h) (same_iff.1 p), λ g. accepted_byte order.0 ∙ z.1 (λ h. g (same_iff.0 h)))

    allowed_zero : Allowed delay es o → order_byte delay es (tables_of rs) o ≡ 0
    allowed_zero a =
        let accepted = allowed_accepted delay s es trace o a in
        let agrees = (agreeing_texts_iff delay s t es rs trace tables o (recorded es) accepted (recorded_is_accepted delay s es trace)).1 (same_texts delay es (accepted_in_line_order delay s es trace) o a (tables_of rs) (accepted_table t rs tables)) in
        accepted_byte accepted ∙ (zero_iff (agreeing es (tables_of rs) o (recorded es))).1 agrees

    -- the byte of an order
    pub byte_of : ByteOf delay s t es o (order_byte delay es (tables_of rs) o)
    byte_of = record { two = two_iff; zero = byte_zero; one = byte_one; allowed = allowed_zero }

  -- THE bytes of the call
  pub bytes_of : (os : List ℕ) (room : ℕ) (bytes : List ℕ) → tried delay s t os room ≡ Ok bytes → BytesOf delay s t os es bytes
  unfolding tried
  bytes_of os room bytes e = go (uneven (length es) (length os)) refl (ltb room (length all)) (sym (rw (trace, tables) refl) ∙ e)
    where
      all : List ℕ
      all = order_bytes delay es (tables_of rs) os

      count : length all ≡ order_count (length es) (length os)
      count = bytes_length delay es (tables_of rs) os

      made : uneven (length es) (length os) ≡ false → BytesOf delay s t os es all
      made even = record {
        sizes = λ k h. order_size (length es) os even k (omega (arith, count));
        joined = ap (gather (order_at (length es) os)) count ∙ orders_joined (length es) os even;
        each = λ k h. subst (ByteOf delay s t es (order_at (length es) os k)) (sym (byte_at delay es (tables_of rs) os k (omega (arith, count)))) (byte_of (order_at (length es) os k));
      }

      go : (u : Bool) → uneven (length es) (length os) ≡ u → (l : Bool) → (refuse_if u Refusal.OrdersUneven ▹ λ _. refuse_if l (Refusal.TrialsShort (length all)) ▹ λ _. Ok all) ≡ Ok bytes → BytesOf delay s t os es bytes
      go true p l f = refuses f
      go false p true f = refuses f
      go false p false f = subst (BytesOf delay s t os es) (same_value f) (made p)
