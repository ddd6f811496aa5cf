-- The lines of the grammar are read, each as its number and event, and no other line is; so no event has a second text.
use Prim.Native.Nat.{ℕ, ◌≤◌}
use mathlib.Core.List.{List, ◌++◌, append_assoc}
use mathlib.Core.Logic.{◌↔◌}
use Rattle.std.specs.Prelude.{Option, None, Some}
use Rattle.std.proofs.lemmas.Option.{same_Some}
use mathlib.Core.Path.{◌≡◌, refl, ◌∙◌, ap}
use native.Mathlib.Omega.{arith}
use borrow.Author.Tests.{eq-eqb, eqb-true}
use lib.Dec.{eqb}
use lib.ListN.{length}
use Rattle.basics.specs.Text.{bytes}
use Rattle.text_numbers.specs.Format.{Follows, Format}
use Rattle.text_numbers.proofs.Readers.{nothing, on_cond}
use Rattle.text_numbers.proofs.Numbers.{number_format}
use Rattle.text_numbers.proofs.Format.{space_ends, keyed_format, along, tagged, both_format, whole}
use Rattle.trace_words.specs.Words.{word_of}
use Rattle.trace_operation.specs.Operations.{print_operation}
use Rattle.trace_words.proofs.WordFormat.{word_format}
use Rattle.trace_head.proofs.HeadFormat.{head_format, head_follows}
use Rattle.trace_line.specs.Types.{Event, Word}
use Rattle.trace_line.specs.EventLine.{print_behind, print_event, print_line, read_parts, read_behind, read_items, read_numbered, at_end, read_numbered_event}
use Rattle.trace_line.specs.Written.{EventWritten}
use Rattle.trace_operation.proofs.OperationFormat.{operation_format, operation_follows}

-- what stands behind a word
behind_format : (w : Word) → Format (λ e. EventWritten e × (word_of e.operation ≡ w)) print_behind (read_behind w)
unfolding print_behind read_parts read_behind
behind_format w =
    along (λ (e : Event). (e.head, e.operation)) _
    (λ e o. ((o.0.head, (o.0.operation, o.1)), refl))
    (λ f (h, p). ((record { head = h; operation = p.0 }, p.1), refl))
    (both_format operation_follows head_format (operation_format w))

behind_follows : Follows print_behind
unfolding print_behind
behind_follows f rest e = rw append_assoc (head_follows f.head (print_operation f.operation ++ rest) (operation_follows f.operation rest e))

items_format : Format EventWritten print_event read_items
unfolding print_event read_items
items_format = tagged (λ (e : Event). word_of e.operation) (λ e o. tt) behind_follows (keyed_format (bytes " do=") word_format) (λ w o. behind_format w)

event_follows : Follows print_event
unfolding print_event
event_follows f rest e = space_ends _

numbered_format : Format (λ (p : ℕ × Event). (p.0 ≤ 255) × EventWritten p.1) (λ p. print_line p.0 p.1) read_numbered
unfolding print_line read_numbered
numbered_format = both_format event_follows (keyed_format (bytes "ev=") (number_format 255 (omega arith))) items_format

-- the items end where the line does
at_end_lem : (l : List ℕ) (r : Option ((ℕ × Event) × ℕ)) (x : ℕ × Event) → (at_end l r ≡ Some x) ↔ (r ≡ Some (x, length l))
at_end_lem l r x = (to r, from)
  where
    to : (r : Option ((ℕ × Event) × ℕ)) → at_end l r ≡ Some x → r ≡ Some (x, length l)
    to None e = nothing e
    to (Some r) e =
        on_cond (eqb r.1 (length l))
        (λ t p. ap (λ (y : ℕ × Event). Some (y, r.1)) (same_Some r.0 x p) ∙ ap (λ (m : ℕ). Some (x, m)) (eqb-true r.1 (length l) t))
        (λ t p. nothing p) e

    from : r ≡ Some (x, length l) → at_end l r ≡ Some x
    from e = rw (e, eq-eqb (length l) (length l) refl) refl

-- a line is read as a number and an event just where it is their text
pub line_format : (l : List ℕ) (n : ℕ) (e : Event) → (read_numbered_event l ≡ Some (n, e)) ↔ ((n ≤ 255) × EventWritten e × (l ≡ print_line n e))
unfolding read_numbered_event
line_format l n e = (
  λ p. let (o, t) = (whole numbered_format l (n, e)).0 ((at_end_lem l (read_numbered l 0) (n, e)).0 p) in (o.0, o.1, t),
  λ (b, o, t). (at_end_lem l (read_numbered l 0) (n, e)).1 ((whole numbered_format l (n, e)).1 ((b, o), t)),
)
