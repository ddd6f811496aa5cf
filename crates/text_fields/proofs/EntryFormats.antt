-- The texts of an action, a key and an entry.
use Prim.Native.Nat.{ℕ, ◌≤◌, ◌<◌}
use mathlib.Core.Bool.{false}
use mathlib.Core.List.{List, ◌++◌}
use mathlib.Core.Logic.{◌⊎◌, inl, inr}
use mathlib.Core.Path.{◌≡◌, refl}
use native.Mathlib.Omega.{arith}
use Rattle.basics.specs.Text.{bytes}
use Rattle.text_numbers.specs.Reading.{starts_with, mapped, keyed, word_or}
use Rattle.text_numbers.specs.Number.{read_number}
use Rattle.text_numbers.specs.Print.{print_number}
use Rattle.text_numbers.proofs.Numbers.{number_format}
use Rattle.text_numbers.proofs.Format.{Follows, Format, space_ends, keyed_format, along, both_format}
use Rattle.text_numbers.proofs.Words.{word_format}
use Rattle.flow.specs.Entries.{ActionInRange}
use Rattle.text_fields.specs.Types.{Action, Key, Entry}
use Rattle.text_fields.specs.Print.{print_action, print_key, print_entry}
use Rattle.text_fields.specs.Read.{read_action, read_key, read_entry}
use Rattle.text_fields.specs.Written.{KeyWritten, EntryWritten}
use Rattle.text_fields.proofs.MatchFormats.{match_follows, match_format}

-- ---- `drop`, `ctl` or `pN`
abbrev port_of : Action → ℕ
port_of Action.Drop = 0
port_of Action.Controller = 0
port_of (Action.Port n) = n

-- an action but `drop`, and one that is a port
abbrev NoDrop : Action → Type 0
NoDrop Action.Drop = ⊥
NoDrop Action.Controller = Unit {0}
NoDrop (Action.Port n) = n < 65536

abbrev IsPort : Action → Type 0
IsPort Action.Drop = ⊥
IsPort Action.Controller = ⊥
IsPort (Action.Port n) = n < 65536

to : (a : Action) → IsPort a → (port_of a ≤ 65535) × (Action.Port (port_of a) ≡ a)
to Action.Drop o = absurd o
to Action.Controller o = absurd o
to (Action.Port n) o = (omega arith, refl)

port_format : Format IsPort (λ a. (bytes "p") ++ print_number (port_of a)) (mapped Action.Port (keyed (bytes "p") (read_number 65535)))
port_format = along port_of Action.Port to (λ v o. (omega arith, refl)) (keyed_format (bytes "p") (number_format 65535 (omega arith)))

controller_or : (a : Action) → NoDrop a → (a ≡ Action.Controller) ⊎ IsPort a
controller_or Action.Drop o = absurd o
controller_or Action.Controller o = inl refl
controller_or (Action.Port n) o = inr o

is_port : (a : Action) → IsPort a → NoDrop a × (print_action a ≡ (bytes "p") ++ print_number (port_of a))
unfolding print_action
is_port Action.Drop o = absurd o
is_port Action.Controller o = absurd o
is_port (Action.Port n) o = (o, refl)

no_drop_format : Format NoDrop print_action (word_or (bytes "ctl") Action.Controller (mapped Action.Port (keyed (bytes "p") (read_number 65535))))
unfolding print_action starts_with
no_drop_format = word_format (bytes "ctl") Action.Controller (tt, refl) controller_or is_port (λ a o rest. refl) port_format

drop_or : (a : Action) → ActionInRange a → (a ≡ Action.Drop) ⊎ NoDrop a
drop_or Action.Drop o = inl refl
drop_or Action.Controller o = inr tt
drop_or (Action.Port n) o = inr o

no_drop : (a : Action) → NoDrop a → ActionInRange a × (print_action a ≡ print_action a)
no_drop Action.Drop o = absurd o
no_drop Action.Controller o = (tt, refl)
no_drop (Action.Port n) o = (o, refl)

drop_apart : (a : Action) → NoDrop a → (rest : List ℕ) → starts_with (bytes "drop") (print_action a ++ rest) ≡ false
unfolding print_action starts_with
drop_apart Action.Drop o rest = absurd o
drop_apart Action.Controller o rest = refl
drop_apart (Action.Port n) o rest = refl

pub action_format : Format ActionInRange print_action read_action
unfolding print_action read_action
action_format = word_format (bytes "drop") Action.Drop (tt, refl) drop_or no_drop drop_apart no_drop_format

-- ---- key and entry
pub key_follows : Follows print_key
unfolding print_key
key_follows k rest e = space_ends _

pub entry_follows : Follows print_entry
unfolding print_entry print_key
entry_follows f rest e = space_ends _

pub key_format : Format KeyWritten print_key read_key
unfolding print_key read_key
key_format =
    along (λ (k : Key). (k.priority, k.pattern)) _
    (λ k o. ((omega arith, o.pattern), refl)) (λ f o. (record { priority = omega arith; pattern = o.1 }, refl))
    (both_format match_follows (keyed_format (bytes " prio=") (number_format 65535 (omega arith))) match_format)

pub entry_format : Format EntryWritten print_entry read_entry
unfolding print_entry read_entry
entry_format =
    along (λ (e : Entry). (e.key, e.action)) _
    (λ e o. ((o.key, o.action), refl)) (λ f o. (record { key = o.0; action = o.1 }, refl))
    (both_format (λ f rest e. space_ends _) key_format (keyed_format (bytes " act=") action_format))
