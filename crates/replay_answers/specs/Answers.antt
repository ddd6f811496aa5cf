-- Document 01, "Tables and replay": the answer lines, by rising event; only `pkt`, `pout` and `addc` events have one.
use Rattle.std.specs.Prelude.{Bool, true, false, cond, List, [], ◌++◌, ℕ, zero, suc}
use Rattle.basics.specs.Text.{bytes}
use Rattle.text_numbers.specs.Print.{print_number}
use Rattle.text_fields.specs.Print.{print_action}
use Rattle.flow_table.specs.FlowTable.{effect_of}
use Rattle.replay_answers.specs.Types.{Operation, Answer, Effect}

-- only `pkt`, `pout` and `addc` events have an answer
abbrev pub answers_as : Effect → Bool
answers_as (Effect.Pkt p) = true
answers_as (Effect.Add k a) = false
answers_as (Effect.Addc k a) = true
answers_as (Effect.Modn k a) = false
answers_as (Effect.Dels k) = false
answers_as (Effect.Deln m) = false
answers_as Effect.Idle = false

abbrev pub has_answer : Operation → Bool
has_answer o = answers_as (effect_of o)

-- the item of an answer, with its space in front: a hit is its priority, how many entries fit at it, and the action
unfoldable pub print_item : Answer → List ℕ
print_item Answer.Silent = []
print_item Answer.Miss = bytes " hit=-"
print_item (Answer.Hit priority count a) = bytes " hit=" ++ (print_number priority ++ (bytes "," ++ (print_number count ++ (bytes "," ++ print_action a))))
print_item (Answer.Done b) = cond b (bytes " done=yes") (bytes " done=no")

abbrev pub is_silent : Answer → Bool
is_silent Answer.Silent = true
is_silent Answer.Miss = false
is_silent (Answer.Hit priority count a) = false
is_silent (Answer.Done b) = false

-- the answer line of event i, with its LF; nothing for an event without an answer
unfoldable pub print_answer : ℕ → Answer → List ℕ
print_answer i a = cond (is_silent a) [] (bytes "ev=" ++ (print_number i ++ (print_item a ++ bytes "\n")))

-- the lines of the events below n, by rising event
unfoldable pub answers_text : (ℕ → Answer) → ℕ → List ℕ
answers_text f zero = []
answers_text f (suc n) = answers_text f n ++ print_answer n (f n)
