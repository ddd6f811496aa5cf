-- Buffers of these lengths are never too short: 29,440 bytes for a normal text (`normal_room`), 58,880 for end tables (`tables_room`),
-- 7,168 for answers (`answers_room`), 65,280 for a list (`list_room`). A line of a table has at most 115 bytes, an answer line 28,
-- and there are such lines (`row_longest`, `answer_longest`). Assumes nothing.
use Rattle.std.specs.Prelude.{Ok}
use mathlib.Core.Path.{◌≡◌, refl, ap}
use mathlib.Core.Bool.{Bool, true, false, cond}
use mathlib.Core.List.{List, [], ◌++◌}
use Prim.Native.Nat.{ℕ, zero, suc, ◌*◌, ◌≤◌, ◌<◌}
use native.Mathlib.Omega.{arith}
use lib.ListN.{length, length-append}
use lib.Seq.{take_all}
use Rattle.basics.specs.Text.{bytes}
use Rattle.text_numbers.specs.Print.{decimal, print_number, hex_digit, hexadecimal, print_hex}
use Rattle.text_numbers.proofs.Print.{print_short}
use Rattle.text_fields.specs.Types.{Exact, Prefix, Match}
use Rattle.text_fields.specs.Print.{print_exact, print_prefix, print_last, print_fields, print_match, print_action, print_key, print_entry}
use Rattle.text_put_fields.proofs.Lengths.{action_most}
use Rattle.flow_table.specs.FlowTable.{entry}
use Rattle.order_meaning.specs.Tables.{end_tables, answers}
use Rattle.rows.specs.Rows.{row, tables_of}
use Rattle.list_pairs.specs.List.{list_of, pair_bytes}
use Rattle.list_pairs.proofs.PairLaws.{bytes_length}
use Rattle.list_pairs.proofs.Sizes.{count_most}
use Rattle.list_verdicts.specs.Kinds.{listed}
use Rattle.trace_text.specs.TraceText.{read_trace}
use Rattle.trace_text.proofs.Accepted.{trace_accepted_iff}
use Rattle.tables_text.specs.TableText.{print_row, read_tables}
use Rattle.tables_text.proofs.Accepted.{accepted_range, accepted_length}
use Rattle.tables_normal.specs.Normal.{normal_text, tables_text}
use Rattle.tables_normal.proofs.Writing.{normal_most}
use Rattle.order_check.specs.Schedule.{check_order}
use Rattle.order_rows.specs.Runs.{operation_at, given_or}
use Rattle.order_rows.specs.Inner.{run_rows}
use Rattle.replay_answers.specs.Answers.{print_item, is_silent, print_answer, answers_text}
use Rattle.replay_answers.proofs.AnswerLines.{AnswerShort}
use Rattle.replay_call.specs.Replay.{answer_lines}
use Rattle.replay_call.proofs.RowsAreTables.{end_text}
use Rattle.replay_call.proofs.Theorems.{never_over}
use Rattle.replay_agreement.specs.Types.{Action, Answer, Event, Row}
use Rattle.replay_agreement.specs.Buffers.{LongEnough}
use Rattle.replay_agreement.proofs.EndInRange.{end_rows_in_range, given_short}
use Rattle.replay_agreement.proofs.Demand3.{room_enough}

-- ---- the longest lines
abbrev longest_row : Row
longest_row =
    let address : Prefix = record { value = 4294967295; length = 32 } in
    let port = Exact.Is 65535 in
    let pattern : Match = record { port = port; vlan = Exact.Is 4095; src = address; dst = address; proto = Exact.Is 255; sport = port; dport = port } in
    row 15 (entry (record { priority = 65535; pattern = pattern }) (Action.Port 65535))

-- 114 bytes, and its LF
pub row_longest : print_row longest_row ≡ bytes "sw=15 prio=65535 port=65535 vlan=4095 src=ffffffff/32 dst=ffffffff/32 proto=255 sport=65535 dport=65535 act=p65535"
unfolding print_row print_entry print_key print_match print_fields print_last print_exact print_prefix print_action print_number decimal print_hex hexadecimal hex_digit
row_longest = refl

-- 28 bytes
pub answer_longest : print_answer 255 (Answer.Hit 65535 511 (Action.Port 65535)) ≡ bytes "ev=255 hit=65535,511,p65535\n"
unfolding print_answer print_item print_action print_number decimal
answer_longest = refl

-- the normal text of an accepted table text
pub normal_room : (t : List ℕ) (rs : List Row) → read_tables t ≡ Ok rs → length (normal_text rs) ≤ 29440
normal_room t rs e = omega (arith, normal_most rs (accepted_range t rs e), accepted_length t rs e)

-- ---- answer lines
item_most : (a : Answer) → AnswerShort a → length (print_item a) ≤ 21
unfolding print_item
item_most Answer.Silent h = omega arith
item_most Answer.Miss h = omega arith
item_most (Answer.Hit priority count a) h =
    let p = h.0 in
    let n = h.1 in
    simp length-append (omega (arith, print_short 4 priority (omega arith), print_short 2 count (omega arith), action_most a h.2))
item_most (Answer.Done true) h = omega arith
item_most (Answer.Done false) h = omega arith

answer_most : (i : ℕ) (a : Answer) → i < 256 → AnswerShort a → length (print_answer i a) ≤ 28
unfolding print_answer
answer_most i a l h = go (is_silent a)
  where
    go : (b : Bool) → length (cond b [] (bytes "ev=" ++ (print_number i ++ (print_item a ++ bytes "\n")))) ≤ 28
    go true = omega arith
    go false = simp length-append (omega (arith, print_short 2 i (omega arith), item_most a h))

text_most : (f : ℕ → Answer) → ((i : ℕ) → AnswerShort (f i)) → (n : ℕ) → n ≤ 256 → length (answers_text f n) ≤ 28 * n
unfolding answers_text
text_most f h zero l = omega arith
text_most f h (suc n) l = simp length-append (omega (arith, text_most f h n (omega arith), answer_most n (f n) (omega arith) (h n)))

-- ---- of an accepted trace
module _ (delay : ℕ) (s : List ℕ) (es : List Event) (trace : read_trace delay s ≡ Ok es) where
  few : length es ≤ 256
  few = ((trace_accepted_iff delay s es).0 trace).few

  -- its list
  pub list_room : length (pair_bytes (list_of delay es)) ≤ 65280
  list_room = omega (arith, bytes_length (list_of delay es), count_most delay listed es few)

  -- and the replay of an accepted order from an accepted table text
  module _ (t : List ℕ) (rs : List Row) (tables : read_tables t ≡ Ok rs) (o : List ℕ) (order : check_order delay es o ≡ Ok tt) where
    -- its end tables
    pub tables_room : length (tables_text (end_tables (operation_at es) o (tables_of rs))) ≤ 58880
    tables_room =
        let held : length (run_rows es o rs) ≤ 512 = rw (take_all (length o) o (omega arith)) at ((never_over delay s t o es rs trace tables order).rows (length o)) in
        omega (arith, ap length (end_text delay s t es rs trace tables o), normal_most (run_rows es o rs) (end_rows_in_range delay s t es rs trace tables o))

    -- its answers
    pub answers_room : length (answer_lines es o (tables_of rs)) ≤ 7168
    unfolding answer_lines
    answers_room =
        omega (arith, few, text_most (λ i. given_or Answer.Silent (answers (operation_at es) o (tables_of rs) i)) (given_short delay s t es rs trace tables o order) (length es) few)

    -- so neither 32 nor 33 applies
    pub never_short : (a b : ℕ) → 58880 ≤ a → 7168 ≤ b → LongEnough delay s t o a b
    never_short a b h k = room_enough delay s es trace t rs tables o order a b (omega (arith, tables_room)) (omega (arith, answers_room))
