-- Allowed orders leave the same tables and answers as the recorded order, so that both texts of a replay are the same, and table texts
-- that hold the same entries have the same rows. Assumes nothing.
use Rattle.std.specs.Prelude.{Ok}
use mathlib.Core.Path.{◌≡◌, fun_ext}
use mathlib.Core.Bool.{true}
use mathlib.Core.List.{List}
use Prim.Native.Nat.{ℕ, ◌<◌}
use lib.ListN.{length}
use Rattle.order_meaning.specs.Orders.{stands}
use Rattle.order_meaning.specs.Tables.{end_tables, answers}
use Rattle.flow_table.specs.Switches.{Tables, InOrder}
use Rattle.list_verdicts.specs.Kinds.{listed, is_kind}
use Rattle.order_agreement.proofs.WholeOrder.{same_tables, same_answers}
use Rattle.happens_before.specs.Causality.{before}
use Rattle.trace_events.specs.Clocks.{InLineOrder}
use Rattle.happens_before.proofs.Direct.{before_direct}
use Rattle.list_pairs.proofs.Theorems.{list_members}
use Rattle.tables_text.specs.TableText.{read_tables, HoldSame}
use Rattle.tables_text.proofs.Accepted.{accepted_range}
use Rattle.tables_normal.specs.Normal.{tables_text}
use Rattle.tables_normal.proofs.Theorems.{normal_injective, same_normal}
use Rattle.order_rows.specs.Runs.{operation_at, given_or, recorded}
use Rattle.replay_agreement.specs.Types.{Answer, Event, Row}
use Rattle.replay_agreement.specs.Allowed.{Allowed}
use Rattle.replay_answers.specs.Answers.{answers_text}
use Rattle.replay_call.specs.Replay.{answer_lines, texts_of}

-- orders that leave the same tables and answers write the same texts
pub same_told : (es : List Event) (o q : List ℕ) (start : Tables) → ((w : ℕ) → end_tables (operation_at es) o start w ≡ end_tables (operation_at es) q start w)
    → ((i : ℕ) → answers (operation_at es) o start i ≡ answers (operation_at es) q start i) → texts_of es o start ≡ texts_of es q start
unfolding answer_lines
same_told es o q start f g = λ i. record {
  tables = tables_text (fun_ext f i);
  answers = answers_text (λ k. given_or Answer.Silent (g k i)) (length es);
}

module _ (delay : ℕ) (es : List Event) (clocks : InLineOrder delay es) (o : List ℕ) (allowed : Allowed delay es o) where
  keeps_before : (i j : ℕ) → i < j → j < length es → before delay es i j ≡ true → stands i j o ≡ true
  keeps_before i j l m e = allowed.keeps i j ((before_direct delay es clocks i j).0 e)

  has_listed : (i j : ℕ) → i < j → j < length es → is_kind listed (operation_at es i) (operation_at es j) (before delay es i j) ≡ true → stands i j o ≡ true
  has_listed i j l m e = allowed.listed (record { lower = i; higher = j }) ((list_members delay es i j).1 (l, m, e))

  -- from all starting tables, every switch ends with the table of the recorded order
  pub end_tables_lem : (start : Tables) → InOrder start → (w : ℕ) → end_tables (operation_at es) o start w ≡ end_tables (operation_at es) (recorded es) start w
  end_tables_lem = same_tables (operation_at es) (length es) (before delay es) o allowed.order keeps_before has_listed

  -- and every event has its answer of the recorded order
  pub end_answers : (start : Tables) → InOrder start → (i : ℕ) → answers (operation_at es) o start i ≡ answers (operation_at es) (recorded es) start i
  end_answers = same_answers (operation_at es) (length es) (before delay es) o allowed.order keeps_before has_listed

  -- both texts are those of the recorded order
  pub same_texts : (start : Tables) → InOrder start → texts_of es o start ≡ texts_of es (recorded es) start
  same_texts start g = same_told es o (recorded es) start (end_tables_lem start g) (end_answers start g)

-- accepted texts that hold the same entries on the same switches have the same rows
pub hold_same_rows : (t u : List ℕ) (rs qs : List Row) → read_tables t ≡ Ok rs → read_tables u ≡ Ok qs → HoldSame t u → rs ≡ qs
hold_same_rows t u rs qs p q same =
    normal_injective rs qs (accepted_range t rs p) (accepted_range u qs q) ((same_normal t u rs qs p q).1 same)
