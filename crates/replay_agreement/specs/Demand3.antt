-- Demand 3, whole, of an accepted trace: a single claim about whole orders. `Allowed`, the orders that it speaks of, is in Allowed.antt;
-- `LongEnough` and `Writes`, of the buffers, in Buffers.antt.
use Rattle.std.specs.Prelude.{◌≡◌, List, ℕ, length, Ok}
use Rattle.flow_table.specs.Switches.{Tables, InOrder}
use Rattle.order_meaning.specs.Tables.{end_tables, answers}
use Rattle.rows.specs.Rows.{tables_of}
use Rattle.tables_text.specs.TableText.{read_tables, HoldSame}
use Rattle.tables_normal.specs.Normal.{tables_text}
use Rattle.order_rows.specs.Runs.{operation_at, recorded}
use Rattle.replay_call.specs.Replay.{answer_lines}
use Rattle.replay_agreement.specs.Types.{Event, Row}
use Rattle.replay_agreement.specs.Allowed.{Allowed}
use Rattle.replay_agreement.specs.Buffers.{LongEnough, Writes}

pub record Demand3 (delay : ℕ) (s : List ℕ) (es : List Event) : Type 0 where
  -- from all starting tables, every switch ends with the table with which it ends in the recorded order
  pub tables : (o : List ℕ) → Allowed delay es o → (start : Tables) → InOrder start
      → (w : ℕ) → end_tables (operation_at es) o start w ≡ end_tables (operation_at es) (recorded es) start w
  -- and every event has the answer that it has in the recorded order
  pub answered : (o : List ℕ) → Allowed delay es o → (start : Tables) → InOrder start
      → (i : ℕ) → answers (operation_at es) o start i ≡ answers (operation_at es) (recorded es) start i
  -- any two replays in such orders, from accepted table texts that hold the same entries on the same switches, given long enough
  -- buffers, return equal lengths and write the same two texts: those of the recorded order from the tables of the table text
  pub bytes : (t u : List ℕ) (rs qs : List Row) → read_tables t ≡ Ok rs → read_tables u ≡ Ok qs → HoldSame t u
      → (o p : List ℕ) → Allowed delay es o → Allowed delay es p
      → (old old' new new' : List ℕ) → LongEnough delay s t o (length old) (length old') → LongEnough delay s u p (length new) (length new')
      → let ends = tables_text (end_tables (operation_at es) (recorded es) (tables_of rs)) in
      let lines = answer_lines es (recorded es) (tables_of rs) in
      Writes delay ends lines s t o old old' × Writes delay ends lines s u p new new'
