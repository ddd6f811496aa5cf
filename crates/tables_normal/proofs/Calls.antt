-- Demand 2 of the normaliser's calls: in long enough buffers two of them on accepted texts return equal lengths and write equal bytes
-- exactly if the texts hold the same entries on the same switches (`same_normal_call`). Assumes nothing.
use Rattle.std.specs.Prelude.{Ok, Err}
use Prim.Native.Nat.{ℕ, ◌≤◌, ◌<◌}
use native.Mathlib.Decide.{dec_lt}
use native.Mathlib.Omega.{arith}
use mathlib.Core.List.{List}
use mathlib.Core.Logic.{◌↔◌}
use mathlib.Core.Path.{◌≡◌, sym, ◌∙◌, ap}
use lib.ListN.{length, take, drop}
use lib.Seq.{take_at}
use Rattle.refusals.specs.Checks.{written}
use Rattle.refusals.proofs.Checks.{short_refused, short_passed, not_refused}
use Rattle.tables_text.specs.TableText.{read_tables, HoldSame}
use Rattle.tables_normal.specs.Types.{Refusal, Row}
use Rattle.tables_normal.specs.Normal.{normal_text, normalised, normal_answer}
use Rattle.tables_normal.specs.Calls.{NormalFits, WritesNormal, SameBytes}
use Rattle.tables_normal.proofs.Theorems.{same_normal}

module _ (t : List ℕ) (rs : List Row) (p : read_tables t ≡ Ok rs) where
  whole : (room : ℕ) → length (normal_text rs) ≤ room → normalised t room ≡ Ok (normal_text rs)
  unfolding normalised
  whole room l = rw (p, short_passed room (normal_text rs) Refusal.TablesShort l)

  short : (room : ℕ) → room < length (normal_text rs) → normalised t room ≡ Err (Refusal.TablesShort (length (normal_text rs)))
  unfolding normalised
  short room l = rw (p, short_refused room (normal_text rs) Refusal.TablesShort l)

  -- a buffer that holds the normal text is long enough
  pub holds_enough : (room : ℕ) → length (normal_text rs) ≤ room → NormalFits t room
  holds_enough room l n e = not_refused (sym (whole room l) ∙ e)

  -- into a long enough buffer the normal text is written
  pub normal_writes : (old : List ℕ) → NormalFits t (length old) → WritesNormal (normal_text rs) t old
  normal_writes old long =
      elim (dec_lt (length old) (length (normal_text rs))) [
        | yes l ↦ absurd (long _ (short (length old) l))
        | no l ↦ let fits : length (normal_text rs) ≤ length old = omega arith in
            let e = whole (length old) fits in
            record { fits = fits; returned = ap normal_answer e; buffer = ap (λ y. written y old) e }
      ]

-- the text of which a call tells the length, taken from its buffer
taken : (text tables old : List ℕ) (n : ℕ) → WritesNormal text tables old → normal_answer (normalised tables (length old)) ≡ Ok n
    → take n (written (normalised tables (length old)) old) ≡ text
taken text tables old n w e =
    let z : Ok (length text) ≡ Ok n = sym w.returned ∙ e in
    let size : length text ≡ n = cc in
    ap (take n) w.buffer ∙ take_at text (drop (length text) old) n size

-- demand 2 for the normaliser, of its calls
pub same_normal_call : (t u : List ℕ) (rs qs : List Row) → read_tables t ≡ Ok rs → read_tables u ≡ Ok qs
    → (old new : List ℕ) → NormalFits t (length old) → NormalFits u (length new) → SameBytes t u old new ↔ HoldSame t u
same_normal_call t u rs qs p q old new long long' = (
  λ s. (same_normal t u rs qs p q).0 (sym (taken _ t old s.size first s.first) ∙ s.bytes ∙ taken _ u new s.size second s.second),
  λ h.
      let e : normal_text rs ≡ normal_text qs = (same_normal t u rs qs p q).1 h in
      let n = length (normal_text rs) in
      let returned : normal_answer (normalised u (length new)) ≡ Ok n = second.returned ∙ ap (λ (x : List ℕ). Ok (length x)) (sym e) in
      record { size = n; first = first.returned; second = returned; bytes = taken _ t old n first first.returned ∙ e ∙ sym (taken _ u new n second returned) },
)
  where
    first : WritesNormal (normal_text rs) t old
    first = normal_writes t rs p old long

    second : WritesNormal (normal_text qs) u new
    second = normal_writes u qs q new long'
