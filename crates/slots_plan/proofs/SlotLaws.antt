-- The slots, event by event: each row put in is found from then on. Assumes nothing.
use mathlib.Core.Path.{◌≡◌, sym, ◌∙◌, ap}
use mathlib.Core.Bool.{true}
use mathlib.Core.List.{List}
use Prim.Native.Nat.{ℕ, ◌+◌, ◌≤◌, ◌<◌}
use native.Mathlib.Decide.{ℕ_discrete}
use native.Mathlib.Omega.{arith}
use lib.ListN.{take, get_or}
use Rattle.std.specs.Prelude.{Some, None}
use Rattle.rows.specs.Rows.{same_slot, SortedRows, insert_row, any_row}
use Rattle.rows.proofs.RowLaws.{sorted_insert_row}
use Rattle.slots_plan.specs.Types.{Event, Row, Work}
use Rattle.slots_plan.specs.Inner.{work_at, StartFound, HasSlots}
use Rattle.rows_search.proofs.Found.{any_inserted, any_still, any_own}

-- the first len rows of l are the slots of the starting rows and of the events below e
pub record Slotted (es : List Event) (start : List Row) (e len : ℕ) (l : List Row) : Type 0 where
  pub here : e ≤ 256
  pub count : len ≤ 256 + e
  pub sorted : SortedRows (take len l)
  starting : StartFound start (take len l)
  puts : (i : ℕ) (x : Row) → i < e → (work_at es i).put ≡ Some x → any_row (same_slot x) (take len l) ≡ true

pub slots_start : (es : List Event) (len : ℕ) (l : List Row) → len ≤ 256 → SortedRows (take len l) → Slotted es (take len l) 0 len l
slots_start es len l h q = record {
  here = omega arith;
  count = omega arith;
  sorted = q;
  starting = λ j d m. any_own (take len l) j d m;
  puts = λ i x m. absurd (omega arith);
}

module _ (es : List Event) (start : List Row) (e len : ℕ) (l : List Row) (s : Slotted es start e len l) where
  -- an event that puts in nothing
  pub slots_none : e < 256 → {w : Work} → w ≡ work_at es e → w.put ≡ None → Slotted es start (e + 1) len l
  slots_none h {w} u v = record {
    here = omega arith;
    count = omega (arith, s.count);
    sorted = s.sorted;
    starting = s.starting;
    puts = λ i x m p. elim (ℕ_discrete i e) [ yes q ↦ absurd (nothing (sym v ∙ ap (λ y. y.put) u ∙ ap (λ j. (work_at es j).put) (sym q) ∙ p)) | no ne ↦ s.puts i x (omega arith) p ];
  }
    where
      nothing : {x : Row} → None ≡ Some x → ⊥
      nothing p = let z : ◌≡◌ {A = ℕ} 0 1 = cc in omega arith

  -- an event that may put in r
  pub slots_one : e < 256 → {w : Work} {r : Row} → w ≡ work_at es e → w.put ≡ Some r → (len₁ : ℕ) (l₁ : List Row) → len₁ ≤ len + 1
      → take len₁ l₁ ≡ insert_row r (take len l) → Slotted es start (e + 1) len₁ l₁
  slots_one h {w} {r} u v len₁ l₁ g f = record {
    here = omega arith;
    count = omega (arith, s.count);
    sorted = rw f (sorted_insert_row r (take len l) s.sorted);
    starting = λ j d m. rw f (any_still (get_or start j d) r (take len l) (s.starting j d m));
    puts = λ i x m p. rw f (elim (ℕ_discrete i e) [ yes q ↦ own x (sym v ∙ ap (λ y. y.put) u ∙ ap (λ j. (work_at es j).put) (sym q) ∙ p) | no ne ↦ any_still x r (take len l) (s.puts i x (omega arith) p) ]);
  }
    where
      own : (x : Row) → Some r ≡ Some x → any_row (same_slot x) (insert_row r (take len l)) ≡ true
      own x p = let same : r ≡ x = cc in ap (λ y. any_row (same_slot y) (insert_row r (take len l))) (sym same) ∙ any_inserted r (take len l)

  pub slots_end : 256 ≤ e → HasSlots es start (take len l)
  slots_end h = record { sorted = s.sorted; starting = s.starting; puts = λ i m x p. s.puts i x (omega arith) p }
