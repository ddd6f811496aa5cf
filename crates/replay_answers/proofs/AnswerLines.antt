-- The answer lines tell the answers (`text_tells`), where the same events have one: an item can be read back. Assumes nothing.
use mathlib.Core.Path.{◌≡◌, refl, sym, ap, ◌∙◌}
use mathlib.Core.Bool.{true, false, true≢false}
use mathlib.Core.List.{List, [], ◌∷◌, ◌++◌, append_assoc}
use Rattle.std.specs.Prelude.{Some}
use Prim.Native.Nat.{ℕ, zero, suc, ◌+◌, ◌<◌}
use native.Mathlib.Decide.{ℕ_discrete}
use native.Mathlib.Omega.{arith}
use lib.ListN.{length, drop, length-append}
use lib.Seq.{drop-append_seam}
use Rattle.basics.specs.Text.{bytes}
use Rattle.basics.proofs.Booleans.{split}
use Rattle.text_numbers.specs.Reading.{Reader, starts_with, mapped, keyed, word_or, both, and_then}
use Rattle.text_numbers.specs.Number.{is_digit, read_number}
use Rattle.text_numbers.specs.Print.{print_number}
use Rattle.text_numbers.proofs.Readers.{behind, one_reading}
use Rattle.text_numbers.proofs.Numbers.{number_reads}
use Rattle.text_numbers.proofs.Format.{lf_ends}
use Rattle.text_numbers.proofs.Words.{number_apart}
use Rattle.text_fields.specs.Read.{read_action}
use Rattle.text_fields.specs.Print.{print_action}
use Rattle.text_fields.proofs.EntryFormats.{action_format}
use Rattle.flow.specs.Entries.{ActionInRange}
use Rattle.replay_answers.specs.Types.{Answer, Action}
use Rattle.replay_answers.specs.Answers.{print_item, is_silent, print_answer, answers_text}
use Rattle.replay_answers.proofs.AnswerLaws.{line_of_lem, no_line}

-- in range, with a count of at most three digits
abbrev pub AnswerShort : Answer → Type 0
AnswerShort Answer.Silent = Unit {0}
AnswerShort Answer.Miss = Unit {0}
AnswerShort (Answer.Hit priority count a) = (priority < 65536) × (count < 1000) × ActionInRange a
AnswerShort (Answer.Done b) = Unit {0}

-- ---- an item, read back from before an LF
abbrev read_item : Reader Answer
read_item =
    word_or (bytes " hit=-") Answer.Miss
    (word_or (bytes " done=yes") (Answer.Done true)
    (word_or (bytes " done=no") (Answer.Done false)
    (mapped (λ (p, (n, a)). Answer.Hit p n a)
    (both (keyed (bytes " hit=") (read_number 65535)) (both (keyed (bytes ",") (read_number 999)) (keyed (bytes ",") read_action))))))

module _ (p n : ℕ) (a : Action) (h : AnswerShort (Answer.Hit p n a)) (u : List ℕ) where
  -- what stands behind the priority and behind the count, and the whole
  abbrev more : List ℕ
  more = bytes "," ++ (print_action a ++ (10 ∷ u))

  abbrev rest : List ℕ
  rest = bytes "," ++ (print_number n ++ more)

  abbrev text : List ℕ
  text = bytes " hit=" ++ (print_number p ++ rest)

  hit_reads : read_item text 0 ≡ Some (Answer.Hit p n a, 5 + length (print_number p) + 1 + length (print_number n) + 1 + length (print_action a))
  unfolding starts_with mapped keyed word_or both and_then is_digit
  hit_reads =
      let low = h.0 in
      let few = h.1 in
      let i = 5 + length (print_number p) in
      let k = i + 1 + length (print_number n) in
      let at_rest : drop i text ≡ rest = behind (print_number p) rest text 5 refl in
      let at_count : drop (i + 1) text ≡ print_number n ++ more = behind (bytes ",") (print_number n ++ more) text i at_rest in
      let at_more : drop k text ≡ more = behind (print_number n) more text (i + 1) at_count in
      let at_action : drop (k + 1) text ≡ print_action a ++ (10 ∷ u) = behind (bytes ",") (print_action a ++ (10 ∷ u)) text k at_more in
      let priority : read_number 65535 text 5 ≡ Some (p, i) = number_reads 65535 p text 5 rest (omega arith) (omega arith) refl refl in
      let count : read_number 999 text (i + 1) ≡ Some (n, k) = number_reads 999 n text (i + 1) more (omega arith) (omega arith) refl at_count in
      let action = action_format.reads a h.2 text (k + 1) (10 ∷ u) (lf_ends u) at_action in
      rw (number_apart p 45 [] rest (omega arith), priority, at_rest, count, at_more, action) refl

  hit_text : print_item (Answer.Hit p n a) ++ (10 ∷ u) ≡ text
  unfolding print_item
  hit_text = simp append_assoc

item_reads : (a : Answer) → is_silent a ≡ false → AnswerShort a → (u : List ℕ) → read_item (print_item a ++ (10 ∷ u)) 0 ≡ Some (a, 0 + length (print_item a))
unfolding print_item starts_with mapped keyed word_or both and_then
item_reads Answer.Silent f h u = absurd (true≢false f)
item_reads Answer.Miss f h u = refl
item_reads (Answer.Hit p n a) f h u =
    ap (λ s. read_item s 0) (hit_text p n a h u) ∙ hit_reads p n a h u ∙ ap (λ (k : ℕ). Some (Answer.Hit p n a, k)) (simp length-append (omega arith))
item_reads (Answer.Done true) f h u = refl
item_reads (Answer.Done false) f h u = refl

-- an item and its LF, with whatever behind: one answer's
item_unique : (a b : Answer) → is_silent a ≡ false → is_silent b ≡ false → AnswerShort a → AnswerShort b → (u v : List ℕ)
    → print_item a ++ (10 ∷ u) ≡ print_item b ++ (10 ∷ v) → (a ≡ b) × (u ≡ v)
item_unique a b f g h k u v e =
    let s = print_item a ++ (10 ∷ u) in
    let (one, rest) = one_reading read_item s (print_item a) (print_item b) (10 ∷ u) (10 ∷ v) (item_reads a f h u) (rw (← e) at (item_reads b g k v)) refl e in
    (one, ap (drop 1) rest)

-- ---- a line: the event, the item and its LF
line_parts : (i : ℕ) (a : Answer) → is_silent a ≡ false → (u : List ℕ) → print_answer i a ++ u ≡ (bytes "ev=" ++ print_number i) ++ (print_item a ++ (10 ∷ u))
line_parts i a f u = rw (line_of_lem i a f) (simp append_assoc)

silent_is : (a : Answer) → is_silent a ≡ true → a ≡ Answer.Silent
silent_is Answer.Silent e = refl
silent_is Answer.Miss e = absurd (true≢false (sym e))
silent_is (Answer.Hit p n a) e = absurd (true≢false (sym e))
silent_is (Answer.Done b) e = absurd (true≢false (sym e))

-- of one event, with whatever behind: one answer's
line_unique : (i : ℕ) (a b : Answer) → is_silent a ≡ is_silent b → AnswerShort a → AnswerShort b → (u v : List ℕ)
    → print_answer i a ++ u ≡ print_answer i b ++ v → (a ≡ b) × (u ≡ v)
line_unique i a b q h k u v e =
    split (is_silent b)
    (λ g. (silent_is a (q ∙ g) ∙ sym (silent_is b g), sym (ap (λ (w : List ℕ). w ++ u) (no_line i a (q ∙ g))) ∙ e ∙ ap (λ (w : List ℕ). w ++ v) (no_line i b g)))
    (λ g. let w = bytes "ev=" ++ print_number i in
    let lines = sym (line_parts i a (q ∙ g) u) ∙ e ∙ line_parts i b g v in
    let items = sym (drop-append_seam w (print_item a ++ (10 ∷ u))) ∙ ap (drop (length w)) lines ∙ drop-append_seam w (print_item b ++ (10 ∷ v)) in
    item_unique a b (q ∙ g) g h k u v items)

-- ---- the text
module _ (f g : ℕ → Answer) (same : (i : ℕ) → is_silent (f i) ≡ is_silent (g i)) (h : (i : ℕ) → AnswerShort (f i)) (k : (i : ℕ) → AnswerShort (g i)) where
  front : (n : ℕ) (u v : List ℕ) → answers_text f n ++ u ≡ answers_text g n ++ v → ((i : ℕ) → i < n → f i ≡ g i) × (u ≡ v)
  unfolding answers_text
  front zero u v e = (λ i l. absurd (omega arith), e)
  front (suc n) u v e =
      let (below, rest) = front n (print_answer n (f n) ++ u) (print_answer n (g n) ++ v) (simp append_assoc at e) in
      let (one, last) = line_unique n (f n) (g n) (same n) (h n) (k n) u v rest in
      (λ i l. elim (ℕ_discrete i n) [ yes q ↦ rw q one | no d ↦ below i (omega arith) ], last)

  -- one text is of one answer for each event
  pub text_tells : (n : ℕ) → answers_text f n ≡ answers_text g n → (i : ℕ) → i < n → f i ≡ g i
  text_tells n e = (front n [] [] (ap (λ (w : List ℕ). w ++ []) e)).0
