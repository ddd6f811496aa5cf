-- A token list is read from its own text, and from no other.
use Prim.Native.Nat.{ℕ, zero, suc, ◌+◌, ◌≤◌, ◌<◌}
use mathlib.Core.Bool.{false}
use mathlib.Core.List.{List, [], ◌∷◌, ◌++◌, append_assoc}
use Rattle.std.specs.Prelude.{Option, None, Some}
use mathlib.Core.Path.{◌≡◌, refl, sym, ◌∙◌, ap}
use native.Mathlib.Nat.{add-zero}
use native.Mathlib.Numerals.{add-one}
use native.Mathlib.Omega.{arith}
use borrow.Author.Tests.{eq-eqb, ne_eqb, eqb-true, eqb-false, ltb-true}
use lib.Dec.{eqb, ltb}
use lib.ListN.{length, get_or, drop, length-append}
use lib.Seq.{drop-cons}
use Rattle.basics.specs.Text.{bytes}
use Rattle.text_numbers.specs.Reading.{mapped, and_then}
use Rattle.text_numbers.specs.Number.{is_digit, read_number}
use Rattle.text_numbers.specs.Print.{print_number}
use Rattle.text_numbers.specs.Format.{Ends, Format}
use Rattle.text_numbers.proofs.Format.{along}
use Rattle.text_numbers.proofs.Readers.{nothing, same_value, same_place, on_cond, on_read_lem, behind, here}
use Rattle.text_numbers.proofs.Numbers.{number_reads, number_only, number_none}
use Rattle.trace_events.specs.Events.{tokens_of}
use Rattle.trace_tokens.specs.Types.{NextToken}
use Rattle.trace_tokens.specs.TokenLists.{print_more, print_tokens, above_last, next_token, on_next, read_more, read_some, read_token_list, tokens_from, read_tokens, Rising, ListWritten, TokensWritten}
use Rattle.trace_tokens.proofs.TokenListLaws.{byte_in, next_end, next_above, tokens_from_lem}

-- a list ends a number before it: what follows is a comma, or the list's own end
more_digit : (ts rest : List ℕ) → Ends rest → is_digit (get_or (print_more ts ++ rest) 0 0) ≡ false
unfolding print_more is_digit
more_digit [] rest e = e.digit
more_digit (t ∷ ts) rest e = refl

-- ---- the numbers after the first
more_reads : (k last : ℕ) (ts : List ℕ) → Rising last ts → length ts ≤ k → (s : List ℕ) (at : ℕ) (rest : List ℕ) → Ends rest
    → drop at s ≡ print_more ts ++ rest → read_more k last s at ≡ Some (ts, at + length (print_more ts))
unfolding read_more print_more mapped
more_reads zero last [] o l s at rest e h = rw add-zero
more_reads zero last (t ∷ ts) o l s at rest e h = absurd (omega arith)
more_reads (suc k) last [] o l s at rest e h =
    let n : next_token last s at ≡ NextToken.End = next_end last s at (λ c. eqb-false (get_or rest 0 0) 44 e.comma (ap (λ (u : List ℕ). get_or u 0 0) (sym h) ∙ sym (here s at) ∙ c)) in
    rw (n, add-zero)
more_reads (suc k) last (t ∷ ts) (l, b, o) m s at rest e h =
    let c : get_or s at 0 ≡ 44 = here s at ∙ rw h refl in
    let d : drop (at + 1) s ≡ print_number t ++ (print_more ts ++ rest) = behind (bytes ",") (print_number t ++ (print_more ts ++ rest)) s at (h ∙ ap (λ (l : List ℕ). 44 ∷ l) (append_assoc (print_number t) (print_more ts) rest)) in
    let r : read_number 65535 s (at + 1) ≡ Some (t, at + 1 + length (print_number t)) = number_reads 65535 t s (at + 1) (print_more ts ++ rest) b (omega arith) (more_digit ts rest e) d in
    let n : next_token last s at ≡ NextToken.Token t (at + 1 + length (print_number t)) = next_above last s at c r l in
    let i : read_more k t s (at + 1 + length (print_number t)) ≡ Some (ts, at + 1 + length (print_number t) + length (print_more ts)) =
    more_reads k t ts o (omega arith) s (at + 1 + length (print_number t)) rest e (behind (print_number t) (print_more ts ++ rest) s (at + 1) d) in
    let p : at + 1 + length (print_number t) + length (print_more ts) ≡ at + suc (length (print_number t ++ print_more ts)) = rw length-append (omega arith) in
    rw (n, i, p) refl

-- where a token follows, a comma and a number above the last stand there
on_next_lem : {A P : Type 0} (r : NextToken) {end : A × ℕ} {more : ℕ → ℕ → Option (A × ℕ)} {x : A × ℕ} → (r ≡ NextToken.End → Some end ≡ Some x → P)
    → ((t n : ℕ) → r ≡ NextToken.Token t n → more t n ≡ Some x → P) → on_next r end more ≡ Some x → P
on_next_lem (NextToken.Token t n) f g e = g t n refl e
on_next_lem NextToken.End f g e = f refl e
on_next_lem NextToken.Bad f g e = nothing e

above_only : (last : ℕ) (r : Option (ℕ × ℕ)) (t n : ℕ) → above_last last r ≡ NextToken.Token t n → (r ≡ Some (t, n)) × (last < t)
above_only last None t n e = absurd (let z : ◌≡◌ {A = ℕ} 0 1 = cc in omega arith)
above_only last (Some r) t n e =
    on_cond (ltb last r.0)
    (λ l p. let x : r.0 ≡ t = cc in let y : r.1 ≡ n = cc in rw (← x, ← y) (refl, ltb-true _ _ l))
    (λ l p. absurd (let z : ◌≡◌ {A = ℕ} 0 1 = cc in omega arith)) e

next_only : (last : ℕ) (s : List ℕ) (at t n : ℕ) → next_token last s at ≡ NextToken.Token t n
    → (get_or s at 0 ≡ 44) × (read_number 65535 s (at + 1) ≡ Some (t, n)) × (last < t)
unfolding next_token
next_only last s at t n e =
    on_cond (eqb (get_or s at 0) 44)
    (λ c p. let (r, l) = above_only last (read_number 65535 s (at + 1)) t n p in (eqb-true (get_or s at 0) 44 c, r, l))
    (λ c p. absurd (let z : ◌≡◌ {A = ℕ} 0 1 = cc in omega arith)) e

more_only : (k last : ℕ) (s : List ℕ) (at : ℕ) (ts : List ℕ) (n : ℕ) → read_more k last s at ≡ Some (ts, n)
    → (Rising last ts × (length ts ≤ k)) × (drop at s ≡ print_more ts ++ drop n s) × (n ≡ at + length (print_more ts))
unfolding read_more print_more mapped
more_only zero last s at ts n e =
    let x : [] ≡ ts = same_value e in let y : at ≡ n = same_place e in
    rw (← x, ← y) ((tt, omega arith), refl, rw add-zero)
more_only (suc k) last s at ts n e =
    on_next_lem (next_token last s at)
    (λ q p. let x : [] ≡ ts = same_value p in let y : at ≡ n = same_place p in
    rw (← x, ← y) ((tt, omega arith), refl, rw add-zero))
    (λ t m q p. on_read_lem (read_more k t s m)
    (λ us j p₁ p₂. let x : t ∷ us ≡ ts = same_value p₂ in let y : j ≡ n = same_place p₂ in
    let (c, r, l) = next_only last s at t m q in
    let (b, w, z) = number_only 65535 s (at + 1) t m (omega arith) r in
    let (o, u, i) = more_only k t s m us j p₁ in
    let f : at < length s = byte_in s at 44 c (omega arith) in
    let v : drop (suc at) s ≡ print_number t ++ drop m s = rw add-one at w in
    rw (← x, ← y) (
      ((l, b, o.0), omega (arith, o.1)),
      drop-cons s at 0 f ∙ rw (c, v, u) (ap (λ (l : List ℕ). 44 ∷ l) (sym (append_assoc (print_number t) (print_more us) (drop j s)))),
      i ∙ rw z (omega (arith, length-append (bytes ",") (print_number t ++ print_more us), length-append (print_number t) (print_more us))),
    )) p) e

-- ---- the whole list
no_dash : (s : List ℕ) (at : ℕ) (x : ℕ × ℕ) → read_number 65535 s at ≡ Some x → get_or s at 0 ≡ 45 → ⊥
unfolding is_digit
no_dash s at x e d = nothing (sym (number_none 65535 s at (rw d refl)) ∙ e)

list_reads : (ts : List ℕ) → ListWritten ts → (s : List ℕ) (at : ℕ) (rest : List ℕ) → Ends rest → drop at s ≡ print_tokens ts ++ rest
    → read_token_list s at ≡ Some (ts, at + length (print_tokens ts))
unfolding read_token_list read_some print_tokens and_then mapped
list_reads [] o s at rest e h =
    let c : get_or s at 0 ≡ 45 = here s at ∙ rw h refl in
    rw (eq-eqb _ _ c) refl
list_reads (t ∷ ts) (b, o, m) s at rest e h =
    let d : drop at s ≡ print_number t ++ (print_more ts ++ rest) = h ∙ append_assoc (print_number t) (print_more ts) rest in
    let r : read_number 65535 s at ≡ Some (t, at + length (print_number t)) = number_reads 65535 t s at (print_more ts ++ rest) b (omega arith) (more_digit ts rest e) d in
    let i : read_more 3 t s (at + length (print_number t)) ≡ Some (ts, at + length (print_number t) + length (print_more ts)) =
    more_reads 3 t ts o m s (at + length (print_number t)) rest e (behind (print_number t) (print_more ts ++ rest) s at d) in
    let p : at + length (print_number t) + length (print_more ts) ≡ at + length (print_number t ++ print_more ts) = rw length-append (omega arith) in
    rw (ne_eqb _ _ (no_dash s at _ r), r, i, p) refl

list_only : (s : List ℕ) (at : ℕ) (ts : List ℕ) (n : ℕ) → read_token_list s at ≡ Some (ts, n)
    → ListWritten ts × (drop at s ≡ print_tokens ts ++ drop n s) × (n ≡ at + length (print_tokens ts))
unfolding read_token_list read_some print_tokens and_then mapped
list_only s at ts n e =
    on_cond (eqb (get_or s at 0) 45)
    (λ c p. let x : [] ≡ ts = same_value p in let y : at + 1 ≡ n = same_place p in
    let d : get_or s at 0 ≡ 45 = eqb-true (get_or s at 0) 45 c in
    let f : at < length s = byte_in s at 45 d (omega arith) in
    rw (← x, ← y) (tt, drop-cons s at 0 f ∙ rw (d, add-one) refl, refl))
    (λ c p. on_read_lem (read_number 65535 s at)
    (λ t m r q. on_read_lem (read_more 3 t s m)
    (λ us j q₁ q₂. let x : t ∷ us ≡ ts = same_value q₂ in let y : j ≡ n = same_place q₂ in
    let (b, w, z) = number_only 65535 s at t m (omega arith) r in
    let (o, u, i) = more_only 3 t s m us j q₁ in
    rw (← x, ← y) ((b, o.0, o.1), w ∙ rw u (sym (append_assoc (print_number t) (print_more us) (drop j s))), i ∙ rw (z, length-append) (omega arith))) q) p) e

list_format : Format ListWritten print_tokens read_token_list
list_format = record { reads = list_reads; only = list_only }

short : (ts : List ℕ) → ListWritten ts → length ts ≤ 4
short [] o = omega arith
short (t ∷ ts) (b, o, m) = omega arith

pub tokens_format : Format TokensWritten (λ t. print_tokens (tokens_of t)) read_tokens
unfolding read_tokens
tokens_format =
    along tokens_of tokens_from (λ t o. (o.numbers, o.canonical))
    (λ ts o. let e = tokens_from_lem ts (short ts o) in (record { canonical = ap tokens_from e; numbers = rw e o }, e)) list_format
