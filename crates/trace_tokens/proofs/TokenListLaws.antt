-- Token lists: what the reading of one goes by, turn by turn.
use Prim.Native.Nat.{ℕ, zero, suc, ◌+◌, ◌-◌, ◌≤◌, ◌<◌}
use mathlib.Core.List.{List, [], ◌∷◌, ◌++◌, append_assoc, append-nil}
use Rattle.std.specs.Prelude.{Option, None, Some}
use mathlib.Core.Path.{◌≡◌, refl, sym, ◌∙◌, ap}
use native.Mathlib.Decide.{dec_lt}
use native.Mathlib.Omega.{arith}
use borrow.Author.Tests.{lt-ltb, eq-eqb, ne_eqb}
use lib.ListN.{length, get_or, set, length-append, get_or-eq_default}
use Rattle.std.proofs.lemmas.Grind.{elements, common_steps}
use Rattle.text_numbers.specs.Reading.{on_read, mapped}
use Rattle.text_numbers.specs.Number.{read_number}
use Rattle.text_numbers.proofs.Readers.{twice}
use Rattle.trace_events.specs.Events.{tokens_of}
use Rattle.trace_tokens.specs.Types.{Tokens, NextToken}
use Rattle.trace_tokens.specs.TokenLists.{next_token, read_more, tokens_from}

-- a byte that is not 0 stands within the text
pub byte_in : (s : List ℕ) (i b : ℕ) → get_or s i 0 ≡ b → 0 < b → i < length s
byte_in s i b e h =
    elim (dec_lt i (length s)) [
      | yes l ↦ l
      | no l ↦ absurd (omega (arith, get_or-eq_default s 0 {n = i} (omega arith)))
    ]

-- ---- what follows a token
module _ (last : ℕ) (s : List ℕ) (at : ℕ) where
  pub next_end : (get_or s at 0 ≡ 44 → ⊥) → next_token last s at ≡ NextToken.End
  unfolding next_token
  next_end n = rw (ne_eqb _ _ n)

  module _ (c : get_or s at 0 ≡ 44) where
    pub next_above : {v n : ℕ} → read_number 65535 s (at + 1) ≡ Some (v, n) → last < v → next_token last s at ≡ NextToken.Token v n
    unfolding next_token
    next_above e l = rw (eq-eqb _ _ c, e, lt-ltb _ _ l)

-- the numbers of the value of a list
pub tokens_from_lem : (ts : List ℕ) → length ts ≤ 4 → tokens_of (tokens_from ts) ≡ ts
unfolding tokens_from tokens_of
tokens_from_lem [] h = refl
tokens_from_lem (a ∷ []) h = refl
tokens_from_lem (a ∷ b ∷ []) h = refl
tokens_from_lem (a ∷ b ∷ c ∷ []) h = refl
tokens_from_lem (a ∷ b ∷ c ∷ d ∷ []) h = refl
tokens_from_lem (a ∷ b ∷ c ∷ d ∷ e ∷ ts) h = absurd (omega arith)

-- ---- the loop: the i numbers ts are gathered, and what is read from the place on, behind them, is what all is read as
pub record Gathered (s : List ℕ) (at first : ℕ) (numbers : List ℕ) (i next : ℕ) : Type 0 where
  pub ts : List ℕ
  pub long : length ts ≡ i
  pub room : length numbers ≡ 4
  pub value : (k : ℕ) → get_or numbers k 0 ≡ get_or ts k 0
  pub rest : mapped (λ us. tokens_from (first ∷ us)) (read_more 3 first) s at
      ≡ mapped (λ us. tokens_from (ts ++ us)) (read_more (4 - i) (get_or numbers (i - 1) 0)) s next

zeros : (first k : ℕ) → get_or (first ∷ 0 ∷ 0 ∷ 0 ∷ []) k 0 ≡ get_or (first ∷ []) k 0
zeros first zero = refl
zeros first (suc zero) = refl
zeros first (suc (suc zero)) = refl
zeros first (suc (suc (suc zero))) = refl
zeros first (suc (suc (suc (suc k)))) = refl

pub gathered_first : (s : List ℕ) (at first : ℕ) → Gathered s at first (first ∷ 0 ∷ 0 ∷ 0 ∷ []) 1 at
gathered_first s at first = record { ts = first ∷ []; long = refl; room = refl; value = zeros first; rest = refl }

module _ (s : List ℕ) (at first : ℕ) (numbers : List ℕ) (i next : ℕ) (g : Gathered s at first numbers i next) where
  gathered_stop : (x : Option (List ℕ × ℕ)) → read_more (4 - i) (get_or numbers (i - 1) 0) s next ≡ x
      → on_read x (λ us n. Some (tokens_from (g.ts ++ us), n)) ≡ mapped (λ us. tokens_from (first ∷ us)) (read_more 3 first) s at
  unfolding mapped
  gathered_stop x e = rw (← e) (sym g.rest)

  here : (t : Tokens) → t ≡ record { t0 = get_or numbers 0 0; t1 = get_or numbers 1 0; t2 = get_or numbers 2 0; t3 = get_or numbers 3 0; count = i }
      → Some (t, next) ≡ on_read (Some ([], next)) (λ us n. Some (tokens_from (g.ts ++ us), n))
  unfolding tokens_from
  here t e = rw (append-nil, e, g.value 0, g.value 1, g.value 2, g.value 3, g.long) refl

  pub gathered_full : (t : Tokens) → t ≡ record { t0 = get_or numbers 0 0; t1 = get_or numbers 1 0; t2 = get_or numbers 2 0; t3 = get_or numbers 3 0; count = i } → 4 ≤ i
      → Some (t, next) ≡ mapped (λ us. tokens_from (first ∷ us)) (read_more 3 first) s at
  unfolding read_more
  gathered_full t e h =
      let z : 4 - i ≡ 0 = omega arith in
      here t e ∙ gathered_stop (Some ([], next)) (rw z refl)

  module _ (h : i < 4) where
    left : 4 - i ≡ suc (3 - i)
    left = omega arith

    pub gathered_end : (t : Tokens) → t ≡ record { t0 = get_or numbers 0 0; t1 = get_or numbers 1 0; t2 = get_or numbers 2 0; t3 = get_or numbers 3 0; count = i }
        → next_token (get_or numbers (i - 1) 0) s next ≡ NextToken.End → Some (t, next) ≡ mapped (λ us. tokens_from (first ∷ us)) (read_more 3 first) s at
    unfolding read_more
    gathered_end t m e = here t m ∙ gathered_stop (Some ([], next)) (rw (left, e) refl)

    pub gathered_bad : next_token (get_or numbers (i - 1) 0) s next ≡ NextToken.Bad → None ≡ mapped (λ us. tokens_from (first ∷ us)) (read_more 3 first) s at
    unfolding read_more
    gathered_bad e = gathered_stop None (rw (left, e) refl)

    more_rest : (v n : ℕ) → next_token (get_or numbers (i - 1) 0) s next ≡ NextToken.Token v n
        → mapped (λ us. tokens_from (g.ts ++ us)) (read_more (4 - i) (get_or numbers (i - 1) 0)) s next
        ≡ mapped (λ us. tokens_from ((g.ts ++ (v ∷ [])) ++ us)) (read_more (3 - i) v) s n
    unfolding read_more mapped
    more_rest v n e =
        rw (left, e)
        (sym (twice (λ us. tokens_from (g.ts ++ us)) (λ us. v ∷ us) (λ us. tokens_from ((g.ts ++ (v ∷ [])) ++ us))
        (λ us. ap tokens_from (sym (append_assoc g.ts (v ∷ []) us))) (read_more (3 - i) v s n)))

    more_value : (v k : ℕ) → get_or (set numbers i v) k 0 ≡ get_or (g.ts ++ (v ∷ [])) k 0
    more_value v k = let a = g.value k in let l = g.long in let r = g.room in grind (arith, elements, common_steps)

    pub gathered_more : {v n : ℕ} → next_token (get_or numbers (i - 1) 0) s next ≡ NextToken.Token v n → Gathered s at first (set numbers i v) (i + 1) n
    gathered_more {v} {n} e =
        let k : 4 - (i + 1) ≡ 3 - i = omega arith in
        let p : i + 1 - 1 ≡ i = omega arith in
        let w : get_or (set numbers i v) i 0 ≡ v = grind (arith, elements, g.room) in
        record {
          ts = g.ts ++ (v ∷ []);
          long = rw (length-append, g.long) refl;
          room = grind (arith, elements, g.room);
          value = more_value v;
          rest = g.rest ∙ more_rest v n e ∙ rw (k, p, w) refl;
        }
