-- Document 01, "Trace text": `in` and `out` are `-` or one to four token numbers (0 to 65535), strictly rising, with commas.
use Rattle.std.specs.Prelude.{cond, List, [], ◌∷◌, ◌++◌, ◌≡◌, ℕ, zero, suc, ◌+◌, ◌≤◌, ◌<◌, eqb, ltb, length, get_or, Option, None, Some}
use Rattle.basics.specs.Text.{bytes}
use Rattle.text_numbers.specs.Reading.{Reader, and_then, mapped}
use Rattle.text_numbers.specs.Number.{read_number}
use Rattle.text_numbers.specs.Print.{print_number}
use Rattle.trace_events.specs.Events.{tokens_of}
use Rattle.trace_tokens.specs.Types.{Tokens, NextToken}

-- the numbers after the first, each behind a comma
unfoldable pub print_more : List ℕ → List ℕ
print_more [] = []
print_more (t ∷ ts) = bytes "," ++ (print_number t ++ print_more ts)

-- `-`, or the numbers with commas
unfoldable pub print_tokens : List ℕ → List ℕ
print_tokens [] = bytes "-"
print_tokens (t ∷ ts) = print_number t ++ print_more ts

-- a number that was read is the next token only if it is above the last
abbrev pub above_last : ℕ → Option (ℕ × ℕ) → NextToken
above_last last None = NextToken.Bad
above_last last (Some r) = cond (ltb last r.0) (NextToken.Token r.0 r.1) NextToken.Bad

-- what follows a token: where a comma stands, a number above the last; else the list ends
unfoldable pub next_token : ℕ → List ℕ → ℕ → NextToken
next_token last s at = cond (eqb (get_or s at 0) 44) (above_last last (read_number 65535 s (at + 1))) NextToken.End

-- the reading goes on behind a next token, and ends where the list does
abbrev pub on_next : {A : Type 0} → NextToken → A × ℕ → (ℕ → ℕ → Option (A × ℕ)) → Option (A × ℕ)
on_next (NextToken.Token t n) end more = more t n
on_next NextToken.End end more = Some end
on_next NextToken.Bad end more = None

-- at most so many numbers more, above the last and rising
unfoldable pub read_more : ℕ → ℕ → Reader (List ℕ)
read_more zero last s at = Some ([], at)
read_more (suc k) last s at = on_next (next_token last s at) ([], at) (λ t n. mapped (λ ts. t ∷ ts) (read_more k t) s n)

-- a first number, and at most three more
unfoldable pub read_some : Reader (List ℕ)
read_some = and_then (read_number 65535) (λ t. mapped (λ ts. t ∷ ts) (read_more 3 t))

-- `-`, or one to four numbers
unfoldable pub read_token_list : Reader (List ℕ)
read_token_list s at = cond (eqb (get_or s at 0) 45) (Some ([], at + 1)) (read_some s at)

-- at most four numbers as a value of the code: the places that are not used are 0
unfoldable pub tokens_from : List ℕ → Tokens
tokens_from ts = record { t0 = get_or ts 0 0; t1 = get_or ts 1 0; t2 = get_or ts 2 0; t3 = get_or ts 3 0; count = length ts }

unfoldable pub read_tokens : Reader Tokens
read_tokens = mapped tokens_from read_token_list

-- numbers 0 to 65535, above the last and strictly rising
abbrev pub Rising : ℕ → List ℕ → Type 0
Rising last [] = Unit {0}
Rising last (t ∷ ts) = (last < t) × (t ≤ 65535) × Rising t ts

-- at most four numbers 0 to 65535, strictly rising
abbrev pub ListWritten : List ℕ → Type 0
ListWritten [] = Unit {0}
ListWritten (t ∷ ts) = (t ≤ 65535) × Rising t ts × (length ts ≤ 3)

-- the value of such a list
pub record TokensWritten (t : Tokens) : Type 0 where
  pub canonical : tokens_from (tokens_of t) ≡ t
  pub numbers : ListWritten (tokens_of t)
