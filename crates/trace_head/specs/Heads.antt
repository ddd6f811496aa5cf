-- Document 01, "Trace text": the items that every line has behind its word, `in`, `out`, `from` and `to`.
use Rattle.std.specs.Prelude.{List, ◌++◌, ℕ, ◌≤◌}
use Rattle.basics.specs.Text.{bytes}
use Rattle.text_numbers.specs.Reading.{Reader, mapped, keyed, both}
use Rattle.text_numbers.specs.Number.{read_number}
use Rattle.text_numbers.specs.Print.{print_number}
use Rattle.trace_events.specs.Events.{tokens_of}
use Rattle.trace_tokens.specs.TokenLists.{print_tokens, read_tokens, TokensWritten}
use Rattle.trace_head.specs.Types.{Tokens, Head}

-- `from` and `to` are the earliest and the latest millisecond of the event
unfoldable pub print_head : Head → List ℕ
print_head h =
    (bytes "in=" ++ print_tokens (tokens_of h.ins))
    ++ ((bytes " out=" ++ print_tokens (tokens_of h.outs))
    ++ ((bytes " from=" ++ print_number h.from)
    ++ (bytes " to=" ++ print_number h.to)))

abbrev pub head_of : Tokens × (Tokens × (ℕ × ℕ)) → Head
head_of (ins, (outs, (from, to))) = record { ins = ins; outs = outs; from = from; to = to }

unfoldable pub read_head : Reader Head
read_head =
    mapped head_of
    (both (keyed (bytes "in=") read_tokens)
    (both (keyed (bytes " out=") read_tokens)
    (both (keyed (bytes " from=") (read_number 4294967295))
    (keyed (bytes " to=") (read_number 4294967295)))))

-- the heads that a line can say
pub record HeadWritten (h : Head) : Type 0 where
  pub ins : TokensWritten h.ins
  pub outs : TokensWritten h.outs
  pub from : h.from ≤ 4294967295
  pub to : h.to ≤ 4294967295
