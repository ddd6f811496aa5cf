use Rattle.std.proofs.Common.{rules, sym, ◌∙◌}
use Rattle.trace_words.specs.Words.{read_word}
use Rattle.trace_words.proofs.WordFormat.{or_here, or_next, or_last}
use Rattle.trace_words.proofs.read.read_word.Goals as goal

pub returns : goal.returns
unfolding read_word
returns c =
    sym (
    (or_next _ _ _ _ _ c.or_else-10.ensures (λ p. search rules)
    (or_next _ _ _ _ _ c.or_else-9.ensures (λ p. search rules)
    (or_next _ _ _ _ _ c.or_else-8.ensures (λ p. search rules)
    (or_next _ _ _ _ _ c.or_else-7.ensures (λ p. search rules)
    (or_next _ _ _ _ _ c.or_else-6.ensures (λ p. search rules)
    (or_next _ _ _ _ _ c.or_else-5.ensures (λ p. search rules)
    (or_next _ _ _ _ _ c.or_else-4.ensures (λ p. search rules)
    (or_next _ _ _ _ _ c.or_else-3.ensures (λ p. search rules)
    (or_next _ _ _ _ _ c.or_else-2.ensures (λ p. search rules)
    (or_next _ _ _ _ _ c.or_else.ensures (λ p. search rules)
    (or_here _ _ _ _ c.word.ensures)))))))))))
    ∙ or_last _ _ _)
