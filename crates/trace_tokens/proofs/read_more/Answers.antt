use Rattle.std.proofs.Common.{◌≡◌, sym, ◌∙◌, arith}
use Rattle.trace_tokens.proofs.TokenListLaws.{gathered_first, gathered_more, gathered_end, gathered_bad, gathered_full}
use Rattle.trace_tokens.proofs.read_more.Goals as goal

pub loop-i-init : goal.loop-i-init
loop-i-init c = gathered_first _ _ _

pub loop-i-preserved : goal.loop-i-preserved
loop-i-preserved c = gathered_more _ _ _ _ _ _ c.loop-i.invariant c.loop-i-test.true (sym c.next_token.ensures ∙ c.in-Token.is)

pub returns-in-End : goal.returns-in-End
returns-in-End c = gathered_end _ _ _ _ _ _ c.loop-i.invariant c.loop-i-test.true _ c.tokens_in.ensures (sym c.next_token.ensures ∙ c.in-End.is)

pub returns-in-Bad : goal.returns-in-Bad
returns-in-Bad c = gathered_bad _ _ _ _ _ _ c.loop-i.invariant c.loop-i-test.true (sym c.next_token.ensures ∙ c.in-Bad.is)

pub returns : goal.returns
returns c =
    let e : c.loop-i.i ≡ 4 = omega arith in
    gathered_full _ _ _ _ _ _ c.loop-i.invariant _ (rw e c.tokens_in-2.ensures) c.loop-i-test.false
