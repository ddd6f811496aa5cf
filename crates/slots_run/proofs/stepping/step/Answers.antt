-- The parts of an event make what it leaves and answers.
use borrow.Author.Rules.{rules}
use mathlib.Core.Path.{◌≡◌, ap, subst, ◌∙◌}
use mathlib.Core.Bool.{cond}
use Rattle.std.specs.Prelude.{Option, None, is_some}
use Rattle.slots.specs.Inner.{put_action}
use Rattle.slots.proofs.StepLaws.{SetPut}
use Rattle.slots_run.specs.Types.{Put}
use Rattle.slots_run.specs.Inner.{Written, Answers}
use Rattle.slots_run.proofs.StepEnd.{stepped}
use Rattle.slots_run.proofs.stepping.step.Goals as goal

pub returns : goal.returns
returns c slots o m =
    let met : c.is_some-met.result ≡ is_some c.next.result = search rules in
    let put : ◌≡◌ {A = Option Put} c.put_unless-put.result (cond (is_some c.next.result) None c.args.plan.put) = c.put_unless-put.ensures ∙ ap (λ b. cond b None c.args.plan.put) met in
    stepped c.args.set c.args.actions.now c.args.mask c.args.plan _ _ c.common-fitting.ensures _ c.next.ensures slots o m _ _ _ _ _ c.left_of-left.ensures c.assign.ensures
    (subst (λ q. SetPut q c.left_of-left.result c.with_slot-held.result) put c.with_slot-held.ensures)
    (subst (λ q. Written (put_action q) c.assign.new.actions c.with_action.new.actions) put c.with_action.ensures)
    (subst (λ b. Answers c.args.plan.reply b c.common-fitting.result c.args.priorities.now c.args.actions.now c.answer_of-answer.result) met c.answer_of-answer.ensures)
