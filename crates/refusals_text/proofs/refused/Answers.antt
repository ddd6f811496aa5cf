use Rattle.refusals_text.proofs.Laws.{refused_arm}
use Rattle.text_numbers.proofs.Writing.{put_then, put_none}
use mathlib.Core.Logic.{inl, inr}
use mathlib.Core.Path.{refl}
use Rattle.refusals_text.proofs.refused.Goals as goal

pub returns-in-Neither : goal.returns-in-Neither
returns-in-Neither c = refused_arm _ _ _ _ _ c.returned-returned.ensures c.in-Neither.is refl (put_then c.put_refusal-n.ensures.put (put_none _ _))

pub returns-in-Trace : goal.returns-in-Trace
returns-in-Trace c =
    let put = put_then c.put_refusal-n.ensures.put c.put_line.ensures in
    elim c.in-Trace.is [
      | inl e ↦ refused_arm _ _ _ _ _ c.returned-returned.ensures e c.refused_line.ensures put
      | inr e ↦ refused_arm _ _ _ _ _ c.returned-returned.ensures e c.refused_line.ensures put
    ]
