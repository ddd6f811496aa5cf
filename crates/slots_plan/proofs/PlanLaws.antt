-- The plan of an event stands for its work. Assumes nothing.
use mathlib.Core.Path.{◌≡◌, refl, sym, ap, ◌∙◌}
use mathlib.Core.List.{List}
use Prim.Native.Nat.{ℕ}
use Rattle.flow_table.specs.declared.effect.Effect.{Effect}
use Rattle.rows_step.specs.Inner.{work_of}
use Rattle.slots.specs.Inner.{PutPlanned, begins}
use Rattle.slots_plan.specs.Types.{Event, Row, Work, Plan}
use Rattle.slots_plan.specs.Inner.{work_at, reply_of, PlanFor}

-- the answers to begin with are told by what is answered
told : (s : ℕ) (v : Effect) → (work_of s v).answer ≡ begins (reply_of (work_of s v).answer)
unfolding work_of
told s (Effect.Pkt p) = refl
told s (Effect.Add k a) = refl
told s (Effect.Addc k a) = refl
told s (Effect.Modn k a) = refl
told s (Effect.Dels k) = refl
told s (Effect.Deln m) = refl
told s Effect.Idle = refl

-- the plan of event e
pub plan_here : (slots : List Row) (es : List Event) (e : ℕ) {w : Work} {plan : Plan} → w ≡ work_at es e → plan.change ≡ w.change → PutPlanned slots w.put plan.put → plan.reply ≡ reply_of w.answer
    → PlanFor slots (work_at es e) plan
plan_here slots es e {w} {plan} u c p r = record {
  change = c ∙ ap (λ y. y.change) u;
  put = rw (← u) p;
  answer = told _ _ ∙ ap (λ y. begins (reply_of y.answer)) (sym u) ∙ ap begins (sym r);
}
