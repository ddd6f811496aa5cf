use mathlib.Core.Path.{refl, sym, ap, ◌∙◌, subst}
use native.Mathlib.Omega.{arith}
use lib.ListN.{length-set}
use borrow.Author.Rules.{rules}
use Rattle.flow_table.specs.FlowTable.{effect_of}
use Rattle.commuting.specs.InnerFootprints.{NarrowEffect}
use Rattle.trace_events.specs.Events.{events_of, event_at}
use Rattle.trace_events.proofs.TraceLaws.{event_at_lem}
use Rattle.basics.proofs.Arrays.{length_mapped, noted_more, holds_more}
use Rattle.list_verdicts.specs.Inner.{no_use, table_use}
use Rattle.list_pairs.specs.Types.{Event}
use Rattle.list_pairs.proofs.uses.all_uses.Goals as goal

pub loop-k-init : goal.loop-k-init
loop-k-init c = (omega arith, search (rules, length_mapped), refl, λ i l. absurd (omega arith), λ i l. absurd (omega arith))

pub loop-k-preserved : goal.loop-k-preserved
loop-k-preserved c =
    let here = sym (event_at_lem c.args.t c.loop-k.k (omega arith)) in (
      omega arith,
      c.loop-k.invariant.1,
      simp length-set c.loop-k.invariant.2,
      noted_more (λ i. table_use (event_at (events_of c.args.t) i).operation) no_use c.loop-k.all c.loop-k.k (omega arith)
          (c.use_of.ensures.0 ∙ ap (λ (e : Event). table_use e.operation) here) c.loop-k.invariant.3,
      holds_more (λ i. NarrowEffect (effect_of (event_at (events_of c.args.t) i).operation)) c.loop-k.k (subst (λ (e : Event). NarrowEffect (effect_of e.operation)) here c.use_of.ensures.1) c.loop-k.invariant.4,
    )

pub returns : goal.returns
returns c = (c.loop-k.invariant.2, λ k l. c.loop-k.invariant.3 k (omega arith), λ k l. c.loop-k.invariant.4 k (omega arith))
