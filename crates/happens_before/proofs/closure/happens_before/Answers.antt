use Prim.Native.Nat.{◌≤◌}
use native.Mathlib.Omega.{arith}
use mathlib.Core.Path.{◌≡◌, refl, sym, ap, ◌∙◌}
use lib.ListN.{length, length-set}
use borrow.Author.Rules.{rules}
use Rattle.bit_sets.proofs.Members.{member_none}
use Rattle.trace_events.specs.Events.{events_of}
use Rattle.basics.specs.Searches.{any_below}
use Rattle.trace_events.proofs.TraceLaws.{length_events}
use Rattle.basics.proofs.Arrays.{length_mapped, noted_more}
use Rattle.basics.proofs.Booleans.{was, was_false}
use Rattle.trace_events.specs.Inner.{no_side}
use Rattle.happens_before.proofs.RowLaws.{joined, filled_at, filled_none, filled_more, filled_all}
use Rattle.happens_before.proofs.SideNotes.{side_at, a_step, token_step_lem, no_step, passed_by}
use Rattle.happens_before.proofs.SearchStart.{barred_more, earliest_more, from_within, none_below}
use Rattle.happens_before.proofs.Chains.{row_union}
use Rattle.happens_before.specs.Causality.{through}
use Rattle.happens_before.proofs.closure.happens_before.Goals as goal

pub loop-j-init : goal.loop-j-init
loop-j-init c = record {
  events = search (rules, length_mapped);
  rows = refl;
  filled = filled_none _ _ 256;
  sides = refl;
  noted = λ k l. absurd (omega arith);
  barred = refl;
  earliest = λ k l h. absurd (omega arith);
}

pub loop-k-init : goal.loop-k-init
loop-k-init c =
    let fits : c.args.t.len ≤ length c.args.t.events = omega (arith, c.requires) in (
      rw c.search_from-k.ensures (from_within _ _ _ _ _),
      λ i. member_none 4 i ∙ none_below c.args.delay c.args.t fits c.loop-j.j (omega arith) c.side-later.ensures c.loop-j.invariant.barred c.loop-j.invariant.earliest i ∙ ap (any_below (through c.args.delay (events_of c.args.t) i _)) (sym c.search_from-k.ensures),
    )

pub loop-k-preserved-then-steps_to : goal.loop-k-preserved-then-steps_to
loop-k-preserved-then-steps_to c =
    let fits : c.args.t.len ≤ length c.args.t.events = omega (arith, c.requires) in
    let is = a_step c.args.delay c.args.t fits c.loop-j.sides c.loop-j.j c.loop-k.k c.loop-j.invariant.noted (omega arith) (omega arith) c.side-later.ensures (was c.steps_to.ensures c.if-steps_to.true) in (
      omega arith,
      λ i. joined c.args.delay (events_of c.args.t) i _ c.loop-k.k (c.join_if-next.ensures i) (c.loop-k.invariant.1 i) (sym is) (filled_at c.args.delay (events_of c.args.t) _ _ c.loop-j.invariant.filled i c.loop-k.k (omega arith)),
    )

pub loop-k-preserved-then-not-may_pass_to : goal.loop-k-preserved-then-not-may_pass_to
loop-k-preserved-then-not-may_pass_to c =
    let fits : c.args.t.len ≤ length c.args.t.events = omega (arith, c.requires) in
    let none = no_step c.args.delay c.args.t fits c.loop-j.sides c.loop-j.j c.loop-k.k c.loop-j.invariant.noted (omega arith) (omega arith) c.side-later.ensures
    (was c.steps_to.ensures c.if-steps_to.false) (was_false c.may_pass_to.ensures c.if-not-may_pass_to.true-raw) in (
      omega arith,
      λ i. passed_by c.args.delay (events_of c.args.t) i _ c.loop-k.k (c.loop-k.invariant.1 i) none,
    )

pub loop-k-preserved : goal.loop-k-preserved
loop-k-preserved c =
    let fits : c.args.t.len ≤ length c.args.t.events = omega (arith, c.requires) in
    let by_token = token_step_lem c.args.delay c.args.t fits c.loop-j.sides c.loop-j.j c.loop-k.k c.loop-j.invariant.noted (omega arith) (omega arith) c.side-later.ensures
    (was c.steps_to.ensures c.if-steps_to.false) in (
      omega arith,
      λ i. joined c.args.delay (events_of c.args.t) i _ c.loop-k.k (c.join_if-next-in-loop-k.ensures i) (c.loop-k.invariant.1 i)
          (c.passes_to-passes.ensures ∙ sym by_token)
          (filled_at c.args.delay (events_of c.args.t) _ _ c.loop-j.invariant.filled i c.loop-k.k (omega arith)),
    )

pub loop-j-preserved : goal.loop-j-preserved
loop-j-preserved c =
    let e : c.loop-k.k ≡ c.loop-j.j = omega arith in record {
      events = c.loop-j.invariant.events;
      rows = simp length-set c.loop-j.invariant.rows;
      filled = filled_more _ _ c.loop-j.rows c.loop-j.j c.loop-k.set (omega arith) c.loop-j.invariant.filled
          (λ i. c.loop-k.invariant.1 i ∙ ap (any_below (through _ _ i _)) e ∙ sym (row_union _ _ i _));
      sides = simp length-set c.loop-j.invariant.sides;
      noted = noted_more (side_at c.args.t) no_side c.loop-j.sides c.loop-j.j (omega arith) c.side-later.ensures c.loop-j.invariant.noted;
      barred = barred_more c.args.t c.loop-j.j c.loop-j.invariant.barred c.side-later.ensures;
      earliest = earliest_more c.args.t c.loop-j.j c.loop-j.invariant.earliest c.side-later.ensures c.earlier_of-earliest.ensures.0 c.earlier_of-earliest.ensures.1;
    }

pub returns : goal.returns
returns c =
    let fits : c.args.t.len ≤ length c.args.t.events = omega (arith, c.requires) in
    filled_all c.args.delay (events_of c.args.t) c.loop-j.rows c.loop-j.j (omega (arith, length_events c.args.t fits)) c.loop-j.invariant.filled
