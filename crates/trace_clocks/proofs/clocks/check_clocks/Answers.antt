use Prim.Native.Nat.{◌+◌, ◌-◌, ◌<◌}
use mathlib.Core.Path.{◌≡◌, sym, ap, ◌∙◌}
use native.Mathlib.Omega.{arith}
use lib.ListN.{length}
use borrow.Author.Rules.{rules}
use Rattle.basics.proofs.Arrays.{length_mapped}
use Rattle.trace_events.specs.Events.{events_of}
use Rattle.trace_events.specs.Inner.{side_of}
use Rattle.trace_events.proofs.TraceLaws.{length_events, event_at_lem}
use Rattle.trace_clocks.specs.Types.{Event}
use Rattle.trace_clocks.proofs.PassLaws.{side_at, kept_none, kept_more, kept_test, passed_none, passed_here, passed_on, clocks_checked}
use Rattle.trace_clocks.proofs.clocks.check_clocks.Goals as goal
use Rattle.trace_clocks.proofs.clocks.check_clocks.Goals.{then-is_before, else-is_before}

pub loop-i-init : goal.loop-i-init
loop-i-init c =
    let n : length c.args.t.events ≡ 256 = search (rules, length_mapped, c.well_formed.0) in
    let size = sym (length_events c.args.t (omega (arith, c.requires))) in
    (omega arith, n, kept_none _ _ size c.none-later.ensures, passed_none _ _ size)

pub loop-i-preserved : goal.loop-i-preserved
loop-i-preserved c =
    let i = c.loop-i.i - 1 in
    let size = length_events c.args.t (omega (arith, c.requires)) in
    let here : i < length (events_of c.args.t) = omega arith in
    let next : i + 1 ≡ c.loop-i.i = omega arith in
    let kept = rw (← next) at c.loop-i.invariant.2 in
    let passed = rw (← next) at c.loop-i.invariant.3 in
    let line : c.side-line.result ≡ side_at (events_of c.args.t) i = c.side-line.ensures ∙ ap (λ (e : Event). side_of e.head e.operation) (sym (event_at_lem c.args.t i (omega arith))) in
    let range : c.side-line.result.from < 4294967296 = omega (arith, c.side-line.type_inv) in
    let test = sym (kept_test _ _ i here line kept range c.is_before.ensures) in (
      omega arith,
      c.loop-i.invariant.1,
      kept_more _ _ i here line kept c.with_line-later.ensures,
      elim c.if-is_before.branch [
        | then-is_before w ↦ rw w.outcome-is (passed_here _ _ i passed (test ∙ w.if-is_before.true))
        | else-is_before w ↦ rw w.outcome-is (passed_on _ _ i passed (test ∙ w.if-is_before.false))
      ],
    )

pub returns : goal.returns
returns c =
    let done : c.loop-i.i ≡ 0 = omega arith in
    clocks_checked _ _ (rw done at c.loop-i.invariant.3)
