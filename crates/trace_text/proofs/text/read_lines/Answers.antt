use Rattle.std.proofs.Common.{refl, sym, ◌∙◌, arith, length-set}
use Rattle.std.proofs.lemmas.List.{length_push}
use Rattle.basics.proofs.Arrays.{pushed}
use Rattle.text_lines.specs.Lines.{lines}
use Rattle.text_reader.proofs.Each.{rest_start, rest_end, rest_refused, rest_read}
use Rattle.text_reader.proofs.Reader.{line_turn, line_end}
use Rattle.refusals.proofs.Checks.{handed_back}
use Rattle.trace_events.specs.Events.{events_of}
use Rattle.trace_events.proofs.TraceLaws.{none_yet, room_yet}
use Rattle.trace_text.proofs.text.read_lines.Goals as goal

pub loop-line-init : goal.loop-line-init
loop-line-init c =
    let (none, zero) = none_yet _ c.empty-trace.ensures in
    (zero, room_yet _ c.empty-trace.ensures, rest_start _ _ _ _ none refl)

pub returns-in_err-trace : goal.returns-in_err-trace
returns-in_err-trace c =
    let (here, line) = line_turn _ (lines c.args.text.now) (cc) _ _ c.loop-line.yielded_by _ _ _ c.in-Some.is c.next.ensures.steps in
    rw (handed_back c.from_residual.ensures.1) (record {
      answer = rest_refused _ _ _ _ c.loop-line.invariant.2 here _ line _ (rw (← c.loop-line.invariant.0) (sym c.event_line.ensures ∙ c.in_err-trace.was));
      few = tt;
    })

pub loop-line-preserved : goal.loop-line-preserved
unfolding events_of
loop-line-preserved c =
    let (here, line) = line_turn _ (lines c.args.text.now) (cc) _ _ c.loop-line.yielded_by _ _ _ c.in-Some.is c.next.ensures.steps in
    let more = length_push c.loop-line.yielded c.in-Some.line in (
      omega (arith, more),
      simp length-set c.loop-line.invariant.1,
      rw (pushed c.loop-line.trace.events c.loop-line.trace.len c.in_ok-trace.field-0 (omega (arith, here)), more)
          (rest_read _ _ _ _ c.loop-line.invariant.2 here _ line _ (rw (← c.loop-line.invariant.0) (sym c.event_line.ensures ∙ c.in_ok-trace.was))),
    )

pub returns : goal.returns
returns c =
    let all = line_end _ (lines c.args.text.now) (cc) _ _ c.loop-line.yielded_by _ _ c.in-None.is c.next.ensures.steps in
    record { answer = rest_end _ _ _ _ c.loop-line.invariant.2 (omega (arith, all)); few = omega (arith, all, c.requires) }
