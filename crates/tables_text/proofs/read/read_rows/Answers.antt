use Rattle.std.proofs.Common.{refl, sym, ◌∙◌, arith, rules, length-set}
use Rattle.std.proofs.lemmas.List.{length_push}
use Rattle.basics.proofs.Arrays.{length_mapped, pushed}
use Rattle.text_lines.specs.Lines.{lines}
use Rattle.text_reader.proofs.Each.{rest_start, rest_end, rest_refused, rest_read}
use Rattle.text_reader.proofs.Reader.{line_turn, line_end}
use Rattle.refusals.proofs.Checks.{handed_back}
use Rattle.tables_text.proofs.read.read_rows.Goals as goal

pub loop-line-init : goal.loop-line-init
loop-line-init c = (c.no_rows-rows.ensures.1, search (rules, length_mapped), rest_start _ _ _ _ c.no_rows-rows.ensures.0 refl)

pub returns-in_err-rows : goal.returns-in_err-rows
returns-in_err-rows c =
    let (here, line) = line_turn _ (lines c.args.text.now) (cc) _ _ c.loop-line.yielded_by _ _ _ c.in-Some.is c.next.ensures.steps in
    rw (handed_back c.from_residual.ensures.1) (record {
      answer = rest_refused _ _ _ _ c.loop-line.invariant.2 here _ line _ (rw (← c.loop-line.invariant.0) (sym c.row_line.ensures ∙ c.in_err-rows.was));
      few = tt;
    })

pub loop-line-preserved : goal.loop-line-preserved
loop-line-preserved c =
    let (here, line) = line_turn _ (lines c.args.text.now) (cc) _ _ c.loop-line.yielded_by _ _ _ c.in-Some.is c.next.ensures.steps in
    let more = length_push c.loop-line.yielded c.in-Some.line in (
      omega (arith, more),
      simp length-set c.loop-line.invariant.1,
      rw (pushed c.loop-line.rows.rows c.loop-line.rows.len c.in_ok-rows.field-0 (omega (arith, here)), more)
          (rest_read _ _ _ _ c.loop-line.invariant.2 here _ line _ (rw (← c.loop-line.invariant.0) (sym c.row_line.ensures ∙ c.in_ok-rows.was))),
    )

pub returns : goal.returns
returns c =
    let all = line_end _ (lines c.args.text.now) (cc) _ _ c.loop-line.yielded_by _ _ c.in-None.is c.next.ensures.steps in
    record { answer = rest_end _ _ _ _ c.loop-line.invariant.2 (omega (arith, all)); few = omega (arith, all, c.requires) }
