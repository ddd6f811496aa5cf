use Prim.Native.Nat.{◌+◌, ◌≤◌}
use mathlib.Core.Path.{◌≡◌, sym, ◌∙◌}
use native.Mathlib.Nat.{sub-zero}
use native.Mathlib.Omega.{arith}
use lib.ListN.{length}
use Rattle.text_lines.proofs.Laws.{start_none, start_here, start_room, start_next}
use Rattle.text_lines.proofs.line_start.Goals as goal

pub loop-init : goal.loop-init
loop-init c = rw sub-zero (omega arith)

pub returns-then-text-at : goal.returns-then-text-at
returns-then-text-at c = sym (c.loop.invariant ∙ start_none _ _ _ c.if-text-at.true)

pub overflow_add-at : goal.overflow_add-at
overflow_add-at c =
    let room : c.loop.at + c.line_length.result ≤ length c.args.text.now = start_room c.args.text.now _ _ _ c.if-text-at.false c.rest-rest.ensures c.line_length.ensures in
    omega (arith, room)

pub overflow_add-at-in-loop : goal.overflow_add-at-in-loop
overflow_add-at-in-loop c =
    let room : c.loop.at + c.line_length.result ≤ length c.args.text.now = start_room c.args.text.now _ _ _ c.if-text-at.false c.rest-rest.ensures c.line_length.ensures in
    omega (arith, room)

pub loop-preserved : goal.loop-preserved
loop-preserved c =
    let past : c.loop.at + (c.line_length.result + 1) ≡ c.loop.at + c.line_length.result + 1 = omega arith in
    rw past (c.loop.invariant ∙ start_next _ _ _ _ c.if-text-at.false c.rest-rest.ensures c.line_length.ensures _ _ c.loop-test.true)

pub returns : goal.returns
returns c = sym (c.loop.invariant ∙ start_here _ _ _ _ c.loop-test.false)
