use native.Mathlib.Omega.{arith}
use lib.ListN.{length-take}
use Rattle.rows.specs.Rows.{rows_of}
use Rattle.tables_normal.proofs.Normalising.{put_short, put_fits, put_uncounted}
use Rattle.tables_normal.proofs.normal.put_normal.Goals as goal

pub returns-then-rows-out : goal.returns-then-rows-out
returns-then-rows-out c =
    let l = put_uncounted (rows_of c.args.rows) c.args.out.now c.requires.range (omega (arith, c.if-rows-out.true, length-take c.args.rows.len c.args.rows.rows)) _ _ c.write_normal.ensures in
    record { value = l.0; out_after = l.1 }

pub returns-then-out-needed : goal.returns-then-out-needed
returns-then-out-needed c =
    let l = put_short (rows_of c.args.rows) c.args.out.now c.normal_length-needed.ensures c.if-out-needed.true in
    record { value = l.0; out_after = l.1 }

pub returns : goal.returns
returns c =
    let l = put_fits (rows_of c.args.rows) c.args.out.now c.normal_length-needed.ensures c.if-out-needed.false _ _ c.write_normal-2.ensures in
    record { value = l.0; out_after = l.1 }
