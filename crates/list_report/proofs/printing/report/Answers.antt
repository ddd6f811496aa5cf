use Rattle.std.specs.Prelude.{Ok, Err}
use Rattle.trace_events.specs.Events.{events_of}
use Rattle.list_report.proofs.Printed.{report_put}
use Rattle.list_report.proofs.printing.report.Goals as goal

pub returns-in-Ok : goal.returns-in-Ok
returns-in-Ok c =
    let p = report_put _ _ (Ok (events_of c.in-Ok.events)) c.in-Ok.ensures.answer c.put_listing.ensures in
    record { put = p.0; upper_bound = p.1 }

pub returns-in-Err : goal.returns-in-Err
returns-in-Err c =
    let p = report_put _ _ (Err c.in-Err.refusal) c.in-Err.ensures.answer c.refused.ensures in
    record { put = p.0; upper_bound = p.1 }
