use Rattle.std.proofs.Common.{refl, rules}
use Rattle.aig_io.proofs.Puts.{put_twice}
use Rattle.aig_tools.proofs.Lines.{reported_by}
use Rattle.aig_tools.proofs.reporting.report_stop.Goals as goal

pub returns : goal.returns
returns g c =
    let reported =
    reported_by _ _ _ _ _ _ refl c.new-output.ensures refl refl
    (put_twice _ _ _ _ _ c.put.ensures.put
    (put_twice _ _ _ _ _ c.put_subject.ensures
    (put_twice _ _ _ _ _ (put_twice _ _ _ _ _ c.put-2.ensures c.put_cause.ensures) c.put-3.ensures.put)))
    c.finish-sent.ensures.put refl in
    search rules
