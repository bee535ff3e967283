use Rattle.std.proofs.Common.{refl, rules}
use Rattle.aig_io.proofs.Puts.{put_twice}
use Rattle.aig_tools.proofs.Lines.{reported_by}
use Rattle.aig_tools.proofs.reporting.report_refusal.Goals as goal

pub returns : goal.returns
returns g c =
    let words = rw c.words.ensures at c.put-2.ensures in
    let reported =
    reported_by _ _ _ _ _ _ refl c.new-output.ensures refl refl
    (put_twice _ _ _ _ _ c.put.ensures.put
    (put_twice _ _ _ _ _ c.put_name.ensures
    (put_twice _ _ _ _ _ words c.put-3.ensures.put)))
    c.finish-sent.ensures.put refl in
    search rules
