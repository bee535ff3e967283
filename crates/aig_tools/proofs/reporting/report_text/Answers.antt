use Rattle.std.proofs.Common.{refl, rules}
use Rattle.aig_tools.proofs.Lines.{reported_by}
use Rattle.aig_tools.proofs.reporting.report_text.Goals as goal

pub returns : goal.returns
returns g c =
    let reported =
    reported_by _ _ _ _ _ _ refl c.new-output.ensures refl refl c.put.ensures.put c.finish-sent.ensures.put refl in
    search rules
