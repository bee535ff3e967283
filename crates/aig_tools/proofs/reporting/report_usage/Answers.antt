use Rattle.aig_tools.proofs.Lines.{line_of_usage}
use Rattle.aig_tools.proofs.reporting.report_usage.Goals as goal

pub returns-in_default : goal.returns-in_default
returns-in_default g c =
    rw (line_of_usage c.args.usage.now c.in_default.not-Words)
    (rw (c.as_bytes-in_default.ensures.value, c.words.ensures) at c.report_line.ensures)
