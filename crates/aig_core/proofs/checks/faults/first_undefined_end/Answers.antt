use Rattle.std.proofs.Common.{◌∙◌, rules}
use Rattle.aig_core.proofs.Checking.Sections.{unknown_ends}
use Rattle.aig_core.proofs.checks.faults.first_undefined_end.Goals as goal

pub returns : goal.returns
returns c = search rules ∙ unknown_ends c.args.variables.now c.args.circuit.now
