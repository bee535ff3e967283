use Rattle.std.proofs.Common.{rules}
use Rattle.aig_io.proofs.Runs.{read_none}
use Rattle.aig_commands.proofs.refuting.read_refutation.Goals as goal

pub returns-in_err-refuted : goal.returns-in_err-refuted
returns-in_err-refuted g c = search (rules, read_none)
