use Rattle.aig_commands.proofs.Unrollings.{unrollings_are_unambiguous}
use Rattle.aig_commands.proofs.laws.unrollings_are_unambiguous.Goals as goal

pub returns : goal.returns
returns c = unrollings_are_unambiguous
