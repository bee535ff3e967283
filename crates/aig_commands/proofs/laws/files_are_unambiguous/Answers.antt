use Rattle.aig_binary.proofs.Files.{one_circuit}
use Rattle.aig_commands.proofs.laws.files_are_unambiguous.Goals as goal

pub returns : goal.returns
returns c = one_circuit
