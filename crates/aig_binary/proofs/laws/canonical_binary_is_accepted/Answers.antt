-- The canonical binary text of a well-formed circuit in binary order is its file.
use Rattle.aig_circuit.proofs.Checking.{well_formed_in_form}
use Rattle.aig_binary.proofs.Files.{canonical_binary}
use Rattle.aig_binary.proofs.laws.canonical_binary_is_accepted.Goals as goal

pub returns : goal.returns
returns _ c good = canonical_binary c good (well_formed_in_form c good)
