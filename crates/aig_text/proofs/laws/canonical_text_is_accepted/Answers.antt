-- The canonical text of a well-formed circuit is its file.
use Rattle.aig_circuit.proofs.Checking.{definitions_fit, well_formed_in_form}
use Rattle.aig_text.proofs.Canonical.{canonical_text}
use Rattle.aig_text.proofs.laws.canonical_text_is_accepted.Goals as goal

pub returns : goal.returns
returns _ c good = canonical_text c good (well_formed_in_form c good) (definitions_fit c good)
