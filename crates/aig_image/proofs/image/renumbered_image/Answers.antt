use Rattle.std.proofs.Common.{subst}
use Rattle.aig_image.specs.Image.{IsBinaryImage}
use Rattle.aig_image.proofs.image.renumbered_image.Goals as goal

pub returns-clause-image : goal.returns-clause-image
returns-clause-image c = subst (λ d. IsBinaryImage d c.image.result) c.into_circuit.ensures.value c.image.ensures
