use Rattle.std.proofs.Common.{subst}
use Rattle.aig_image.specs.Image.{IsBinaryImage}
use Rattle.aig_image.proofs.image.image_in_turn.Goals as goal

pub returns-in-Some-clause-image : goal.returns-in-Some-clause-image
returns-in-Some-clause-image c =
    subst (λ d. IsBinaryImage d c.image.result) c.into_circuit.ensures.value c.image.ensures
