use Rattle.std.proofs.Common.{subst}
use Rattle.aig_image.specs.Image.{IsBinaryImage}
use Rattle.aig_image.proofs.image.into_image.Goals as goal

pub returns-then-is_numbered_in_order-clause-image : goal.returns-then-is_numbered_in_order-clause-image
returns-then-is_numbered_in_order-clause-image c =
    subst (λ d. IsBinaryImage d c.sorted_image.result) c.into_circuit.ensures.value c.sorted_image.ensures
