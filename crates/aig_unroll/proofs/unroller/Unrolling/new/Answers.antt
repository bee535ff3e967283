use Rattle.std.proofs.Common.{subst}
use Rattle.aig_circuit.specs.declared.circuit.Circuit.{Circuit}
use Rattle.aig_unroll.specs.Unrolled.{IsTooLarge}
use Rattle.aig_unroll.proofs.Ordering.Ordered.{as_large, image_counts}
use Rattle.aig_unroll.proofs.unroller.Unrolling.new.Goals as goal

pub of_image-requires-clause-fits : goal.of_image-requires-clause-fits
of_image-requires-clause-fits c large =
    let source : Circuit = c.args.checked in
    let image : Circuit = c.in_ok-image-in-Ok.image in
    let fits = subst (λ (k : Circuit). ¬ IsTooLarge k c.args.frames) c.circuit.ensures.value
    c.in-Ok.ensures.supported.1 in
    fits
    (as_large source image c.args.frames
    (image_counts source image c.circuit.ensures.well_formed c.in_ok-image-in-Ok.ensures.image)
    large)
