use Rattle.std.proofs.Common.{subst}
use Rattle.aig_circuit.specs.declared.circuit.Circuit.{Circuit}
use Rattle.aig_unroll.specs.Unrolled.{IsTooLarge}
use Rattle.aig_unroll.proofs.Ordering.Ordered.{as_large, image_counts, unrolled_is_ordered}
use Rattle.aig_unroll.proofs.unrolling.unroll.Goals as goal

pub unroll_image-requires-clause-fits : goal.unroll_image-requires-clause-fits
unroll_image-requires-clause-fits c large =
    let source : Circuit = c.args.checked.now in
    let image : Circuit = c.in_ok-image.image in
    let fits = subst (λ (k : Circuit). ¬ IsTooLarge k c.args.frames) c.circuit.ensures.value
    c.in_ok-check_supported.ensures.supported.1 in
    fits
    (as_large source image c.args.frames
    (image_counts source image c.circuit.ensures.well_formed c.in_ok-image.ensures.image) large)

pub from_well_ordered-requires-clause-well_formed : goal.from_well_ordered-requires-clause-well_formed
from_well_ordered-requires-clause-well_formed c =
    let source : Circuit = c.args.checked.now in
    let fits = subst (λ (k : Circuit). ¬ IsTooLarge k c.args.frames) c.circuit.ensures.value
    c.in_ok-check_supported.ensures.supported.1 in
    (unrolled_is_ordered source c.in_ok-circuit.circuit c.args.frames c.circuit.ensures.well_formed
    (c.in_ok-image.image, c.in_ok-image.ensures.image, c.in_ok-circuit.ensures) fits).0

pub from_well_ordered-requires-clause-in_order : goal.from_well_ordered-requires-clause-in_order
from_well_ordered-requires-clause-in_order c =
    let source : Circuit = c.args.checked.now in
    let fits = subst (λ (k : Circuit). ¬ IsTooLarge k c.args.frames) c.circuit.ensures.value
    c.in_ok-check_supported.ensures.supported.1 in
    (unrolled_is_ordered source c.in_ok-circuit.circuit c.args.frames c.circuit.ensures.well_formed
    (c.in_ok-image.image, c.in_ok-image.ensures.image, c.in_ok-circuit.ensures) fits).1
