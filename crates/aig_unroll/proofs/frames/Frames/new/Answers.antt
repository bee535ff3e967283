use Rattle.std.proofs.Common.{◌≡◌, ◌+◌, ◌*◌, ◌∙◌, List, ap, map, subst, sym}
use Rattle.aig_circuit.specs.declared.circuit.Circuit.{Circuit}
use Rattle.aig_circuit.specs.declared.circuit.Latch.{Latch}
use Rattle.aig_checked.specs.BinaryOrder.{IsInBinaryOrder}
use Rattle.aig_circuit.specs.Wellformed.{IsWellFormed}
use Rattle.aig_unroll.specs.Unrolled.{IsTooLarge, uninitialised}
use Rattle.aig_unroll.proofs.InFrame.{first_frame}
use Rattle.aig_unroll.proofs.frames.Frames.new.Goals as goal

pub invariant_of-result : goal.invariant_of-result
invariant_of-result c =
    let circuit : Circuit = c.into_circuit-circuit.result in
    let frames = c.args.frames in
    let same : circuit ≡ c.args.image = c.into_circuit-circuit.ensures.value ∙ c.into_checked.ensures.value in
    let ordered = subst (λ (k : Circuit). IsInBinaryOrder k) (sym same) c.into_checked.ensures.ordered in
    let formed = subst (λ (k : Circuit). IsWellFormed k) (sym c.into_circuit-circuit.ensures.value)
    c.into_circuit-circuit.ensures.well_formed in
    let fits = subst (λ (k : Circuit). ¬ IsTooLarge k frames) (sym same) c.requires.fits in
    let reset = λ (l : Latch). l.reset in
    let first = 1 + c.count_uninitialised-uninitialised.result in
    first_frame circuit frames first (first + frames * c.len-inputs.result) c.in-Ok.substitution.items
    c.in-Ok.next.items
    formed ordered fits c.requires.some
    (ap (λ n. 1 + n)
    (c.count_uninitialised-uninitialised.ensures.count
    ∙ ap (λ (ls : List Latch). uninitialised (map reset ls)) c.as_slice.ensures))
    (ap (λ n. first + frames * n) c.len-inputs.ensures) c.in-Ok.ensures.substitution c.in-Ok.ensures.next
