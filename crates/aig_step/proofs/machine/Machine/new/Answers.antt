use Rattle.std.proofs.Common.{◌≡◌, ◌∙◌}
use Rattle.std.proofs.lemmas.Result.{IfOk-weaker}
use Rattle.aig_circuit.specs.declared.circuit.Circuit.{Circuit}
use Rattle.aig_meaning.specs.Meaning.{MeansTheSame}
use Rattle.aig_meaning.proofs.Traces.{same_through}
use Rattle.aig_image.proofs.Meaning.{image_means_the_same}
use Rattle.aig_step.proofs.machine.Machine.new.Goals as goal

-- what runs means the same as the image, and that the same as the circuit
pub returns : goal.returns
returns c =
    let same : c.circuit.result.now ≡ c.in_ok-image.image = c.circuit.ensures.value ∙ c.as_checked.ensures.value in
    IfOk-weaker c.of_ordered-made.result (λ (m : Circuit). MeansTheSame c.in_ok-image.image m)
    (λ (m : Circuit). MeansTheSame c.args.checked.now m)
    (λ m means.
    same_through c.args.checked.now c.in_ok-image.image m
    (image_means_the_same c.args.checked.now c.in_ok-image.image c.circuit-circuit.ensures.well_formed
    c.in_ok-image.ensures.image) means)
    (rw same at c.of_ordered-made.ensures)
