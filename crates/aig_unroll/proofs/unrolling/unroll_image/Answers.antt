use Rattle.std.proofs.Common.{◌*◌, ◌∙◌, ℕ, List, ap, length, rules}
use Rattle.std.specs.List.{flat_map, range_with_len}
use Rattle.std.proofs.lemmas.List.{with_items_is}
use Rattle.aig_circuit.specs.declared.circuit.Circuit.{Circuit}
use Rattle.aig_unroll.specs.Unrolled.{all_inputs, bad_at, frame_size, gates_at, outputs_at}
use Rattle.aig_unroll.specs.Parts.Frames.{Frame, circuit_with}
use Rattle.aig_unroll.proofs.InFrame.{all_fit}
use Rattle.aig_unroll.proofs.Written.{is_unrolled, variables_are}
use Rattle.aig_unroll.proofs.unrolling.unroll_image.Goals as goal

pub unrolled_circuit-requires : goal.unrolled_circuit-requires
unrolled_circuit-requires c = search (rules, with_items_is, variables_are, all_fit)

pub returns-in-Ok : goal.returns-in-Ok
returns-in-Ok c =
    let circuit : Circuit = c.args.image in
    let frames : ℕ = c.args.frames in
    let inputs : List ℕ = c.in-Ok.inputs.items in
    let kept = c.put_frames.auto.gates ∙ c.deref_mut-in-Ok-2.ensures.len in
    let gates = with_items_is c.in-Ok.gates c.put_frames.new.gates kept in
    let inputs_are = c.in-Ok.ensures.inputs
    ∙ ap (λ (k : Frame). range_with_len 1 (all_inputs k.circuit k.frames)) c.in_ok-copies.ensures in
    let size = c.put_frames.auto.gates ∙ ap length c.deref_mut-in-Ok-2.ensures.value ∙ c.in-Ok.ensures.gates
    ∙ ap (λ (k : Frame). k.frames * frame_size k.circuit) c.in_ok-copies.ensures in
    let outputs =
    with_items_is c.in-Ok.outputs c.put_frames.new.outputs
    (c.put_frames.auto.outputs ∙ c.deref_mut.ensures.len) in
    let bad =
    with_items_is c.in-Ok.bad c.put_frames.new.bad (c.put_frames.auto.bad ∙ c.deref_mut-in-Ok.ensures.len) in
    c.unrolled_circuit.ensures
    ∙ (λ i. circuit_with inputs (outputs i) (bad i) (gates i))
    ∙ is_unrolled circuit frames inputs c.put_frames.new.outputs c.put_frames.new.bad c.put_frames.new.gates inputs_are
    size
    (c.put_frames.ensures.outputs
    ∙ ap (λ (k : Frame). flat_map (outputs_at k.circuit k.frames) (range_with_len 0 k.frames)) c.in_ok-copies.ensures)
    (c.put_frames.ensures.bad
    ∙ ap (λ (k : Frame). flat_map (bad_at k.circuit k.frames) (range_with_len 0 k.frames)) c.in_ok-copies.ensures)
    (c.put_frames.ensures.gates
    ∙ ap (λ (k : Frame). flat_map (gates_at k.circuit k.frames) (range_with_len 0 k.frames)) c.in_ok-copies.ensures)
