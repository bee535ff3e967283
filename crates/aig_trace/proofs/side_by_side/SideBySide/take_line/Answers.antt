use Rattle.std.proofs.Common.{◌≡◌, ◌∙◌, ℕ, Some, ap, codes, is_some, length, refl, sym, true, bytes_eq}
use Rattle.aig_circuit.specs.declared.circuit.Circuit.{Circuit}
use Rattle.aig_lanes.specs.Parts.Vectors.{said}
use Rattle.aig_lanes.proofs.Side.Sheets.{said_is}
use Rattle.aig_step.specs.Parts.Lines.{vector_in}
use Rattle.aig_step.specs.Stimulus.{Step, Stop, entry_in}
use Rattle.aig_step.proofs.LineValues.{vector_says}
use Rattle.aig_trace.proofs.Shows.{accepted_by}
use Rattle.aig_trace.proofs.side_by_side.SideBySide.take_line.Goals as goal

pub returns-then-is_vector-clause-good : goal.returns-then-is_vector-clause-good
returns-then-is_vector-clause-good g c = λ _.
    let text = c.args.text.now in
    let inputs = length c.args.self.now.tracer.circuit.inputs in
    let moved = c.make_room.ensures.moved in
    let now = c.make_room.new.self in
    let good : is_some (vector_in inputs text) ≡ true =
    ap (λ (n : ℕ). is_some (vector_in n text)) (sym c.count_inputs.ensures) ∙ sym c.is_vector.ensures
    ∙ c.if-is_vector.true in
    let given = said (vector_in inputs text) in
    let says : vector_in inputs text ≡ Some given = said_is (vector_in inputs text) good in
    let same : now.waiting.inputs ≡ inputs =
    now.serves.inputs ∙ ap (λ (k : Circuit). length k.inputs) moved.did.same.circuit in
    accepted_by _ _ _ text (Step given) moved (vector_says inputs text given says)
    (c.push_step.ensures.adds given (ap (λ (n : ℕ). vector_in n text) same ∙ says))

pub returns-clause-good : goal.returns-clause-good
returns-clause-good g c = λ _.
    let text = c.args.text.now in
    let stop : bytes_eq text (codes ".") ≡ true = sym c.is_stop.ensures ∙ c.if-not-is_stop.false in
    let says : entry_in (length c.args.self.now.tracer.circuit.inputs) text ≡ Some Stop = rw stop refl in
    accepted_by _ _ _ text Stop c.make_room-2.ensures.moved says c.push_stop.ensures.adds
