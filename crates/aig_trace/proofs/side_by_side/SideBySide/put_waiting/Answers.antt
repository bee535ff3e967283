use Rattle.std.proofs.Common.{◌≡◌, ◌∙◌, ◌<◌, List, ap, arith, get_or, length, refl, subst, sym, [], All}
use Rattle.aig_circuit.specs.declared.circuit.Circuit.{Circuit}
use Rattle.aig_circuit.specs.declared.value.Val.{Val}
use Rattle.aig_lanes.specs.Parts.InputBits.{one_step}
use Rattle.aig_lanes.specs.Parts.LaneTexts.{KeepsRun}
use Rattle.aig_lanes.proofs.Side.Sheets.{vectors_count, vectors_fit}
use Rattle.aig_trace.proofs.Shows.{serves_still}
use Rattle.aig_trace.proofs.side_by_side.SideBySide.put_waiting.Goals as goal

pub step_across-requires-clause-lanes : goal.step_across-requires-clause-lanes
step_across-requires-clause-lanes g c =
    let w = c.args.self.now.waiting in
    omega (
      arith,
      ap length c.vectors.ensures,
      vectors_count w.inputs w.inputs w.steps w.texts.items,
      w.is.few_steps,
    )

pub step_across-requires-clause-inputs : goal.step_across-requires-clause-inputs
step_across-requires-clause-inputs g c = λ k d below.
    let a = c.args.self.now in
    let w = a.waiting in
    let fit = subst (λ (vs : List (List Val)). All (λ (v : List Val). length v ≡ w.inputs) vs)
    (sym c.vectors.ensures) (vectors_fit w.inputs w.inputs w.steps w.texts.items w.is.vectors) in
    fit k d below ∙ a.serves.inputs ∙ ap (λ (k : Circuit). length k.inputs) (sym c.machine.ensures)

pub put_lines-requires : goal.put_lines-requires
put_lines-requires g c = λ j low.
    let w = c.args.self.now.waiting in
    let bench = c.step_across.new.self in
    let circuit = c.args.self.now.tracer.circuit in
    let below : j < length c.vectors.result.steps =
    omega (arith, low, ap length c.vectors.ensures, vectors_count w.inputs w.inputs w.steps w.texts.items) in
    subst (λ (vs : List (List Val)). KeepsRun circuit (one_step (get_or vs j [])) j bench.shown bench.sheet)
    c.vectors.ensures
    (subst (λ (k : Circuit). KeepsRun k (one_step (get_or c.vectors.result.steps j [])) j bench.shown bench.sheet)
    c.machine.ensures (c.step_across.ensures.keeps j below))

pub invariant_of-self-2 : goal.invariant_of-self-2
invariant_of-self-2 g c =
    let a = c.args.self.now in
    record {
      serves = serves_still a.tracer.circuit a.tracer.circuit a.tracer.columns a.tracer.columns a.bench
          c.step_across.new.self a.waiting a.waiting refl refl c.step_across.ensures.same refl a.serves;
    }
