use Rattle.std.proofs.Common.{List, ap, sym, subst, refl, ◌∙◌, set}
use Rattle.std.proofs.lemmas.List.{drop_all}
use Rattle.aig_circuit.specs.declared.circuit.Gate.{Gate}
use Rattle.aig_circuit.specs.declared.value.Val.{Val}
use Rattle.aig_circuit.specs.Values.{value_and}
use Rattle.aig_meaning.specs.Meaning.{literal_value}
use Rattle.aig_places.specs.Lanes.{IsLane}
use Rattle.aig_places.specs.Places.{evaluated_in_turn}
use Rattle.aig_step.specs.Parts.Tables.{read_from}
use Rattle.aig_places.proofs.Side.Places.{in_turn_on}
use Rattle.aig_places.proofs.lanes.evaluate_gates.Goals as goal

pub loop-gate-init : goal.loop-gate-init
loop-gate-init c = record { lanes = λ k values is. (values, is, refl); size = refl }

pub loop-gate-preserved : goal.loop-gate-preserved
loop-gate-preserved c =
    let i = c.loop-gate.gate-index in
    let gates = c.args.gates.now in
    let g = c.gate-item.result in
    record {
      lanes = λ k values is.
          let before = c.loop-gate.invariant.lanes k values is in
          let now = before.0 in
          let x = value_and (literal_value (read_from now) g.left) (literal_value (read_from now) g.right) in (
            set now g.var x,
            subst (λ n. IsLane k c.put_pair.new.planes (set now n x)) c.place_of.ensures
                (c.put_pair.ensures k now x before.1 (c.planes_of_gate.ensures k now before.1)),
            in_turn_on i gates g now (evaluated_in_turn gates values) c.loop-gate-test.true c.gate-item.is before.2,
          );
      size = c.put_pair.auto.planes ∙ c.loop-gate.invariant.size;
    }

pub returns : goal.returns
returns c l values is =
    let last = c.loop-gate.invariant.lanes l values is in
    let none = drop_all c.loop-gate.gate-index c.args.gates.now c.loop-gate-test.false in
    subst (λ (vs : List Val). IsLane l c.loop-gate.planes vs)
    (ap (λ (gs : List Gate). evaluated_in_turn gs last.0) (sym none) ∙ last.2) last.1
