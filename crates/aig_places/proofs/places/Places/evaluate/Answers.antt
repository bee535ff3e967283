use Rattle.std.proofs.Common.{◌≡◌, ◌-◌, ◌/◌, ◌∙◌, List, ap, arith, length, refl, subst, sym}
use Rattle.aig_circuit.specs.declared.circuit.Gate.{Gate}
use Rattle.aig_step.specs.Parts.Machines.{first_gate}
use Rattle.aig_step.specs.Parts.Tables.{evaluated}
use Rattle.aig_step.proofs.Running.Machines.{pairs_below}
use Rattle.aig_places.specs.Lanes.{IsLane}
use Rattle.aig_places.specs.Places.{evaluated_in_turn, gates_of}
use Rattle.aig_places.proofs.Side.Places.{own_gates, own_in_turn}
use Rattle.aig_places.proofs.places.Places.evaluate.Goals as goal

pub evaluate_lanes-requires-clause-below : goal.evaluate_lanes-requires-clause-below
evaluate_lanes-requires-clause-below c =
    let can = c.pairs.ensures.runs in
    pairs_below (first_gate c.args.machine.now) (length c.args.table.now / 2) c.pairs.result.now
    (omega (arith, can.size, c.requires.room, c.requires.places.own c.in-None.is)) can.gates

pub returns-in-Some : goal.returns-in-Some
returns-in-Some c l values is =
    let own : gates_of c.args.machine.now c.args.self.now ≡ c.in-Some.gates.items = rw c.in-Some.is refl in
    subst (λ (gs : List Gate). IsLane l c.evaluate_gates.new.planes (evaluated_in_turn gs values))
    (c.deref.ensures.value ∙ sym own) (c.evaluate_gates.ensures l values is)

pub returns-in-None : goal.returns-in-None
returns-in-None c l values is =
    let machine = c.args.machine.now in
    let pairs = c.pairs.result.now in
    let can = c.pairs.ensures.runs in
    let own : gates_of machine c.args.self.now ≡ machine.gates = rw c.in-None.is refl in
    let first : length c.args.table.now / 2 - length pairs ≡ first_gate machine =
    omega (arith, can.size, c.requires.room, c.requires.places.own c.in-None.is) in
    subst (IsLane l c.evaluate_lanes.new.planes)
    (ap (λ n. evaluated n pairs values) first
    ∙ own_in_turn (first_gate machine) pairs values
    ∙ ap (λ (gs : List Gate). evaluated_in_turn gs values)
    (sym (own ∙ own_gates machine pairs can c.pairs.ensures.is c.args.self.now)))
    (c.evaluate_lanes.ensures l values is)
