use Rattle.std.proofs.Common.{◌≡◌, ◌+◌, ◌-◌, ◌≤◌, ◌∙◌, rules, length, ap, sym, subst, arith, length-set}
use Rattle.aig_circuit.specs.declared.circuit.Circuit.{Circuit}
use Rattle.aig_meaning.specs.Meaning.{IsStepAssignment}
use Rattle.aig_step.specs.Parts.Machines.{first_gate}
use Rattle.aig_step.specs.Parts.Tables.{read_from}
use Rattle.aig_step.proofs.Running.Machines.{is_filled, pairs_below, evaluated_length, placed_length}
use Rattle.aig_step.proofs.stepper.Stepper.evaluate_rest.Goals as goal

pub evaluate-requires-clause-room : goal.evaluate-requires-clause-room
evaluate-requires-clause-room c = search (rules, placed_length)

pub evaluate-requires-clause-below : goal.evaluate-requires-clause-below
evaluate-requires-clause-below c =
    let can = c.pairs.ensures.runs in
    let room : first_gate c.self.inside.machine + length c.pairs.result.now ≤ length c.put_codes.new.self =
    omega (arith, can.size, ap length c.put_codes.ensures, placed_length) in
    pairs_below (first_gate c.self.inside.machine) _ c.pairs.result.now room can.gates

pub invariant_of-self : goal.invariant_of-self
invariant_of-self c = search (rules, evaluated_length, placed_length)

pub returns-clause-assigned : goal.returns-clause-assigned
returns-clause-assigned c = λ given table long was.
    let m = c.self.inside.machine in
    let pairs = c.pairs.result.now in
    let can = c.pairs.ensures.runs in
    let own = rw (← c.self.view_is) at long in
    let count : c.len.result ≡ length given = c.len.ensures ∙ ap length c.parts-parts.ensures.inputs ∙ sym own in
    let begun = rw (count, c.deref.ensures.value, rw (← c.self.view_is) at was) at c.put_codes.ensures in
    let room : length table ≡ 1 + m.max_var = search (rules, placed_length, length-set) in
    let first : length c.put_codes.new.self - length pairs ≡ first_gate m =
    omega (arith, can.size, ap length c.put_codes.ensures, placed_length) in
    rw (← c.self.view_is)
    (subst (λ (k : Circuit). IsStepAssignment k c.self.inside.state.items given (read_from c.evaluate.new.self))
    c.pairs.ensures.is
    (rw (c.evaluate.ensures, first, begun)
    (is_filled m pairs can given c.self.inside.state.items table own c.self.invariant.1 room)))
