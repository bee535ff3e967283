use Rattle.std.proofs.Common.{◌∙◌, ap, arith, length}
use Rattle.aig_circuit.specs.declared.circuit.Circuit.{Circuit}
use Rattle.aig_replay.proofs.Witnessed.{run_holds, run_low, same_held, witness_says, written_back}
use Rattle.aig_replay.proofs.found.find_witness.Goals as goal

pub into_witness-requires-clause-early : goal.into_witness-requires-clause-early
into_witness-requires-clause-early g c =
    let d = c.args.found.now in
    let formed = c.circuit.ensures.well_formed in
    let room = c.in_ok-room.ensures in
    let ran = c.in-Ok.ensures d formed room.means (c.deref_mut.ensures.value ∙ room.bits_are) in
    omega (arith, run_low d c.args.frames ran.bytes c.in-Ok.run' _ _ ran.says.1, c.ranges.frames.fits)

pub into_witness-requires-clause-holds : goal.into_witness-requires-clause-holds
into_witness-requires-clause-holds g c =
    let d = c.args.found.now in
    let formed = c.circuit.ensures.well_formed in
    let room = c.in_ok-room.ensures in
    let ran = c.in-Ok.ensures d formed room.means (c.deref_mut.ensures.value ∙ room.bits_are) in
    let bits = written_back c.in_ok-room.room.bits.len c.in_ok-room.room.bits.items c.find_by_answer.new.bits
    (omega (arith, c.deref_mut.ensures.len, c.find_by_answer.auto.bits)) in
    let first = written_back c.in_ok-room.room.first.len c.in_ok-room.room.first.items c.find_by_answer.new.first
    (omega (arith, c.deref_mut-2.ensures.len, c.find_by_answer.auto.first)) in
    let inputs = c.len-inputs.ensures ∙ ap (λ (e : Circuit). length e.inputs) c.circuit.ensures.value in
    same_held _ _ _ _ _ _ _ _ first bits inputs (run_holds d c.args.frames ran.bytes c.in-Ok.run' _ _ ran.says.1)

pub returns-in-Ok : goal.returns-in-Ok
returns-in-Ok g c =
    let d = c.args.found.now in
    let formed = c.circuit.ensures.well_formed in
    let room = c.in_ok-room.ensures in
    let ran = c.in-Ok.ensures d formed room.means (c.deref_mut.ensures.value ∙ room.bits_are) in
    let bits = written_back c.in_ok-room.room.bits.len c.in_ok-room.room.bits.items c.find_by_answer.new.bits
    (omega (arith, c.deref_mut.ensures.len, c.find_by_answer.auto.bits)) in
    let first = written_back c.in_ok-room.room.first.len c.in_ok-room.room.first.items c.find_by_answer.new.first
    (omega (arith, c.deref_mut-2.ensures.len, c.find_by_answer.auto.first)) in
    let inputs = c.len-inputs.ensures ∙ ap (λ (e : Circuit). length e.inputs) c.circuit.ensures.value in
    witness_says d c.args.selected c.args.frames c.in-Ok.run' c.find_by_answer.new.bits c.find_by_answer.new.first
    c.into_witness.result _ _ _ _ c.into_witness.ensures c.number_or.ensures inputs bits first _ _ ran

pub returns-in-Err : goal.returns-in-Err
returns-in-Err g c =
    let d = c.args.found.now in
    let formed = c.circuit.ensures.well_formed in
    let room = c.in_ok-room.ensures in
    c.in-Err.ensures d formed room.means (c.deref_mut.ensures.value ∙ room.bits_are)
