use Rattle.std.proofs.Common.{◌∷◌, [], arith, All}
use Rattle.std.proofs.lemmas.Result.{IfOk-weaker}
use Rattle.aig_lanes.specs.Parts.Benches.{HasRoomFor, HasRoomForSteps}
use Rattle.aig_lanes.proofs.Benches.Steps.{room_for_steps}
use Rattle.aig_lanes.proofs.bench.Bench.for_steps.Goals as goal

pub returns-clause-room : goal.returns-clause-room
returns-clause-room c =
    let machine = c.args.machine.now in
    let runs = c.in_ok-one_step_each.field-0 in
    IfOk-weaker c.new.result (λ bench. All (HasRoomFor machine bench) (runs ∷ [])) (HasRoomForSteps machine)
    (λ bench room. room_for_steps machine bench runs c.in_ok-one_step_each.ensures.lanes
    c.in_ok-one_step_each.ensures.steps (room 0 runs (omega arith)))
    c.new.ensures.room
