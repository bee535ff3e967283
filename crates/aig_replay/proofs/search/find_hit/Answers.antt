use Rattle.std.proofs.Common.{◌≡◌, ◌∙◌, ap, arith, length}
use Rattle.aig_circuit.specs.declared.circuit.Circuit.{Circuit}
use Rattle.aig_replay.proofs.Running.{bad_found, broken_found, has_room, says_some, still_on}
use Rattle.aig_replay.proofs.search.find_hit.Goals as goal

pub returns-then-rest-inputs : goal.returns-then-rest-inputs
returns-then-rest-inputs c = λ k vectors rows formed means are follow.
    let loop = c.loop-step in
    let inputs : length loop.stepper.circuit.inputs ≡ length k.inputs =
    ap (λ (d : Circuit). length d.inputs) loop.invariant.circuit ∙ means.inputs in
    let room = has_room k loop.stepper.state c.args.count loop.step loop.rest.now rows c.loop-step-test.true
    (loop.invariant.on k vectors rows formed means are follow) in
    absurd (omega (arith, room, inputs, c.count_inputs-inputs.ensures, c.if-rest-inputs.true))

pub returns-in_default : goal.returns-in_default
returns-in_default c = λ k vectors rows formed means are follow.
    let loop = c.loop-step in
    says_some k formed c.args.stepper.now loop.stepper loop.invariant.circuit means c.args.count loop.step
    c.count_inputs-inputs.result c.count_inputs-inputs.ensures loop.rest.now c.split_at.result.0.now
    c.split_at.ensures.front rows c.loop-step-test.true (loop.invariant.on k vectors rows formed means are follow)
    (c.take_step.ensures.none c.in_default.is)

pub returns-in-Broken : goal.returns-in-Broken
returns-in-Broken c = λ k vectors rows formed means are follow.
    let loop = c.loop-step in
    let took = c.in-Some.ensures.took in
    broken_found k formed c.args.stepper.now loop.stepper loop.invariant.circuit means c.args.count loop.step
    c.count_inputs-inputs.result c.count_inputs-inputs.ensures loop.rest.now c.split_at.result.0.now
    c.split_at.ensures.front rows c.loop-step-test.true (loop.invariant.on k vectors rows formed means are follow)
    c.take_step.new.stepper took.0 c.in-Some.shown took.1 took.2 c.in-Broken.is

pub returns-in-Bad : goal.returns-in-Bad
returns-in-Bad c = λ k vectors rows formed means are follow.
    let loop = c.loop-step in
    let took = c.in-Some.ensures.took in
    bad_found k formed c.args.stepper.now loop.stepper loop.invariant.circuit means c.args.count loop.step
    c.count_inputs-inputs.result c.count_inputs-inputs.ensures loop.rest.now c.split_at.result.0.now
    c.split_at.ensures.front rows c.loop-step-test.true (loop.invariant.on k vectors rows formed means are follow)
    c.take_step.new.stepper took.0 c.in-Some.shown took.1 took.2 c.in-Bad.property c.in-Bad.is

pub loop-step-preserved : goal.loop-step-preserved
loop-step-preserved c =
    let loop = c.loop-step in
    record {
      circuit = c.take_step.ensures.circuit ∙ loop.invariant.circuit;
      on = λ k vectors rows formed means are follow.
          let took = c.in-Some.ensures.took in
          still_on k formed c.args.stepper.now loop.stepper loop.invariant.circuit means c.args.count loop.step
          c.count_inputs-inputs.result c.count_inputs-inputs.ensures loop.rest.now c.split_at.result.0.now
          c.split_at.ensures.front rows c.loop-step-test.true
          (loop.invariant.on k vectors rows formed means are follow) c.take_step.new.stepper took.0 c.in-Some.shown
          took.1 took.2 c.split_at.result.1.now c.split_at.ensures.back c.in-Good.is;
    }
