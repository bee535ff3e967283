use Rattle.std.proofs.Common.{None}
use Rattle.aig_witness.proofs.Witnessing.{first_by_values}
use Rattle.aig_witness.proofs.witness_line.read_first_state.Goals as goal

pub returns-then-not-read_state-clause-bad : goal.returns-then-not-read_state-clause-bad
returns-then-not-read_state-clause-bad c = λ _.
    first_by_values c.args.stepper.now.circuit c.args.text.now None (c.read_state.ensures.bad c.if-not-read_state.true)
