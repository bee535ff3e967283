use Rattle.std.proofs.Common.{arith}
use Rattle.aig_step.proofs.LineValues.{same_size}
use Rattle.aig_trace.proofs.tracer.Tracer.new.Goals as goal

pub invariant_of-result : goal.invariant_of-result
invariant_of-result c =
    let same = same_size c.args.checked.now _ c.line_room.ensures.formed c.in_ok-new.ensures.same in
    omega (arith, same, c.line_room.ensures.size, c.in_ok-line.ensures.len)
