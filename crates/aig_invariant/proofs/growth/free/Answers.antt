use Rattle.std.proofs.Common.{arith}
use Rattle.aig_invariant.proofs.Growing.Cubes.{next_freed}
use Rattle.aig_invariant.proofs.growth.free.Goals as goal

pub loop-i-preserved : goal.loop-i-preserved
loop-i-preserved c =
    next_freed c.loop-i.i c.args.latches.now c.loop-i.latches c.index-latches-i.result
    (omega (arith, c.loop-i-test.true)) c.loop-i.invariant
