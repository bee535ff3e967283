use Rattle.std.proofs.Common.{ℕ, arith}
use Rattle.std.specs.List.{zip}
use Rattle.aig_circuit.specs.Literal.{variable_of}
use Rattle.aig_cuts.specs.Cuts.{IsKept}
use Rattle.aig_cuts.proofs.Looking.{each_more}
use Rattle.aig_cuts.proofs.check.are_kept.Goals as goal

pub loop-literal-preserved : goal.loop-literal-preserved
loop-literal-preserved c =
    each_more (λ (l : ℕ). IsKept (zip c.args.gates.now c.args.plan.now) (variable_of l)) c.args.literals.now
    c.loop-literal.literal-index c.literal-item.result c.loop-literal-test.true c.literal-item.is
    (c.is_kept.ensures c.if-not-is_kept.false) c.loop-literal.invariant

pub returns : goal.returns
returns c _ k d below = c.loop-literal.invariant k (omega (arith, below)) d
