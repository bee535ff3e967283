use Rattle.std.specs.Prelude.{◌≡◌, take, map}
use Rattle.aig_step.specs.Parts.Tables.{pair_of}
use Rattle.aig_step.proofs.evaluate.pairs_of.Given as goal

abbrev pub invariant-loop-gate : goal.invariant-loop-gate
invariant-loop-gate l = l.pairs.items ≡ map pair_of (take l.gate-index l.gates)
