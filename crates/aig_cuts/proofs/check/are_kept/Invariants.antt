use Rattle.std.proofs.Common.{ℕ, ◌<◌, get_or}
use Rattle.std.specs.List.{zip}
use Rattle.aig_circuit.specs.Literal.{variable_of}
use Rattle.aig_cuts.specs.Cuts.{IsKept}
use Rattle.aig_cuts.proofs.check.are_kept.Given as goal

abbrev pub invariant-loop-literal : goal.invariant-loop-literal
invariant-loop-literal l =
    (k : ℕ) → k < l.literal-index → (d : ℕ) → IsKept (zip l.gates l.plan) (variable_of (get_or l.literals k d))
