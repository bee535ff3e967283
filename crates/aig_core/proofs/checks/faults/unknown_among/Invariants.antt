use Rattle.std.proofs.Common.{◌≡◌, drop}
use Rattle.aig_core.specs.Fault.{first_unknown}
use Rattle.aig_core.proofs.checks.faults.unknown_among.Given as goal

abbrev pub invariant-loop-literal : goal.invariant-loop-literal
invariant-loop-literal l =
    first_unknown l.variables (drop l.literal-index l.literals) ≡ first_unknown l.variables l.literals
