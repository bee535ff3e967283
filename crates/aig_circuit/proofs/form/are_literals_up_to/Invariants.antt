use Rattle.std.proofs.Common.{◌↔◌, drop}
use Rattle.std.specs.List.{AllByRecursion}
use Rattle.aig_circuit.specs.Form.{IsLiteralUpTo}
use Rattle.aig_circuit.proofs.form.are_literals_up_to.Given as goal

abbrev pub invariant-loop-literal : goal.invariant-loop-literal
invariant-loop-literal l =
    AllByRecursion (IsLiteralUpTo l.max_var) (drop l.literal-index l.literals)
    ↔ AllByRecursion (IsLiteralUpTo l.max_var) l.literals
