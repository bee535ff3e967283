use Rattle.std.proofs.Common.{◌↔◌, drop, map}
use Rattle.std.specs.List.{AllByRecursion}
use Rattle.aig_circuit.specs.Form.{IsLiteralUpTo}
use Rattle.aig_circuit.proofs.form.are_lists_up_to.Given as goal

abbrev pub invariant-loop-list : goal.invariant-loop-list
invariant-loop-list l =
    AllByRecursion (AllByRecursion (IsLiteralUpTo l.max_var)) (map (λ ls. ls.now) (drop l.list-index l.lists))
    ↔ AllByRecursion (AllByRecursion (IsLiteralUpTo l.max_var)) (map (λ ls. ls.now) l.lists)
