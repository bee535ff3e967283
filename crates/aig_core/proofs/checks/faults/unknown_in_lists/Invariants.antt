use Rattle.std.proofs.Common.{◌≡◌, drop, map}
use Rattle.std.specs.List.{concat}
use Rattle.aig_core.specs.Fault.{first_unknown}
use Rattle.aig_core.proofs.checks.faults.unknown_in_lists.Given as goal

abbrev pub invariant-loop-list : goal.invariant-loop-list
invariant-loop-list l =
    first_unknown l.variables (concat (map (λ ls. ls.now) (drop l.list-index l.lists)))
    ≡ first_unknown l.variables (concat (map (λ ls. ls.now) l.lists))
