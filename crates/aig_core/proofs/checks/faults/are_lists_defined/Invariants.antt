use Rattle.std.proofs.Common.{◌≡◌, drop, map}
use Rattle.std.specs.List.{concat, list_all}
use Rattle.aig_core.specs.Parts.Indexed.{is_defined_by}
use Rattle.aig_core.proofs.checks.faults.are_lists_defined.Given as goal

abbrev pub invariant-loop-list : goal.invariant-loop-list
invariant-loop-list l =
    list_all (is_defined_by l.before l.index) (concat (map (λ ls. ls.now) (drop l.list-index l.lists)))
    ≡ list_all (is_defined_by l.before l.index) (concat (map (λ ls. ls.now) l.lists))
