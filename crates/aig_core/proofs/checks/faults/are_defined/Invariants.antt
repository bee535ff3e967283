use Rattle.std.proofs.Common.{◌≡◌, drop}
use Rattle.std.specs.List.{list_all}
use Rattle.aig_core.specs.Parts.Indexed.{is_defined_by}
use Rattle.aig_core.proofs.checks.faults.are_defined.Given as goal

abbrev pub invariant-loop-literal : goal.invariant-loop-literal
invariant-loop-literal l =
    list_all (is_defined_by l.before l.index) (drop l.literal-index l.literals)
    ≡ list_all (is_defined_by l.before l.index) l.literals
