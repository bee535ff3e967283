use Rattle.std.proofs.Common.{◌≡◌, drop}
use Rattle.std.specs.List.{list_all}
use Rattle.aig_core.specs.Parts.Indexed.{is_no_gate}
use Rattle.aig_core.proofs.checks.faults.are_inputs_apart.Given as goal

abbrev pub invariant-loop-input : goal.invariant-loop-input
invariant-loop-input l =
    list_all (is_no_gate l.index) (drop l.input-index l.inputs) ≡ list_all (is_no_gate l.index) l.inputs
