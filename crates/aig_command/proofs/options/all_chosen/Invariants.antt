use Rattle.std.proofs.Common.{◌≡◌, ◌++◌}
use Rattle.std.specs.List.{filter_map}
use Rattle.clap.specs.Words.{found_of, rows_of, values_left}
use Rattle.aig_command.specs.Asked.{all_chosen, number_in}
use Rattle.aig_command.proofs.options.all_chosen.Given as goal

abbrev pub invariant-loop-value : goal.invariant-loop-value
invariant-loop-value l =
    l.chosen ++ filter_map number_in (values_left l.value-iterator)
    ≡ all_chosen l.name (rows_of (found_of l.matches))
