use Rattle.std.proofs.Common.{◌≡◌, ◌++◌, map}
use Rattle.aig_commands.specs.OutputsAsBad.{symbol_as_bad}
use Rattle.aig_commands.proofs.outputs_as_bad.symbols_as_bad.Given as goal

-- what was changed stands before what is still to be changed
abbrev pub invariant-loop-symbol : goal.invariant-loop-symbol
invariant-loop-symbol l =
    l.changed ++ map symbol_as_bad l.symbol-iterator ≡ map symbol_as_bad l.fn.symbols
