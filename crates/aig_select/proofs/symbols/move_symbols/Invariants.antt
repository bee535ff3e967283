use Rattle.std.proofs.Common.{◌≡◌, ◌++◌}
use Rattle.aig_select.specs.Parts.Places.{place_by}
use Rattle.aig_select.specs.Selection.{moved_symbols}
use Rattle.aig_select.proofs.symbols.move_symbols.Given as goal

abbrev pub invariant-loop-symbol : goal.invariant-loop-symbol
invariant-loop-symbol l = l.moved ++ moved_symbols (place_by l.places) l.symbol-iterator
    ≡ moved_symbols (place_by l.places) l.fn.symbols
