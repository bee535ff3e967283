use Rattle.std.proofs.Common.{◌≡◌, fold}
use Rattle.aig_pairing.specs.Names.{named, names_by}
use Rattle.aig_pairing.proofs.names.names_by.Given as goal

abbrev pub invariant-loop-symbol : goal.invariant-loop-symbol
invariant-loop-symbol l =
    fold (named l.paired) l.names.items l.symbol-iterator ≡ names_by l.fn.paired l.fn.count l.fn.symbols
