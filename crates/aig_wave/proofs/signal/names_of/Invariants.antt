use Rattle.std.proofs.Common.{◌≡◌, fold}
use Rattle.aig_wave.specs.Signals.{named, names_of}
use Rattle.aig_wave.proofs.signal.names_of.Given as goal

abbrev pub invariant-loop-symbol : goal.invariant-loop-symbol
invariant-loop-symbol l = fold (named l.kind) l.names.items l.symbol-iterator ≡ names_of l.fn.circuit l.fn.kind
