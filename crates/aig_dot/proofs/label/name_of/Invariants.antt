use Rattle.std.proofs.Common.{◌≡◌}
use Rattle.aig_dot.specs.Label.{name_of}
use Rattle.aig_dot.proofs.label.name_of.Given as goal

abbrev pub invariant-loop-symbol : goal.invariant-loop-symbol
invariant-loop-symbol l = name_of l.symbol-iterator l.kind l.position ≡ name_of l.fn.symbols l.kind l.position
