use Rattle.std.proofs.Common.{◌≡◌, take}
use Rattle.aig_pairing.specs.ByNames.{in_order_of}
use Rattle.aig_pairing.proofs.index.Index.in_order_of.Given as goal

abbrev pub invariant-loop-name : goal.invariant-loop-name
invariant-loop-name g l = l.ordered.items ≡ in_order_of (take l.name-index l.wanted) l.self l.values
