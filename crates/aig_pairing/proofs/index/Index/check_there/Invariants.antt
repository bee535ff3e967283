use Rattle.std.proofs.Common.{◌≡◌, drop}
use Rattle.aig_pairing.specs.NameFaults.{missing_fault}
use Rattle.aig_pairing.proofs.index.Index.check_there.Given as goal

abbrev pub invariant-loop-at : goal.invariant-loop-at
invariant-loop-at l =
    missing_fault l.paired l.others l.at (drop l.at l.names) ≡ missing_fault l.paired l.others 0 l.names
