use Rattle.std.proofs.Common.{take}
use Rattle.std.specs.List.{zip}
use Rattle.aig_cuts.specs.Cuts.{planned_clauses}
use Rattle.aig_refute.specs.Refuted.{GainsAll}
use Rattle.aig_refute_cuts.proofs.clauses.add_planned.Given as goal

abbrev pub invariant-loop-k : goal.invariant-loop-k
invariant-loop-k l = GainsAll (planned_clauses (take l.k (zip l.gates l.plan))) l.initial.checker l.checker
