use Rattle.std.proofs.Common.{◌≡◌, ◌*◌, ◌≤◌, sum_by, take}
use Rattle.aig_cuts.specs.Parts.Counted.{clause_count}
use Rattle.aig_cuts.proofs.clauses.count_clauses.Given as goal

abbrev pub invariant-loop-cut : goal.invariant-loop-cut
invariant-loop-cut l = record {
  count : l.count ≡ sum_by clause_count (take l.cut-index l.plan);
  few : l.count ≤ 4 * l.cut-index;
}
