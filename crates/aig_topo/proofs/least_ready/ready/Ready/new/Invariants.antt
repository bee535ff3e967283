use Rattle.std.proofs.Common.{◌≡◌, ◌≤◌, ◌*◌, ◌-◌}
use Rattle.aig_topo.specs.Ready.{first_bit}
use Rattle.aig_topo.proofs.least_ready.ready.Ready.new.Given as goal

abbrev pub invariant-loop-first : goal.invariant-loop-first
invariant-loop-first l = record {
  first_is : l.first ≡ first_bit l.levels;
  levels : l.levels ≤ l.first;
  few : l.first ≤ 2 * l.gates;
}

abbrev pub decreases-loop-first : goal.decreases-loop-first
decreases-loop-first l = 2 * l.gates - l.first
