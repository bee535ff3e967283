use Rattle.std.proofs.Common.{◌≡◌, ◌-◌, ◌≤◌, ◌++◌, List, ℕ, length}
use Rattle.aig_binary.specs.Begun.{gates_from}
use Rattle.aig_binary.proofs.gates.read_first_gates.Given as goal

-- some gates were read, and whatever comes, the others are read as they were
abbrev pub invariant-loop-used : goal.invariant-loop-used
invariant-loop-used l = record {
  fewer : length l.found ≤ l.count;
  taken : (text : List ℕ) × (l.bytes ≡ text ++ l.rest);
  on :
      (more : List ℕ) → gates_from l.variable l.count l.fn.found (l.bytes ++ more)
      ≡ gates_from l.variable l.count l.found (l.rest ++ more);
}

abbrev pub decreases-loop-used : goal.decreases-loop-used
decreases-loop-used l = l.count - length l.found
