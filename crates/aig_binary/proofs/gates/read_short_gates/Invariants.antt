use Rattle.std.proofs.Common.{◌≡◌, ◌++◌, List, ℕ, length}
use Rattle.aig_binary.specs.Begun.{gates_from}
use Rattle.aig_binary.proofs.gates.read_short_gates.Given as goal

-- some gates were read, and whatever comes, the others are read as they were
abbrev pub invariant-loop-at : goal.invariant-loop-at
invariant-loop-at l = record {
  counted : length l.found ≡ l.at;
  taken : (text : List ℕ) × (l.bytes ≡ text ++ l.rest);
  on :
      (more : List ℕ) → gates_from l.variable l.count l.fn.found (l.bytes ++ more)
      ≡ gates_from l.variable l.count l.found (l.rest ++ more);
}
