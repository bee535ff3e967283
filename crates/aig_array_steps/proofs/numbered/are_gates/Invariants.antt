use Rattle.std.proofs.Common.{◌↔◌, ◌+◌, ◌≤◌, length}
use Rattle.aig_array_steps.specs.Parts.Words.{AreGateWords, AreInThrees}
use Rattle.aig_array_steps.proofs.numbered.are_gates.Given as goal

abbrev pub decreases-loop-rest : goal.decreases-loop-rest
decreases-loop-rest l = length l.rest

abbrev pub invariant-loop-rest : goal.invariant-loop-rest
invariant-loop-rest l = record {
  place : l.variable + length l.rest ≤ l.first + length l.words;
  left : AreInThrees AreGateWords l.variable l.rest ↔ AreInThrees AreGateWords l.first l.words;
}
