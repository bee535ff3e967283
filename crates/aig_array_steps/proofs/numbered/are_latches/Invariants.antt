use Rattle.std.proofs.Common.{◌↔◌, ◌+◌, ◌≤◌, length}
use Rattle.aig_array_steps.specs.Parts.Words.{AreInThrees, AreLatchWords}
use Rattle.aig_array_steps.proofs.numbered.are_latches.Given as goal

abbrev pub decreases-loop-rest : goal.decreases-loop-rest
decreases-loop-rest l = length l.rest

abbrev pub invariant-loop-rest : goal.invariant-loop-rest
invariant-loop-rest l = record {
  place : l.variable + length l.rest ≤ l.first + length l.words;
  left : AreInThrees (AreLatchWords l.highest) l.variable l.rest
      ↔ AreInThrees (AreLatchWords l.highest) l.first l.words;
}
