use Rattle.std.specs.Prelude.{◌+◌, ◌≤◌, length, map}
use Rattle.aig_circuit.specs.declared.circuit.Latch.{Latch}
use Rattle.aig_lines.specs.Lines.{lines_of}
use Rattle.aig_invariant.proofs.Judging.{Leads}
use Rattle.aig_invariant.proofs.reader.check_lines.Given as goal

abbrev pub invariant-loop-line : goal.invariant-loop-line
invariant-loop-line l = record {
  at : l.number + length l.rest ≤ 1 + length l.bytes;
  leads : Leads (map (λ (x : Latch). x.reset) l.latches) 1 (lines_of l.bytes) l.number (lines_of l.rest);
}

abbrev pub decreases-loop-line : goal.decreases-loop-line
decreases-loop-line l = length l.rest
