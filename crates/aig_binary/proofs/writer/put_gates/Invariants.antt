use Rattle.std.proofs.Common.{◌≤◌, ◌-◌, length, take, flat_map}
use Rattle.aig_io.specs.Output.{Appended}
use Rattle.aig_binary.specs.BinaryText.{gate_text}
use Rattle.aig_binary.proofs.writer.put_gates.Given as goal

abbrev pub invariant-loop-at : goal.invariant-loop-at
invariant-loop-at g l = record {
  within : l.at ≤ length l.gates;
  put : Appended l.fn.output l.output (flat_map gate_text (take l.at l.gates));
}

abbrev pub decreases-loop-at : goal.decreases-loop-at
decreases-loop-at g l = length l.gates - l.at
