use Rattle.std.proofs.Common.{◌≡◌, ◌≤◌, ◌*◌, length, take, flat_map}
use Rattle.aig_binary.specs.BinaryText.{gate_text}
use Rattle.aig_binary.specs.declared.delta.TheConstants.{LONGEST}
use Rattle.aig_binary.proofs.writer.write_gates.Given as goal

abbrev pub invariant-loop-gate : goal.invariant-loop-gate
invariant-loop-gate l = record {
  within : l.end ≤ l.gate-index * (2 * LONGEST);
  len : length l.bytes ≡ length l.fn.bytes;
  text : take l.end l.bytes ≡ flat_map gate_text (take l.gate-index l.gates);
}
