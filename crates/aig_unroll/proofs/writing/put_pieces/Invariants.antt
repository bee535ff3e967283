use Rattle.std.proofs.Common.{◌≡◌, ◌≤◌, ◌-◌, length, take, flat_map}
use Rattle.aig_io.specs.Output.{Appended}
use Rattle.aig_unroll.specs.Unrolled.{gates_at}
use Rattle.aig_unroll.proofs.writing.put_pieces.Given as goal

abbrev pub invariant-loop-room : goal.invariant-loop-room
invariant-loop-room g l = record {
  within : l.at ≤ length l.copies.circuit.gates;
  room : length l.room ≡ length l.fn.room;
  put : Appended l.fn.output l.output (flat_map g.F.GateText.one
      (take l.at (gates_at l.copies.circuit l.copies.frames l.copies.frame)));
}

abbrev pub decreases-loop-room : goal.decreases-loop-room
decreases-loop-room g l = length l.copies.circuit.gates - l.at
