use Rattle.std.specs.Prelude.{◌≡◌, ◌+◌, ◌*◌, length, take}
use Rattle.std.specs.List.{flat_map, range_with_len}
use Rattle.aig_unroll.specs.Unrolled.{bad_at, frame_size, gates_at, outputs_at}
use Rattle.aig_unroll.proofs.unrolling.put_frames.Given as goal

abbrev pub invariant-loop-frame : goal.invariant-loop-frame
invariant-loop-frame l = record {
  at : l.copies.frame + 1 ≡ l.frame;
  circuit : l.copies.circuit ≡ l.fn.copies.circuit;
  frames : l.copies.frames ≡ l.fn.copies.frames;
  outputs : take (l.frame * length l.fn.copies.circuit.outputs) l.outputs
      ≡ flat_map (outputs_at l.fn.copies.circuit l.fn.copies.frames) (range_with_len 0 l.frame);
  bad : take (l.frame * length l.fn.copies.circuit.bad) l.bad
      ≡ flat_map (bad_at l.fn.copies.circuit l.fn.copies.frames) (range_with_len 0 l.frame);
  gates : take (l.frame * frame_size l.fn.copies.circuit) l.gates
      ≡ flat_map (gates_at l.fn.copies.circuit l.fn.copies.frames) (range_with_len 0 l.frame);
}
