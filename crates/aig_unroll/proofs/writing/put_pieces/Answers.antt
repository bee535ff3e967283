use Rattle.std.proofs.Common.{◌≡◌, List, drop, length, rules, subst, take, flat_map}
use Rattle.aig_circuit.specs.declared.circuit.Gate.{Gate}
use Rattle.aig_io.specs.Output.{Appended}
use Rattle.aig_unroll.specs.Unrolled.{gates_at}
use Rattle.aig_unroll.proofs.Written.{piece_more}
use Rattle.aig_unroll.proofs.writing.put_pieces.Goals as goal

pub loop-room-preserved : goal.loop-room-preserved
loop-room-preserved g c =
    let f = c.args.copies.now in
    let gates = gates_at f.circuit f.frames f.frame in
    let piece = c.put_copies.new.out in
    let made : piece ≡ take (length piece) (drop c.loop-room.at gates) = search rules in
    record {
      within = search rules;
      room = search rules;
      put = piece_more g.F.GateText.one gates c.loop-room.at (length piece) _ _ _ c.loop-room.invariant.put
          (subst (λ (xs : List Gate). Appended c.loop-room.output c.put_some.new.output (flat_map g.F.GateText.one xs))
          made
          c.put_some.ensures);
    }
