use Rattle.std.proofs.Common.{arith, drop, length-append, sym, length-drop, length-take-le}
use Rattle.aig_unroll.specs.Unrolled.{gates_at}
use Rattle.aig_unroll.specs.declared.writing.TheConstants.{PIECE}
use Rattle.aig_unroll.proofs.Written.{rest_more}
use Rattle.aig_unroll.proofs.writing.put_frame_gates.Goals as goal

pub slice_bounds-put_pieces-end-2 : goal.slice_bounds-put_pieces-end-2
slice_bounds-put_pieces-end-2 g c = sym (length-take-le PIECE c.args.room.now (omega (arith, c.requires)))

pub put_rest-requires-clause-room : goal.put_rest-requires-clause-room
put_rest-requires-clause-room g c =
    let room = c.args.room.now in
    let piece = length-take-le PIECE room (omega (arith, c.requires)) in
    let joined = length-append c.put_pieces-at.new.room (drop PIECE room) in
    let done = c.put_pieces-at.ensures in
    omega (arith, c.requires, piece, joined, length-drop PIECE room, done.room, done.last)

pub returns : goal.returns
returns g c =
    let f = c.args.copies.now in
    rest_more g.F.GateText.one (gates_at f.circuit f.frames f.frame) c.put_pieces-at.result _ _ _
    c.put_pieces-at.ensures.put c.put_rest.ensures
