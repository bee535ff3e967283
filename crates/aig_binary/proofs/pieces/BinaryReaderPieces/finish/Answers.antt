use Rattle.aig_binary.proofs.TailRead.{no_gates_read, tail_read}
use Rattle.aig_binary.proofs.pieces.BinaryReaderPieces.finish.Goals as goal

pub returns-in-Err-read_gates-clause-read : goal.returns-in-Err-read_gates-clause-read
returns-in-Err-read_gates-clause-read c =
    no_gates_read c.args.self c.args.bytes.now c.at_line-at.result c.at_line-at.ensures c.in-Ok.found.0 c.in-Ok.found.1
    c.finish.new.at c.at.inside.number c.at.inside.rest.now c.in-Err-read_gates.fault c.in-Ok.ensures.read c.at.view_is
    c.in-Err-read_gates.ensures.gates

pub returns-clause-read : goal.returns-clause-read
returns-clause-read c =
    (tail_read c.args.self c.in-Ok.found.0 c.args.bytes.now c.at.inside.rest.now c.in-Ok-read_gates.found.1.now
    c.in-Ok-read_gates.found.0 c.in-Ok.found.1 c.add_definitions.new.circuit c.at_line-at.result c.finish.new.at
    c.at_line.result c.at.inside.number c.tail.result c.at_line-at.ensures c.in-Ok.ensures.read c.in-Ok.ensures.behind
    c.at.view_is c.in-Ok-read_gates.ensures.gates c.in-Ok-read_gates.ensures.last c.in_default.ensures.ok
    c.at_line.ensures (c.tail.ensures.read, c.tail.ensures.within)).0

pub returns-clause-within : goal.returns-clause-within
returns-clause-within c =
    (tail_read c.args.self c.in-Ok.found.0 c.args.bytes.now c.at.inside.rest.now c.in-Ok-read_gates.found.1.now
    c.in-Ok-read_gates.found.0 c.in-Ok.found.1 c.add_definitions.new.circuit c.at_line-at.result c.finish.new.at
    c.at_line.result c.at.inside.number c.tail.result c.at_line-at.ensures c.in-Ok.ensures.read c.in-Ok.ensures.behind
    c.at.view_is c.in-Ok-read_gates.ensures.gates c.in-Ok-read_gates.ensures.last c.in_default.ensures.ok
    c.at_line.ensures (c.tail.ensures.read, c.tail.ensures.within)).1
