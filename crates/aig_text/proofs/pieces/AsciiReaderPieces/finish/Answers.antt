use Rattle.aig_text.proofs.Loops.Tail.{no_tail_read, tail_read}
use Rattle.aig_text.proofs.pieces.AsciiReaderPieces.finish.Goals as goal

pub returns-in-Err-clause-read : goal.returns-in-Err-clause-read
returns-in-Err-clause-read c =
    no_tail_read c.args.self c.args.bytes.now c.at_line-at.result c.in-Err.fault c.at_line-at.ensures
    c.in-Err.ensures.read

pub returns-clause-read : goal.returns-clause-read
returns-clause-read c =
    (tail_read c.args.self c.in-Ok.found.0 c.args.bytes.now c.in-Ok.found.1 c.at_line-at.result c.finish.new.at
    c.tail.result c.at_line-at.ensures c.in-Ok.ensures.read c.in-Ok.ensures.behind
    (c.tail.ensures.read, c.tail.ensures.within)).0

pub returns-clause-within : goal.returns-clause-within
returns-clause-within c =
    (tail_read c.args.self c.in-Ok.found.0 c.args.bytes.now c.in-Ok.found.1 c.at_line-at.result c.finish.new.at
    c.tail.result c.at_line-at.ensures c.in-Ok.ensures.read c.in-Ok.ensures.behind
    (c.tail.ensures.read, c.tail.ensures.within)).1
