use Rattle.std.proofs.Common.{◌≡◌, [], drop, inr, rules}
use Rattle.aig_text.specs.Begun.{HasAllLines}
use Rattle.aig_binary.proofs.Front.{gates_on, gates_wrong}
use Rattle.aig_binary.proofs.pieces.BinaryReaderPieces.advance.Goals as goal

pub returns-in_default-clause-all : goal.returns-in_default-clause-all
returns-in_default-clause-all c =
    let none : drop c.advance-used.result c.args.bytes.now ≡ [] =
    rw c.in_default.is at c.advance-used.ensures.header in
    inr (rw none tt)

pub returns-then-not-is_done-clause-valid : goal.returns-then-not-is_done-clause-valid
returns-then-not-is_done-clause-valid c =
    let same = rw c.in-Ok.is at c.advance-used.ensures.header in
    let fewer = rw same at c.requires.valid.1 in
    (c.advance-used.ensures.valid, rw c.in-Ok.is fewer)

pub read_first_gates-requires-clause-fewer : goal.read_first_gates-requires-clause-fewer
read_first_gates-requires-clause-fewer c =
    let same = rw c.in-Ok.is at c.advance-used.ensures.header in
    rw same at c.requires.valid.1

pub returns-in-Ok-read_first_gates-clause-on : goal.returns-in-Ok-read_first_gates-clause-on
returns-in-Ok-read_first_gates-clause-on c = λ more.
    let done : HasAllLines c.advance-used.new.self = search rules in
    gates_on c.args.self.now c.advance-used.new.self c.in-Ok.header c.args.bytes.now c.split_at.result.1.now
    c.advance-used.result c.split_at.ensures.back c.advance-used.ensures.on c.in-Ok.is done.1
    c.in-Ok-read_first_gates.taken c.read_first_gates.new.found more (c.in-Ok-read_first_gates.ensures.on more)

pub returns-in-Err-clause-on : goal.returns-in-Err-clause-on
returns-in-Err-clause-on c = λ more.
    let done : HasAllLines c.advance-used.new.self = search rules in
    gates_wrong c.args.self.now c.advance-used.new.self c.in-Ok.header c.args.bytes.now c.split_at.result.1.now
    c.advance-used.result c.split_at.ensures.back c.advance-used.ensures.on c.in-Ok.is done.1 more c.in-Err.fault
    c.in-Err.ensures.err
