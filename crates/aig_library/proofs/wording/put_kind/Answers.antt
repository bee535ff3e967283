use Rattle.std.proofs.Common.{arith, length-append}
use Rattle.aig_fault.specs.Words.{kind_text}
use Rattle.aig_library.proofs.Messages.{kind_short}
use Rattle.aig_library.proofs.wording.put_kind.Goals as goal

pub returns-in-Some-clause-short : goal.returns-in-Some-clause-short
returns-in-Some-clause-short c =
    rw (c.put_message.ensures, c.words.ensures)
    (omega (
      arith,
      length-append c.args.words.now (kind_text c.in-Some.kind c.args.subject),
      kind_short c.in-Some.kind c.args.subject (omega arith),
    ))
