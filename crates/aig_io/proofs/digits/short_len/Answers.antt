use Rattle.std.proofs.Common.{arith, sym}
use Rattle.aig_io.proofs.DigitCounts.{length_1, spans}
use Rattle.aig_io.proofs.digits.short_len.Goals as goal

pub returns-then-number-lt10-clause-value : goal.returns-then-number-lt10-clause-value
returns-then-number-lt10-clause-value c = sym (length_1 c.args.number (omega arith))

pub returns-else-number-lt10-clause-value : goal.returns-else-number-lt10-clause-value
returns-else-number-lt10-clause-value c = sym (spans 0 c.args.number (omega arith) (omega arith) (omega arith))

pub returns-then-number-lt1000-clause-value : goal.returns-then-number-lt1000-clause-value
returns-then-number-lt1000-clause-value c = sym (spans 1 c.args.number (omega arith) (omega arith) (omega arith))

pub returns-else-number-lt1000-clause-value : goal.returns-else-number-lt1000-clause-value
returns-else-number-lt1000-clause-value c = sym (spans 2 c.args.number (omega arith) (omega arith) (omega arith))

pub returns-then-number-lt100000-clause-value : goal.returns-then-number-lt100000-clause-value
returns-then-number-lt100000-clause-value c = sym (spans 3 c.args.number (omega arith) (omega arith) (omega arith))

pub returns-else-number-lt100000-clause-value : goal.returns-else-number-lt100000-clause-value
returns-else-number-lt100000-clause-value c = sym (spans 4 c.args.number (omega arith) (omega arith) (omega arith))

pub returns-then-number-lt10000000-clause-value : goal.returns-then-number-lt10000000-clause-value
returns-then-number-lt10000000-clause-value c = sym (spans 5 c.args.number (omega arith) (omega arith) (omega arith))

pub returns-else-number-lt10000000-clause-value : goal.returns-else-number-lt10000000-clause-value
returns-else-number-lt10000000-clause-value c = sym (spans 6 c.args.number (omega arith) (omega arith) (omega arith))

pub returns-then-number-lt1000000000-clause-value : goal.returns-then-number-lt1000000000-clause-value
returns-then-number-lt1000000000-clause-value c = sym (spans 7 c.args.number (omega arith) (omega arith) (omega arith))

pub returns-else-number-lt1000000000-clause-value : goal.returns-else-number-lt1000000000-clause-value
returns-else-number-lt1000000000-clause-value c = sym (spans 8 c.args.number (omega arith) (omega arith) (omega arith))
