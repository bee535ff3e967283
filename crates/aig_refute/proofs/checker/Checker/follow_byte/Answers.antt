use Rattle.std.proofs.Common.{rules}
use Rattle.aig_refute.proofs.Taken.{wrong_byte}
use Rattle.aig_refute.proofs.checker.Checker.follow_byte.Goals as goal

pub returns-in_err-follow_line-clause-err : goal.returns-in_err-follow_line-clause-err
returns-in_err-follow_line-clause-err c =
    let wrong = wrong_byte c.args.byte c.args.reader.now c.take.new.self c.in_ok-end.end c.args.self.now
    c.in_err-follow_line.field-0.0 c.in_ok-end.ensures c.in_err-follow_line.ensures.err in
    search (rules, wrong)
