use Rattle.std.proofs.Common.{inr}
use Rattle.aig_text.proofs.Loops.Text.{advances, all_taken, wrong_on}
use Rattle.aig_text.proofs.pieces.LineReader.advance.Goals as goal

pub returns-in-Err-clause-on : goal.returns-in-Err-clause-on
returns-in-Err-clause-on c = λ more.
    wrong_on c.args.self.now c.in-Ok.header c.args.bytes.now c.ended_lines.result.0.now c.ended_lines.result.1.now more
    _ c.in-Err.fault c.in-Ok.is c.ended_lines.ensures.cut c.ended_lines.ensures.ended c.at_line-at.ensures
    c.in-Err.ensures.err

pub overflow_sub-result : goal.overflow_sub-result
overflow_sub-result c =
    (advances c.args.self.now
    (record { header = c.args.self.now.header; progress = c.read_lines.new.self; number = c.at.inside.number })
    c.in-Ok.header c.args.bytes.now c.ended_lines.result.0.now c.ended_lines.result.1.now c.at.inside.rest.now
    c.at_line-at.result c.read_lines.new.at c.in-Ok.is c.in-Ok.is c.ended_lines.ensures.cut
    c.ended_lines.ensures.ended c.at_line-at.ensures c.at.view_is c.in_default-read_lines.ensures.behind
    c.in_default-read_lines.ensures.on).fits

pub returns-clause-on : goal.returns-clause-on
returns-clause-on c = λ more.
    inr ((advances c.args.self.now
    (record { header = c.args.self.now.header; progress = c.read_lines.new.self; number = c.at.inside.number })
    c.in-Ok.header c.args.bytes.now c.ended_lines.result.0.now c.ended_lines.result.1.now c.at.inside.rest.now
    c.at_line-at.result c.read_lines.new.at c.in-Ok.is c.in-Ok.is c.ended_lines.ensures.cut
    c.ended_lines.ensures.ended c.at_line-at.ensures c.at.view_is c.in_default-read_lines.ensures.behind
    c.in_default-read_lines.ensures.on).on more)

pub returns-clause-number : goal.returns-clause-number
returns-clause-number c =
    (advances c.args.self.now
    (record { header = c.args.self.now.header; progress = c.read_lines.new.self; number = c.at.inside.number })
    c.in-Ok.header c.args.bytes.now c.ended_lines.result.0.now c.ended_lines.result.1.now c.at.inside.rest.now
    c.at_line-at.result c.read_lines.new.at c.in-Ok.is c.in-Ok.is c.ended_lines.ensures.cut
    c.ended_lines.ensures.ended c.at_line-at.ensures c.at.view_is c.in_default-read_lines.ensures.behind
    c.in_default-read_lines.ensures.on).counted

pub returns-clause-all : goal.returns-clause-all
returns-clause-all c =
    all_taken c.read_lines.new.self c.args.bytes.now c.ended_lines.result.0.now c.ended_lines.result.1.now
    c.at.inside.rest.now c.at.inside.number c.read_lines.new.at c.ended_lines.ensures.cut c.ended_lines.ensures.all
    c.at.view_is c.in_default-read_lines.ensures.all
