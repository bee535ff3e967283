use Rattle.std.proofs.Common.{◌∙◌}
use Rattle.aig_text.specs.Begun.{then_tail}
use Rattle.aig_text.specs.declared.section.Format.TheVariants.{Ascii}
use Rattle.aig_text.proofs.Loops.Text.{begins_ascii, begins_there}
use Rattle.aig_text.proofs.pieces.AsciiReader.begin.Goals as goal

pub overflow_sub-used : goal.overflow_sub-used
overflow_sub-used c =
    (begins_ascii c.args.limits.max_var c.args.lines.now c.at.inside.rest.now c.at.inside.number c.header-header.result
    c.new-at.result c.header-header.new.at c.requires.some c.requires.ended c.new-at.ensures c.at.view_is
    c.header-header.ensures.header c.header-header.ensures.err).fits

pub returns-clause-on : goal.returns-clause-on
returns-clause-on c = λ more.
    (begins_ascii c.args.limits.max_var c.args.lines.now c.at.inside.rest.now c.at.inside.number c.header-header.result
    c.new-at.result c.header-header.new.at c.requires.some c.requires.ended c.new-at.ensures c.at.view_is
    c.header-header.ensures.header c.header-header.ensures.err).told more
    ∙ begins_there then_tail Ascii c.new-lines.result c.header-header.result c.at.inside.number _
    c.new-lines.ensures.from c.new-lines.ensures.number

pub returns-clause-number : goal.returns-clause-number
returns-clause-number c =
    rw c.new-lines.ensures.number
    ((begins_ascii c.args.limits.max_var c.args.lines.now c.at.inside.rest.now c.at.inside.number
    c.header-header.result c.new-at.result c.header-header.new.at c.requires.some c.requires.ended c.new-at.ensures
    c.at.view_is c.header-header.ensures.header c.header-header.ensures.err).counted)
