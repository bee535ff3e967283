use Rattle.std.proofs.Common.{◌∙◌, sym}
use Rattle.aig_binary.proofs.Front.{begins_binary}
use Rattle.aig_binary.proofs.pieces.BinaryReader.begin.Goals as goal

pub overflow_sub-used : goal.overflow_sub-used
overflow_sub-used c =
    (begins_binary c.args.limits.max_var c.args.lines.now c.at.inside.rest.now c.at.inside.number
    c.filled_header-header.result c.new-at.result c.filled_header-header.new.at c.requires.some c.requires.ended
    c.new-at.ensures c.at.view_is c.filled_header-header.ensures.header c.filled_header-header.ensures.behind).fits

pub returns-clause-on : goal.returns-clause-on
returns-clause-on c = λ more.
    (begins_binary c.args.limits.max_var c.args.lines.now c.at.inside.rest.now c.at.inside.number
    c.filled_header-header.result c.new-at.result c.filled_header-header.new.at c.requires.some c.requires.ended
    c.new-at.ensures c.at.view_is c.filled_header-header.ensures.header c.filled_header-header.ensures.behind).told
    more
    ∙ sym (c.new.ensures.from _)

pub returns-clause-number : goal.returns-clause-number
returns-clause-number c =
    rw c.new.ensures.number
    ((begins_binary c.args.limits.max_var c.args.lines.now c.at.inside.rest.now c.at.inside.number
    c.filled_header-header.result c.new-at.result c.filled_header-header.new.at c.requires.some c.requires.ended
    c.new-at.ensures c.at.view_is c.filled_header-header.ensures.header c.filled_header-header.ensures.behind).counted)
