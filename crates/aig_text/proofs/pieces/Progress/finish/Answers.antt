use Rattle.std.proofs.Common.{◌∙◌, Err, ap, inr, sym, rules}
use Rattle.aig_fault.specs.declared.stopped.Stopped.{Stopped}
use Rattle.aig_text.proofs.Loops.Sections.{alone_done, alone_short, alone_wrong}
use Rattle.aig_text.proofs.pieces.Progress.finish.Goals as goal

pub returns-in-Err-clause-read : goal.returns-in-Err-clause-read
returns-in-Err-clause-read c =
    alone_wrong c.args.header.now c.args.self c.args.at.now c.in-Err.fault c.in-Err.ensures.err

pub returns-then-not-is_done-clause-read : goal.returns-then-not-is_done-clause-read
returns-then-not-is_done-clause-read c =
    inr (alone_short c.args.header.now c.args.self c.read_lines.new.self c.args.at.now c.read_lines.new.at
    c.in-Ok.ensures.on c.in-Ok.ensures.all (search rules)
    ∙ ap (λ (e : Stopped). Err e) (sym c.missing_line.ensures))

pub returns-else-not-is_done-clause-read : goal.returns-else-not-is_done-clause-read
returns-else-not-is_done-clause-read c =
    alone_done c.args.header.now c.args.self c.read_lines.new.self c.args.at.now c.read_lines.new.at
    c.in-Ok.ensures.on (search rules)
