use Rattle.std.proofs.Common.{◌∙◌, rules, sym}
use Rattle.std.proofs.lemmas.Result.{err_from_is_err_and}
use Rattle.aig_lines.specs.Lines.{lines_of}
use Rattle.aig_text.proofs.Loops.Text.{no_header, no_sections, tail_follows}
use Rattle.aig_text.proofs.reader.read_unchecked.Goals as goal

pub returns-in_err-header : goal.returns-in_err-header
returns-in_err-header c = search (rules, err_from_is_err_and, no_header)

pub returns-in-Err : goal.returns-in-Err
returns-in-Err c =
    no_sections c.args.limits.max_var
    (lines_of c.args.bytes.now) c.header.new.at c.in_ok-header.header c.in-Err.fault
    (rw c.new-at.ensures at c.in_ok-header.ensures.header)
    (rw (c.new.ensures.from c.header.new.at) at c.in-Err.ensures.read)

pub returns-in-Ok : goal.returns-in-Ok
returns-in-Ok c =
    let after = c.finish.new.at in
    let numbered = sym (c.new.ensures.from c.header.new.at) ∙ c.in-Ok.ensures.read in
    search (rules, tail_follows)
