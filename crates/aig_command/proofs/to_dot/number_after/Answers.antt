use Rattle.std.proofs.Common.{rules}
use Rattle.std.proofs.lemmas.Str.Pattern.{strip_prefix_char}
use Rattle.aig_command.proofs.Chosen.{after_letter, number_of}
use Rattle.aig_command.proofs.to_dot.number_after.Goals as goal

pub returns-in_err-strip_prefix : goal.returns-in_err-strip_prefix
returns-in_err-strip_prefix c =
    let read = after_letter c.args.letter c.args.text.now c.strip_prefix.result
    (strip_prefix_char c.args.letter c.args.text.now c.strip_prefix.result c.strip_prefix.ensures.cases c.requires) in
    search rules

pub returns : goal.returns
returns c =
    let read = after_letter c.args.letter c.args.text.now c.strip_prefix.result
    (strip_prefix_char c.args.letter c.args.text.now c.strip_prefix.result c.strip_prefix.ensures.cases c.requires) in
    let number = number_of c.in_ok-strip_prefix.field-0.now c.parse.result c.parse.ensures.value in
    search rules
