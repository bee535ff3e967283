use Rattle.std.proofs.Common.{◌∙◌, codes, rules}
use Rattle.clap.specs.Words.{found_of}
use Rattle.clap.proofs.WalkLemmas.{first_value-rows}
use Rattle.aig_command.proofs.to_dot.cone.Goals as goal

pub returns-in_err-get_str : goal.returns-in_err-get_str
returns-in_err-get_str c =
    let first = c.get_str.ensures ∙ first_value-rows (found_of c.args.matches.now) (codes "cone") in
    search rules

pub returns : goal.returns
returns c =
    let first = c.get_str.ensures ∙ first_value-rows (found_of c.args.matches.now) (codes "cone") in
    search rules
