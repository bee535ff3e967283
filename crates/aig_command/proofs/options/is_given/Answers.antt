use Rattle.std.proofs.Common.{◌∙◌}
use Rattle.aig_command.proofs.Within.{given}
use Rattle.aig_command.proofs.options.is_given.Goals as goal

pub returns : goal.returns
returns c = c.is_some.ensures ∙ given c.args.matches.now c.args.name.now c.get_str.result c.get_str.ensures
