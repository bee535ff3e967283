use Rattle.std.proofs.Common.{◌∙◌}
use Rattle.aig_command.proofs.Answered.{after_name}
use Rattle.aig_command.proofs.reader.asks_for.Goals as goal

pub returns-in-len1-up : goal.returns-in-len1-up
returns-in-len1-up c = c.any_option.ensures ∙ after_name c.args.long.now c.args.short.now c.args.words.now
