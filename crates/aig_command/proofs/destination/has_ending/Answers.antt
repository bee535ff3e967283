use Rattle.std.proofs.lemmas.Str.Pattern.{ends_text}
use Rattle.aig_command.proofs.destination.has_ending.Goals as goal

pub returns : goal.returns
returns c = ends_text _ c.args.ending.now c.args.name.now c.ends_with.ensures.cases
