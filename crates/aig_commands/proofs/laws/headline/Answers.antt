use Rattle.std.proofs.Common.{rules}
use Rattle.aig_commands.proofs.Traces.{traces_are_kept}
use Rattle.aig_commands.proofs.Trips.{through_ascii, through_binary}
use Rattle.aig_commands.proofs.laws.headline.Goals as goal

pub returns : goal.returns
returns c = search (rules, through_binary, through_ascii, traces_are_kept)
