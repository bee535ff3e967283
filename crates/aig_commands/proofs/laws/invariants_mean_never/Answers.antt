use Rattle.aig_commands.proofs.Provings.{never_is_never}
use Rattle.aig_commands.proofs.laws.invariants_mean_never.Goals as goal

pub returns : goal.returns
returns c = never_is_never
