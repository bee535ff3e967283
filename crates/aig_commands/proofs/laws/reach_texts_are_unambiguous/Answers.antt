use Rattle.aig_commands.proofs.Reachings.{reach_texts_are_unambiguous}
use Rattle.aig_commands.proofs.laws.reach_texts_are_unambiguous.Goals as goal

pub returns : goal.returns
returns c = reach_texts_are_unambiguous
