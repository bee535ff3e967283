use Rattle.aig_commands.proofs.Provings.{invariant_texts_are_unambiguous}
use Rattle.aig_commands.proofs.laws.invariant_texts_are_unambiguous.Goals as goal

pub returns : goal.returns
returns c = invariant_texts_are_unambiguous
