use Rattle.aig_commands.proofs.Unrollings.{unrolled_texts_exist}
use Rattle.aig_commands.proofs.laws.unrolled_texts_exist.Goals as goal

pub returns : goal.returns
returns c = unrolled_texts_exist
