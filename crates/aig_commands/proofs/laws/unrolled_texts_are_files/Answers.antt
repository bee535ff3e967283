use Rattle.aig_commands.proofs.Unrollings.{unrolled_texts_are_files}
use Rattle.aig_commands.proofs.laws.unrolled_texts_are_files.Goals as goal

pub returns : goal.returns
returns c = unrolled_texts_are_files
