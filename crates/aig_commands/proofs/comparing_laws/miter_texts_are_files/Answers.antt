use Rattle.aig_commands.proofs.Compared.{miter_texts_are_files}
use Rattle.aig_commands.proofs.comparing_laws.miter_texts_are_files.Goals as goal

pub returns : goal.returns
returns c = miter_texts_are_files
