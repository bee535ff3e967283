use Rattle.aig_commands.proofs.Simplified.{simplified_texts_are_files}
use Rattle.aig_commands.proofs.laws.simplified_texts_are_files.Goals as goal

pub returns : goal.returns
returns c = simplified_texts_are_files
