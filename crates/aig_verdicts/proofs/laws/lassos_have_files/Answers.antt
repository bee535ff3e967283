use Rattle.aig_verdicts.proofs.Files.{lassos_have_files}
use Rattle.aig_verdicts.proofs.laws.lassos_have_files.Goals as goal

pub returns : goal.returns
returns c = lassos_have_files
