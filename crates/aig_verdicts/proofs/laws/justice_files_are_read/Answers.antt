use Rattle.aig_verdicts.proofs.Files.{justice_files_are_read}
use Rattle.aig_verdicts.proofs.laws.justice_files_are_read.Goals as goal

pub returns : goal.returns
returns c = justice_files_are_read
