use Rattle.aig_verdicts.proofs.Plain.{plain_files_are_read_as_they_are}
use Rattle.aig_verdicts.proofs.laws.plain_files_are_read_as_they_are.Goals as goal

pub returns : goal.returns
returns c = plain_files_are_read_as_they_are
