use Rattle.aig_witness.proofs.WitnessTexts.{witness_files_are_read}
use Rattle.aig_witness.proofs.laws.witness_files_are_read.Goals as goal

pub returns : goal.returns
returns c = witness_files_are_read
