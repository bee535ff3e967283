use Rattle.aig_step.proofs.StimulusTexts.{stimuli_are_read}
use Rattle.aig_step.proofs.laws.stimuli_are_read.Goals as goal

pub returns : goal.returns
returns c = stimuli_are_read
