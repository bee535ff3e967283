use Rattle.aig_replay.proofs.WitnessText.{witness_texts_say}
use Rattle.aig_replay.proofs.laws.witness_texts_say.Goals as goal

pub returns : goal.returns
returns c = witness_texts_say
