use Rattle.aig_wave.proofs.Retold.{dumps_tell_their_ends}
use Rattle.aig_wave.proofs.laws.dumps_tell_their_ends.Goals as goal

pub returns : goal.returns
returns c = dumps_tell_their_ends
