use Rattle.aig_trace_laws.proofs.Texts.{known_characters_stay}
use Rattle.aig_trace_laws.proofs.laws.known_characters_stay.Goals as goal

pub returns : goal.returns
returns c = known_characters_stay
