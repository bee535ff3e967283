use Rattle.aig_text.proofs.Grammar.Text.{reading_is_accepted, accepted_is_read}
use Rattle.aig_text.proofs.laws.read_exactly.Goals as goal

pub returns : goal.returns
returns c = λ text limit net. (reading_is_accepted limit text net, accepted_is_read limit text net)
