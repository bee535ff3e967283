use Rattle.aig_binary.proofs.Grammar.Accepted.{reading_is_accepted}
use Rattle.aig_binary.proofs.Grammar.Read.{accepted_is_read}
use Rattle.aig_binary.proofs.laws.binary_read_exactly.Goals as goal

pub returns : goal.returns
returns c = λ text limit net. (reading_is_accepted limit text net, accepted_is_read text limit net)
