use Rattle.aig_binary.proofs.Grammar.Read.{one_circuit, accepted_is_read}
use Rattle.aig_binary.proofs.laws.binary_texts_are_unambiguous.Goals as goal

pub returns : goal.returns
returns c = λ text limit d e p q. one_circuit limit text e d (accepted_is_read text limit d p) q
