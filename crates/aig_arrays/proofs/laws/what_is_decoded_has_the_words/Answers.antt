use Rattle.aig_arrays.proofs.Grammar.Decoded.{decoded_has_words}
use Rattle.aig_arrays.proofs.laws.what_is_decoded_has_the_words.Goals as goal

pub returns : goal.returns
returns c = decoded_has_words
