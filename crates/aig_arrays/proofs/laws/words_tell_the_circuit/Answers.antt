use Rattle.aig_arrays.proofs.Grammar.Tells.{is_decoded}
use Rattle.aig_arrays.proofs.laws.words_tell_the_circuit.Goals as goal

pub returns : goal.returns
returns c = λ d good _. is_decoded d good
