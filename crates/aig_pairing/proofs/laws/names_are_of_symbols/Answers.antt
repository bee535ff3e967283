use Rattle.aig_pairing.proofs.OfSymbols.{names_are_of_symbols}
use Rattle.aig_pairing.proofs.laws.names_are_of_symbols.Goals as goal

pub returns : goal.returns
returns c = names_are_of_symbols
