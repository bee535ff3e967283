use Rattle.aig_arrays.proofs.Numbering.{numbers_are_the_maps}
use Rattle.aig_arrays.proofs.laws.numbers_are_the_maps.Goals as goal

pub returns : goal.returns
returns c = numbers_are_the_maps
