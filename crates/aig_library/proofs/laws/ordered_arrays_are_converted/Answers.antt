use Rattle.aig_library.proofs.ArrayTrips.{ordered_are_converted}
use Rattle.aig_library.proofs.laws.ordered_arrays_are_converted.Goals as goal

pub returns : goal.returns
returns c = ordered_are_converted
