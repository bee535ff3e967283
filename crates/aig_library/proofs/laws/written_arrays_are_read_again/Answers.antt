use Rattle.aig_library.proofs.ArrayTrips.{read_again}
use Rattle.aig_library.proofs.laws.written_arrays_are_read_again.Goals as goal

pub returns : goal.returns
returns c = read_again
