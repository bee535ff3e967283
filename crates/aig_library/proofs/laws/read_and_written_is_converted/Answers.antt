use Rattle.aig_library.proofs.ArrayTrips.{read_and_written}
use Rattle.aig_library.proofs.laws.read_and_written_is_converted.Goals as goal

pub returns : goal.returns
returns c = read_and_written
