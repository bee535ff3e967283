use Rattle.aig_library.proofs.OrderedArrays.{ordered_arrays_can_be_stepped}
use Rattle.aig_library.proofs.laws.ordered_arrays_can_be_stepped.Goals as goal

pub returns : goal.returns
returns c = ordered_arrays_can_be_stepped
