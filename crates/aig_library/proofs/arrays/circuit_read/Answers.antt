use Rattle.aig_library.proofs.ReadFiles.{file_stops}
use Rattle.aig_library.proofs.arrays.circuit_read.Goals as goal

pub returns-clause-err : goal.returns-clause-err
returns-clause-err c = file_stops c.args.max_var c.args.input.now c.read_file.result c.read_file.ensures.fault
