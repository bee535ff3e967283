use Rattle.std.proofs.Common.{rules}
use Rattle.aig_io.proofs.Runs.{read_none}
use Rattle.aig_batch.proofs.collected.collect.Goals as goal

pub returns-in_err-feeder-clause-err : goal.returns-in_err-feeder-clause-err
returns-in_err-feeder-clause-err g c = search (rules, read_none)
