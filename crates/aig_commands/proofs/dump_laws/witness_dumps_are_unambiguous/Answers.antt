use Rattle.aig_commands.proofs.WitnessDumps.{one_witness_dump}
use Rattle.aig_commands.proofs.dump_laws.witness_dumps_are_unambiguous.Goals as goal

pub returns : goal.returns
returns c = one_witness_dump
