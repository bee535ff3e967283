use Rattle.aig_commands.proofs.Dumps.{dumps_tell_traces}
use Rattle.aig_commands.proofs.dump_laws.dumps_tell_traces.Goals as goal

pub returns : goal.returns
returns c = dumps_tell_traces
