use Rattle.aig_convert.proofs.Meaning.{undone_keeps_traces}
use Rattle.aig_convert.proofs.laws.undone_keeps_traces.Goals as goal

pub returns : goal.returns
returns c = undone_keeps_traces
