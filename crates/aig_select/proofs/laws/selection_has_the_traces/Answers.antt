use Rattle.aig_select.proofs.Traces.{selection_has_the_traces}
use Rattle.aig_select.proofs.laws.selection_has_the_traces.Goals as goal

pub returns : goal.returns
returns c = selection_has_the_traces
