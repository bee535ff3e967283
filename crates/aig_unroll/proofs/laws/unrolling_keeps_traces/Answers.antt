use Rattle.aig_unroll.proofs.Traces.Whole.{unrolling_keeps_traces}
use Rattle.aig_unroll.proofs.laws.unrolling_keeps_traces.Goals as goal

pub returns : goal.returns
returns c = unrolling_keeps_traces
