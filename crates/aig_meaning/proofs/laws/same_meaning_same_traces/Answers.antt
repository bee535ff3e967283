use Rattle.aig_meaning.proofs.Traces.{same_meaning_same_traces}
use Rattle.aig_meaning.proofs.laws.same_meaning_same_traces.Goals as goal

pub returns : goal.returns
returns c = same_meaning_same_traces
