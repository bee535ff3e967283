use Rattle.aig_trace_laws.proofs.Texts.{one_trace_text}
use Rattle.aig_trace_laws.proofs.laws.one_trace_text.Goals as goal

pub returns : goal.returns
returns c = one_trace_text
