use Rattle.aig_trace_laws.proofs.Texts.{same_meaning_same_text}
use Rattle.aig_trace_laws.proofs.laws.same_meaning_same_text.Goals as goal

pub returns : goal.returns
returns c = same_meaning_same_text
