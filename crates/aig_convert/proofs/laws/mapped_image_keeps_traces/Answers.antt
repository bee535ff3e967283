use Rattle.aig_convert.proofs.Meaning.{mapped_image_keeps_traces}
use Rattle.aig_convert.proofs.laws.mapped_image_keeps_traces.Goals as goal

pub returns : goal.returns
returns c = mapped_image_keeps_traces
