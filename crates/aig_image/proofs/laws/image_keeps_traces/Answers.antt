use Rattle.aig_image.proofs.Meaning.{image_keeps_traces}
use Rattle.aig_image.proofs.laws.image_keeps_traces.Goals as goal

pub returns : goal.returns
returns c = image_keeps_traces
