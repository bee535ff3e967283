use Rattle.aig_image.proofs.Relabelling.Relabelled.{relabellings_compose}
use Rattle.aig_image.proofs.algebra.relabellings_compose.Goals as goal

pub returns : goal.returns
returns _ = relabellings_compose
