use Rattle.aig_lines.proofs.Cutting.{pieces}
use Rattle.aig_lines.proofs.laws.lines_are_the_pieces.Goals as goal

pub returns : goal.returns
returns c = pieces
