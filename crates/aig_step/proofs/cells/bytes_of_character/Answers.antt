use Rattle.aig_step.proofs.Running.Cells.{stands_for}
use Rattle.aig_step.proofs.cells.bytes_of_character.Goals as goal

pub returns : goal.returns
returns c = stands_for c.args.character c.if-place-character.false
