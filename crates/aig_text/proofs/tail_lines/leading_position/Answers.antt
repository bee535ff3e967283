use Rattle.aig_text.proofs.Kept.{position_read}
use Rattle.aig_text.proofs.tail_lines.leading_position.Goals as goal

pub returns-in-Some : goal.returns-in-Some
returns-in-Some c =
    position_read c.args.text.now c.in-Some.name.now c.in-Some.position c.if-position-lt-FAR.true c.in-Some.ensures
