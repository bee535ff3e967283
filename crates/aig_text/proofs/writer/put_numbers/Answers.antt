use Rattle.aig_io.proofs.Puts.{put_twice}
use Rattle.aig_text.proofs.Written.{more_text}
use Rattle.aig_text.proofs.writer.put_numbers.Goals as goal

pub returns-then-others-le-FEW : goal.returns-then-others-le-FEW
returns-then-others-le-FEW g c = rw (← more_text c.args.others.now) c.put_row.ensures.put

pub returns-else-others-le-FEW : goal.returns-else-others-le-FEW
returns-else-others-le-FEW g c = put_twice _ _ _ _ _ c.put_number.ensures.put c.put_more_numbers.ensures
