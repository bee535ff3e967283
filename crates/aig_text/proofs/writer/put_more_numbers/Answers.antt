use Rattle.aig_io.proofs.Puts.{put_twice}
use Rattle.aig_text.proofs.Written.{more_text}
use Rattle.aig_text.proofs.writer.put_more_numbers.Goals as goal

pub returns : goal.returns
returns g c = rw (← more_text c.args.numbers.now) (put_twice _ _ _ _ _ c.put_spaced_numbers.ensures c.put.ensures.put)
