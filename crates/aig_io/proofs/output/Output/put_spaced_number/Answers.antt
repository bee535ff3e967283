use Rattle.aig_io.proofs.Puts.{put_twice}
use Rattle.aig_io.proofs.output.Output.put_spaced_number.Goals as goal

pub returns-clause-put : goal.returns-clause-put
returns-clause-put g c = put_twice _ _ _ _ _ c.put.ensures.put c.put_number.ensures.put
