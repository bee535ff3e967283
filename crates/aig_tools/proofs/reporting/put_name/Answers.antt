use Rattle.aig_io.proofs.Puts.{put_twice}
use Rattle.aig_tools.proofs.reporting.put_name.Goals as goal

pub returns : goal.returns
returns g c =
    put_twice _ _ _ _ _ (rw (c.as_bytes.ensures.value, c.name_or_dash.ensures) at c.put.ensures.put)
    c.put-2.ensures.put
