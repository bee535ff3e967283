use Rattle.aig_io.proofs.Puts.{put_twice}
use Rattle.aig_tools.proofs.reporting.put_why.Goals as goal

pub returns-in-Some-Some : goal.returns-in-Some-Some
returns-in-Some-Some g c =
    rw (c.in-Some-Some.is-0, c.in-Some-Some.is-1)
    (put_twice _ _ _ _ _ c.put.ensures.put
    (rw (c.as_bytes.ensures.value, c.words.ensures) at c.put-in-Some-Some.ensures.put))
