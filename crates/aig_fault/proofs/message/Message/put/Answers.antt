use Rattle.aig_io.proofs.Puts.{put_twice}
use Rattle.aig_fault.proofs.message.Message.put.Goals as goal

pub returns : goal.returns
returns g c =
    put_twice _ _ _ _ _ (rw c.as_bytes.ensures.value at c.put.ensures.put)
    (put_twice _ _ _ _ _ c.put_any_number.ensures (rw c.as_bytes-2.ensures.value at c.put-2.ensures.put))
