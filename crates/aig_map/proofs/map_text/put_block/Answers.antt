use Rattle.aig_io.proofs.Puts.{put_twice}
use Rattle.aig_map.proofs.BlockText.{parts_text}
use Rattle.aig_map.proofs.map_text.put_block.Goals as goal

pub returns : goal.returns
returns g c =
    rw (← parts_text c.args.block.now, ← c.block.view_is)
    (put_twice _ _ _ _ _ (rw (← c.block.view_is) at c.put_first_line.ensures)
    (put_twice _ _ _ _ _ (rw c.as_slice.ensures.value at c.put_variables.ensures)
    (put_twice _ _ _ _ _ (rw c.as_slice-2.ensures.value at c.put_variables-2.ensures)
    (put_twice _ _ _ _ _
    (rw (c.as_slice-3.ensures.value, c.as_slice-4.ensures.value) at c.put_gates.ensures)
    c.put.ensures.put))))
