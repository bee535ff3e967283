use Rattle.std.proofs.Common.{◌<◌, [], ap, arith, length, length-drop}
use Rattle.aig_io.specs.Output.{Out}
use Rattle.aig_io.proofs.Puts.{left_behind, put_filled, put_nothing, put_rest, put_twice}
use Rattle.aig_io.proofs.output.Output.put_past.Goals as goal

pub returns-clause-put : goal.returns-clause-put
returns-clause-put g c =
    put_rest _ _ _ _ _ (put_filled _ _ _ _ _ c.self.view_is (put_nothing _) c.fill-count.ensures.value)
    (put_twice _ _ _ [] _ c.send_held.ensures.put (rw c.split_at.ensures.back at c.put_long.ensures.put))

pub returns-clause-left : goal.returns-clause-left
returns-clause-left g c =
    let held = ap (λ (o : Out _). length o.held) c.self.view_is in
    let some : c.fill-count.result < length c.args.bytes.now = omega (arith, held, c.fill-count.ensures.count) in
    let left = rw (c.split_at.ensures.back, length-drop) at c.put_long.ensures.left in
    rw (← c.self.view_is)
    (left_behind _ _ _ _ c.fill-count.ensures.short c.fill-count.ensures.count some (left (omega arith)))
