use Rattle.aig_pairing.proofs.Formed.{lists_are_formed}
use Rattle.aig_pairing.proofs.order.order_by_names.Goals as goal

pub with_lists-requires-clause-formed : goal.with_lists-requires-clause-formed
with_lists-requires-clause-formed c =
    lists_are_formed c.args.first.now c.args.second c.in-Ok.lists c.circuit.ensures.well_formed
    c.circuit-2.ensures.well_formed c.requires
    (rw (c.circuit.ensures.value, c.circuit-2.ensures.value) at c.in-Ok.ensures.right)
    (rw (c.circuit.ensures.value, c.circuit-2.ensures.value) at c.in-Ok.ensures.lists)
