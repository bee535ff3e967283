use Rattle.std.proofs.Common.{arith, subst, sym}
use Rattle.aig_topo.specs.Order.{IsLeastReadyOrder}
use Rattle.aig_image.proofs.Imaging.InTurn.{order_once}
use Rattle.aig_arrays.proofs.Numbering.{order_below, order_fits}
use Rattle.aig_arrays.proofs.numbered.numbers_by_order.Goals as goal

pub gate_numbers-requires-clause-few : goal.gate_numbers-requires-clause-few
gate_numbers-requires-clause-few c =
    let least =
    subst (IsLeastReadyOrder c.args.checked.now) (sym c.list.ensures) (rw c.in-Some.is at c.order.ensures) in
    omega (
      arith,
      rw c.circuit.ensures.value at c.count_before_gates.ensures,
      order_fits c.args.checked.now c.list.result.now c.circuit.ensures.well_formed least,
    )

pub gate_numbers-requires-clause-once : goal.gate_numbers-requires-clause-once
gate_numbers-requires-clause-once c =
    order_once c.args.checked.now c.list.result.now c.circuit.ensures.well_formed
    (subst (IsLeastReadyOrder c.args.checked.now) (sym c.list.ensures) (rw c.in-Some.is at c.order.ensures))

pub gate_numbers-requires-clause-there : goal.gate_numbers-requires-clause-there
gate_numbers-requires-clause-there c =
    order_below c.args.checked.now c.list.result.now c.circuit.ensures.well_formed
    (subst (IsLeastReadyOrder c.args.checked.now) (sym c.list.ensures) (rw c.in-Some.is at c.order.ensures))
