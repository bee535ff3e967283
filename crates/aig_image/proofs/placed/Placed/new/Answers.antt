use Rattle.std.proofs.Common.{◌<◌, sym, subst, arith}
use Rattle.std.specs.List.{AllByRecursion}
use Rattle.aig_circuit.proofs.Checking.{definitions_fit}
use Rattle.aig_meaning.proofs.Related.{distinct_front}
use Rattle.aig_topo.proofs.Ordering.Ranked.{variables}
use Rattle.aig_image.specs.Parts.Numbers.{first_variables}
use Rattle.aig_image.proofs.Imaging.InTurn.{all_taken, order_once, order_there}
use Rattle.aig_image.proofs.placed.Placed.new.Goals as goal

pub of_first_alone-requires : goal.of_first_alone-requires
of_first_alone-requires c =
    let circuit = c.args.circuit.now in
    record {
      few = omega (arith, definitions_fit circuit c.requires.good, c.requires.good.limits.max_var);
      once = distinct_front (first_variables circuit) (variables circuit.gates) c.requires.good.once;
    }

pub gate_numbers-requires-clause-few : goal.gate_numbers-requires-clause-few
gate_numbers-requires-clause-few c =
    omega (
      arith,
      definitions_fit c.args.circuit.now c.requires.good,
      c.requires.good.limits.max_var,
      all_taken c.args.circuit.now c.args.order.now c.requires.good c.requires.least,
      c.count.ensures,
      c.in_ok-first.ensures.count,
    )

pub gate_numbers-requires-clause-once : goal.gate_numbers-requires-clause-once
gate_numbers-requires-clause-once c =
    order_once c.args.circuit.now c.args.order.now c.requires.good c.requires.least

pub gate_numbers-requires-clause-there : goal.gate_numbers-requires-clause-there
gate_numbers-requires-clause-there c =
    let circuit = c.args.circuit.now in
    let order = c.args.order.now in
    subst (λ n. AllByRecursion (λ at. at < n) order)
    (sym (all_taken circuit order c.requires.good c.requires.least))
    (order_there circuit order c.requires.good c.requires.least)
