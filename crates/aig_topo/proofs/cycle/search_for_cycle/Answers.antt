use Rattle.std.proofs.Common.{◌≡◌, length, ap, arith}
use Rattle.aig_topo.specs.Cycle.{needs_in}
use Rattle.aig_topo.proofs.Ordering.DepthFirst.{few_steps, two_steps_each, long_pairs, first_is, none_is}
use Rattle.aig_topo.proofs.cycle.search_for_cycle.Goals as goal

pub returns-then-branch-clause-first : goal.returns-then-branch-clause-first
returns-then-branch-clause-first c =
    let now = c.loop-gate.search in
    first_is c.args.circuit.now.gates now.operands.items c.loop-gate.invariant.operands now.states.items now.way.items
    c.loop-gate.invariant.search.searching c.loop-gate.gate
    (omega (arith, c.loop-gate-test.true, c.len-gate-end.ensures))
    c.loop-gate.invariant.done (c.in_ok-leads_to_cycle.ensures.cyclic c.if-branch.true)

pub returns-then-branch-clause-few : goal.returns-then-branch-clause-few
returns-then-branch-clause-few c =
    let now = c.loop-gate.search in
    let after = c.leads_to_cycle.new.self in
    let long = long_pairs c.args.circuit.now.gates now.operands.items c.loop-gate.invariant.operands in
    let same : length after.operands.items ≡ length now.operands.items =
    ap length c.in_ok-leads_to_cycle.ensures.operands in
    omega (
      arith,
      long,
      same,
      c.loop-gate.invariant.steps,
      c.in_ok-leads_to_cycle.ensures.steps,
      few_steps (length after.operands.items) (needs_in after.operands.items)
          after.states.items after.way.items c.in_ok-leads_to_cycle.ensures.search.searching,
    )

pub returns-clause-first : goal.returns-clause-first
returns-clause-first c =
    let now = c.loop-gate.search in
    none_is c.args.circuit.now.gates now.operands.items c.loop-gate.invariant.operands now.states.items now.way.items
    c.loop-gate.invariant.search.searching
    (λ k l. c.loop-gate.invariant.done k (omega (arith, l, c.loop-gate-test.false, c.len-gate-end.ensures)))

pub returns-clause-few : goal.returns-clause-few
returns-clause-few c =
    let now = c.loop-gate.search in
    let long = long_pairs c.args.circuit.now.gates now.operands.items c.loop-gate.invariant.operands in
    omega (
      arith,
      long,
      c.loop-gate.invariant.steps,
      few_steps (length now.operands.items) (needs_in now.operands.items) now.states.items
          now.way.items c.loop-gate.invariant.search.searching,
    )

pub returns-clause-each : goal.returns-clause-each
returns-clause-each c = λ _.
    let now = c.loop-gate.search in
    let long = long_pairs c.args.circuit.now.gates now.operands.items c.loop-gate.invariant.operands in
    let all = two_steps_each (length now.operands.items) (needs_in now.operands.items) now.states.items now.way.items
    c.loop-gate.invariant.search.searching
    (λ k l. c.loop-gate.invariant.done k (omega (arith, l, long, c.loop-gate-test.false, c.len-gate-end.ensures))) in
    omega (arith, long, c.loop-gate.invariant.steps, all)
