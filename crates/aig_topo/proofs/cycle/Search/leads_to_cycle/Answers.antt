use Rattle.std.proofs.Common.{◌≡◌, ◌∙◌, ◌<◌, ◌≤◌, ◌+◌, ◌*◌, ap, rules, sym, subst, length, get_or, arith, sum}
use Rattle.std.proofs.lemmas.List.{get_or_default}
use Rattle.aig_topo.specs.Cycle.{needs_in}
use Rattle.aig_topo.proofs.Ordering.DepthFirst.{few, few_steps, last_met, met_below, trapped}
use Rattle.aig_topo.proofs.cycle.Search.leads_to_cycle.Goals as goal

pub open_operand-requires-clause-there : goal.open_operand-requires-clause-there
open_operand-requires-clause-there c =
    let now = c.loop-gate.self in
    let before = c.loop-gate.invariant.search.searching in
    met_below (length now.operands.items) (needs_in now.operands.items) now.states.items now.way.items before
    c.in-Some.gate (last_met (length now.operands.items) (needs_in now.operands.items) now.states.items now.way.items
    before c.in-Some.gate c.in-Some.ensures.some)

pub loop-gate-smaller-in_default-open_operand : goal.loop-gate-smaller-in_default-open_operand
loop-gate-smaller-in_default-open_operand c = search (rules, few)

pub loop-gate-smaller : goal.loop-gate-smaller
loop-gate-smaller c = search (rules, few)

pub returns-then-index-eq-MET-clause-cyclic : goal.returns-then-index-eq-MET-clause-cyclic
returns-then-index-eq-MET-clause-cyclic c = λ _ n.
    let now = c.loop-gate.self in
    let before = c.loop-gate.invariant.search.searching in
    let next = c.in-Some-open_operand.next in
    let there : next < length now.states.items =
    omega (arith, c.in-Some-open_operand.ensures.there, before.as_many) in
    let met = sym (c.index-in-Some.ensures ∙ get_or_default now.states.items next c.index-in-Some.result.now 0 there)
    ∙ c.if-index-eq-MET.true in
    let root = subst (λ g. get_or now.states.items g 0 ≡ 1) (c.loop-gate.invariant.first c.in-Some.ensures.some.some)
    (before.met 0 c.in-Some.ensures.some.some) in
    rw c.loop-gate.invariant.operands
    at (trapped (length now.operands.items) (needs_in now.operands.items) now.states.items now.way.items before
    c.in-Some.gate next c.in-Some.ensures.some c.in-Some-open_operand.ensures.needed met n c.args.root root)

pub returns-in_err-enter-clause-few : goal.returns-in_err-enter-clause-few
returns-in_err-enter-clause-few c =
    let now = c.args.self.now in
    let all : c.enter.new.steps.count + sum now.states.items
    ≤ c.args.steps.now.count + 2 * length now.operands.items + 2 =
    omega (
      arith,
      c.in_err-enter.ensures.no_step,
      few_steps (length now.operands.items) (needs_in now.operands.items) now.states.items now.way.items
          c.requires.search.searching,
    ) in search rules

pub returns-in_err-enter-2-clause-few : goal.returns-in_err-enter-2-clause-few
returns-in_err-enter-2-clause-few c =
    let first = c.args.self.now in
    let now = c.loop-gate.self in
    let all : c.enter-in-Some.new.steps.count + sum first.states.items
    ≤ c.args.steps.now.count + 2 * length first.operands.items + 2 =
    omega (
      arith,
      c.in_err-enter-2.ensures.no_step,
      c.loop-gate.invariant.steps,
      ap length c.loop-gate.invariant.operands,
      few_steps (length now.operands.items) (needs_in now.operands.items) now.states.items now.way.items
          c.loop-gate.invariant.search.searching,
    ) in search rules
