use Rattle.std.proofs.Common.{◌≡◌, ◌≤◌, ◌<◌, ◌+◌, ◌*◌, ◌∙◌, rules, [], ap, sym, subst, List, ℕ, length, map, get_or}
use Rattle.std.proofs.Common.{None, arith, sum}
use Rattle.aig_circuit.specs.declared.circuit.Circuit.{Circuit}
use Rattle.aig_topo.specs.declared.lists.Lists.{Lists}
use Rattle.aig_topo.specs.declared.operands.Needs.{Needs}
use Rattle.aig_topo.specs.Order.{gate_operands, left_over, TakesLeast, IsFull, IsLeastReadyOrder}
use Rattle.aig_topo.specs.Lists.{needs_in}
use Rattle.aig_topo.specs.Needs.{needs_of, needs_at, how_many}
use Rattle.aig_topo.specs.Progress.{Progress, due}
use Rattle.aig_topo.specs.Waiting.{Stands}
use Rattle.aig_topo.proofs.Ordering.Counted.{sum_few}
use Rattle.aig_topo.proofs.Ordering.Ranked.{as_long, same_needs, in_turn_too, full_too, counts_are, as_many_counts}
use Rattle.aig_topo.proofs.Ordering.Ranked.{at_most_two, total, steps_are}
use Rattle.aig_topo.proofs.Ordering.LeastReady.{no_longer}
use Rattle.aig_topo.proofs.Ordering.Waiting.{search_of, stands_at_first}
use Rattle.aig_topo.proofs.least_ready.order_by_needs.Goals as goal

pub waiting_for-requires-clause-at_most_two : goal.waiting_for-requires-clause-at_most_two
waiting_for-requires-clause-at_most_two c = search (rules, at_most_two)

pub look_at_all-requires : goal.look_at_all-requires
look_at_all-requires c =
    let lists : Lists = c.args.needs.lists in (
      c.in_ok-ready.ensures.empty,
      subst (λ (p : Progress). Stands (needs_in lists.rows.items) None (search_of p lists c.in_ok-ready.ready 0))
          (sym c.in_ok-order.ensures.begun)
          (stands_at_first c.args.circuit.now.gates c.args.needs c.in_ok-ready.ready c.requires.few c.requires.needs
          c.in_ok-ready.ensures.empty (omega (arith, c.in_ok-ready.ensures.room, c.len.ensures))),
    )

-- an order of gates by what they need is one of a circuit's gates
module _ (c : Circuit) (lists : Lists) (counts : List ℕ) (order : Progress)
    (needs_are : needs_in lists.rows.items ≡ map (needs_of c.gates) c.gates)
    (are : counts ≡ map how_many (needs_in lists.rows.items)) where
  long : length (needs_in lists.rows.items) ≡ length c.gates
  long = as_long c.gates (needs_in lists.rows.items) needs_are

  same : (u : ℕ) → needs_at (needs_in lists.rows.items) u ≡ gate_operands c.gates u
  same = same_needs c.gates (needs_in lists.rows.items) needs_are

  pub least : TakesLeast (length (needs_in lists.rows.items)) (needs_at (needs_in lists.rows.items)) [] order.list
      → IsFull (length (needs_in lists.rows.items)) (needs_at (needs_in lists.rows.items)) order.list
      → IsLeastReadyOrder c order.list
  least in_turn full =
      let all : List Needs = needs_in lists.rows.items in record {
        in_turn = in_turn_too (length c.gates) (needs_at all) (gate_operands c.gates) same [] order.list
            (subst (λ n. TakesLeast n (needs_at all) [] order.list) long in_turn);
        full = full_too (length c.gates) (needs_at all) (gate_operands c.gates) same order.list
            (subst (λ n. IsFull n (needs_at all) order.list) long full);
      }

  pub waits : ((u : ℕ) → u < length (needs_in lists.rows.items)
      → get_or order.waiting u 0 ≡ left_over order.list (needs_at (needs_in lists.rows.items) u))
      → (u : ℕ) → u < length c.gates → get_or order.waiting u 0 ≡ left_over order.list (gate_operands c.gates u)
  waits each u below = each u (omega (arith, below, long)) ∙ ap (left_over order.list) (same u)

  module _ (paid : due order ≡ length order.list + sum (map how_many (needs_in lists.rows.items))) where
    pub in_all : due order ≡ length order.list + total c.gates
    in_all =
        paid ∙ ap (λ ns. length order.list + sum ns)
        (sym are ∙ counts_are c.gates lists.rows.items counts needs_are are)

    pub few : IsLeastReadyOrder c order.list → order.steps ≤ 3 * length c.gates
    few least =
        let all_few = sum_few counts (at_most_two c.gates lists.rows.items counts needs_are are) in
        let as_many = as_many_counts c.gates lists.rows.items counts needs_are are in
        omega (
          arith,
          paid,
          ap sum are,
          all_few,
          as_many,
          no_longer (length c.gates) (gate_operands c.gates) order.list least.in_turn,
        )

pub returns-clause-least : goal.returns-clause-least
returns-clause-least c =
    let made = c.requires.needs in
    let e = c.look_at_all.ensures in
    least c.args.circuit.now c.args.needs.lists c.args.needs.counts.items c.look_at_all.new.self.order made.needs
    made.counts e.in_turn e.full

pub returns-clause-as_many : goal.returns-clause-as_many
returns-clause-as_many c =
    c.look_at_all.ensures.as_many
    ∙ as_long c.args.circuit.now.gates (needs_in c.args.needs.lists.rows.items) c.requires.needs.needs

pub returns-clause-waiting : goal.returns-clause-waiting
returns-clause-waiting c =
    let made = c.requires.needs in
    waits c.args.circuit.now c.args.needs.lists c.args.needs.counts.items c.look_at_all.new.self.order made.needs
    made.counts c.look_at_all.ensures.waiting

pub returns-clause-steps : goal.returns-clause-steps
returns-clause-steps c =
    let made = c.requires.needs in
    let order : Progress = c.look_at_all.new.self.order in
    steps_are c.args.circuit.now order.list order.waiting order.steps (returns-clause-as_many c)
    (returns-clause-waiting c)
    (in_all c.args.circuit.now c.args.needs.lists c.args.needs.counts.items order made.needs made.counts
    c.look_at_all.ensures.paid)

pub returns-clause-counted : goal.returns-clause-counted
returns-clause-counted c =
    let made = c.requires.needs in
    let gates = c.args.circuit.now.gates in
    let lists : Lists = c.args.needs.lists in
    omega (
      arith,
      few c.args.circuit.now lists c.args.needs.counts.items c.look_at_all.new.self.order made.needs made.counts
          c.look_at_all.ensures.paid (returns-clause-least c),
      as_many_counts gates lists.rows.items c.args.needs.counts.items made.needs made.counts,
      c.in_ok-order.ensures.counted,
    )

pub returns-clause-few : goal.returns-clause-few
returns-clause-few c =
    let made = c.requires.needs in
    let lists : Lists = c.args.needs.lists in
    omega (
      arith,
      as_many_counts c.args.circuit.now.gates lists.rows.items c.args.needs.counts.items made.needs made.counts,
      c.in_ok-order.ensures.counted,
    )
