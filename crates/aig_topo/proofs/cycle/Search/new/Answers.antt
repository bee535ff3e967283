use Rattle.std.proofs.Common.{◌≡◌, ◌∙◌, ◌+◌, ap, ap₂, sym, subst, replicate, length, [], rules, sum}
use Rattle.std.proofs.Math.ListN.{set as put}
use Rattle.aig_topo.specs.Cycle.{needs_in, IsSearching}
use Rattle.aig_topo.proofs.Ordering.DepthFirst.{all_within, begins, no_steps}
use Rattle.aig_topo.proofs.cycle.Search.new.Goals as goal

pub returns-clause-search : goal.returns-clause-search
returns-clause-search c =
    let pairs = c.in_ok-operands.operands.items in
    let count = c.len-count.result in
    let count_is : count ≡ length pairs = search rules in
    let states = ap₂ (λ ss n. put ss n 2) (c.in_ok-states.ensures.items_if_clones_equal (λ y e. e)
    ∙ ap (λ n. replicate (n + 1) 0) count_is) count_is in
    record {
      within = all_within c.args.circuit.now.gates pairs c.in_ok-operands.ensures;
      searching =
          rw c.in_ok-with_capacity.ensures.items
          (subst (λ ss. IsSearching (length pairs) (needs_in pairs) ss []) (sym states)
          (begins (length pairs) (needs_in pairs)));
    }

pub returns-clause-states : goal.returns-clause-states
returns-clause-states c =
    let count = c.len-count.result in
    ap (λ ss. sum (put ss count 2)) (c.in_ok-states.ensures.items_if_clones_equal (λ y e. e)) ∙ no_steps count (λ _. [])
