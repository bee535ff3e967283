use Rattle.std.proofs.Common.{◌≡◌, ◌∙◌, rules, ap, arith, nat_cmp, refl, sym, take, take_all}
use Rattle.std.specs.FinMap.{get, get-empty}
use Rattle.aig_topo.specs.Order.{gate_of}
use Rattle.aig_topo.proofs.Ordering.Trees.{gate_of_more}
use Rattle.aig_topo.proofs.Ordering.Index.{once_more}
use Rattle.aig_tables.proofs.Tables.Maps.{get-with_new, no_keys}
use Rattle.aig_topo.proofs.index.GateIndex.of_near.Goals as goal

pub loop-position-init : goal.loop-position-init
loop-position-init c = record {
  positions = λ v. ap (λ m. get m v) c.in_ok-positions.ensures ∙ get-empty nat_cmp v;
  once = (λ _. tt, λ _. refl);
  same = no_keys c.in_ok-positions.positions c.in_ok-positions.ensures ∙ sym c.in_ok-seen.ensures;
}

pub loop-position-preserved : goal.loop-position-preserved
loop-position-preserved c = record {
  positions = search (rules, get-with_new, gate_of_more);
  once = once_more c.as_slice-gates.result.now c.loop-position.position c.index-gates-position.result
      c.loop-position.positions c.loop-position.is_once c.in_ok-is_once.field-0 c.loop-position-test.true
      c.loop-position.invariant.once c.loop-position.invariant.positions c.in_ok-is_once.ensures.added;
  same = c.in_ok-is_once.ensures.same;
}

pub returns : goal.returns
returns c =
    let whole : take c.loop-position.position c.as_slice-gates.result.now ≡ c.args.circuit.now.gates =
    take_all _ _ (omega arith) ∙ c.as_slice-gates.ensures in
    record {
      positions = λ v. c.loop-position.invariant.positions v ∙ ap (λ gs. gate_of gs v) whole;
      once = rw whole at c.loop-position.invariant.once;
    }
