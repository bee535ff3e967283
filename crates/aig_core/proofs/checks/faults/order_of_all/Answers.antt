use Rattle.std.proofs.Common.{◌≡◌, ◌<◌, ◌∙◌, ◌*◌, ◌≤◌, ap, sym, subst, Some, get_or, inr, List, length, arith}
use Rattle.std.specs.Option.{option_map}
use Rattle.std.proofs.lemmas.List.{get_or_default}
use Rattle.aig_circuit.specs.declared.circuit.Gate.{Gate}
use Rattle.aig_circuit.specs.declared.circuit.TheConstants.{LARGEST}
use Rattle.aig_core.specs.Fault.{cyclic}
use Rattle.aig_topo.specs.Order.{first_cyclic}
use Rattle.aig_topo.proofs.Ordering.Ranked.{no_gate, at}
use Rattle.aig_topo.proofs.Ordering.Cyclic.{cyclic_where, none_cyclic, in_bounds}
use Rattle.aig_core.proofs.checks.faults.order_of_all.Goals as goal

pub own_literal-requires : goal.own_literal-requires
own_literal-requires c =
    let gates : List Gate = c.args.circuit.now.gates in
    let there : c.in-Some.gate < length gates =
    omega (arith, c.in-Some.ensures.there, c.in_ok-order.ensures.as_many) in
    let read : c.index-as_slice-gate.result ≡ at gates c.in-Some.gate = c.index-as_slice-gate.is
    ∙ ap (λ gs. get_or gs c.in-Some.gate c.index-as_slice-gate.result) c.as_slice.ensures
    ∙ get_or_default gates c.in-Some.gate c.index-as_slice-gate.result no_gate there in
    subst (λ (g : Gate). g.var ≤ LARGEST) (sym read)
    (in_bounds c.args.circuit.now c.requires.in_form c.in-Some.gate there)

pub returns-in-Some : goal.returns-in-Some
returns-in-Some c =
    let gates : List Gate = c.args.circuit.now.gates in
    let there : c.in-Some.gate < length gates =
    omega (arith, c.in-Some.ensures.there, c.in_ok-order.ensures.as_many) in
    let read : c.index-as_slice-gate.result ≡ at gates c.in-Some.gate = c.index-as_slice-gate.is
    ∙ ap (λ gs. get_or gs c.in-Some.gate c.index-as_slice-gate.result) c.as_slice.ensures
    ∙ get_or_default gates c.in-Some.gate c.index-as_slice-gate.result no_gate there in
    let found : first_cyclic gates ≡ Some (2 * (at gates c.in-Some.gate).var) =
    cyclic_where gates c.in_ok-order.order.list c.in_ok-order.ensures.least.full c.in_ok-order.ensures.least.in_turn
    c.in-Some.gate there c.in-Some.ensures.left c.in-Some.ensures.first in
    let first : Some c.own_literal.result ≡ first_cyclic gates =
    ap Some (c.own_literal.ensures ∙ ap (λ (g : Gate). 2 * g.var) read) ∙ sym found in
    record {
      ok = tt;
      least = tt;
      err = inr (ap (option_map cyclic) (sym first) ∙ ap Some (sym c.cyclic.ensures));
      few = c.in_ok-order.ensures.few;
    }

pub returns-in-None : goal.returns-in-None
returns-in-None c = record {
  ok = none_cyclic c.args.circuit.now.gates c.in_ok-order.order.list c.in_ok-order.ensures.least.full
      c.in_ok-order.ensures.least.in_turn
      (λ i there. c.in-None.ensures.none i (omega (arith, there, c.in_ok-order.ensures.as_many)));
  least = c.in_ok-order.ensures.least;
  err = tt;
  few = c.in_ok-order.ensures.few;
}
