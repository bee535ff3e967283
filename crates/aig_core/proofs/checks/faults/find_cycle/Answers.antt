use Rattle.std.proofs.Common.{◌≡◌, ◌∙◌, ◌*◌, ◌≤◌, ap, sym, subst, Some, get_or, inr, List, option_map}
use Rattle.std.proofs.lemmas.List.{get_or_default}
use Rattle.aig_circuit.specs.declared.circuit.Gate.{Gate}
use Rattle.aig_circuit.specs.declared.circuit.TheConstants.{LARGEST}
use Rattle.aig_core.specs.Fault.{cyclic}
use Rattle.aig_topo.specs.Order.{first_cyclic}
use Rattle.aig_topo.proofs.Ordering.Ranked.{no_gate, at}
use Rattle.aig_topo.proofs.Ordering.Cyclic.{cyclic_there, cyclic_nowhere_there, in_bounds}
use Rattle.aig_core.proofs.checks.faults.find_cycle.Goals as goal

pub own_literal-requires : goal.own_literal-requires
own_literal-requires c =
    let gates : List Gate = c.args.circuit.now.gates in
    let found = cyclic_there gates c.in-Some.gate (sym c.in_ok-found.ensures.first ∙ c.in-Some.is) in
    let read : c.index-as_slice-gate.result ≡ at gates c.in-Some.gate = c.index-as_slice-gate.is
    ∙ ap (λ gs. get_or gs c.in-Some.gate c.index-as_slice-gate.result) c.as_slice.ensures
    ∙ get_or_default gates c.in-Some.gate c.index-as_slice-gate.result no_gate found.0 in
    subst (λ (g : Gate). g.var ≤ LARGEST) (sym read) (in_bounds c.args.circuit.now c.requires c.in-Some.gate found.0)

pub returns-in-Some : goal.returns-in-Some
returns-in-Some c =
    let gates : List Gate = c.args.circuit.now.gates in
    let found = cyclic_there gates c.in-Some.gate (sym c.in_ok-found.ensures.first ∙ c.in-Some.is) in
    let read : c.index-as_slice-gate.result ≡ at gates c.in-Some.gate = c.index-as_slice-gate.is
    ∙ ap (λ gs. get_or gs c.in-Some.gate c.index-as_slice-gate.result) c.as_slice.ensures
    ∙ get_or_default gates c.in-Some.gate c.index-as_slice-gate.result no_gate found.0 in
    let first : Some c.own_literal.result ≡ first_cyclic gates =
    ap Some (c.own_literal.ensures ∙ ap (λ (g : Gate). 2 * g.var) read) ∙ sym found.1 in
    record {
      ok = tt;
      err = inr (ap (option_map cyclic) (sym first) ∙ ap Some (sym c.cyclic.ensures));
      few = c.in_ok-found.ensures.few;
    }

pub returns-in-None : goal.returns-in-None
returns-in-None c = record {
  ok = cyclic_nowhere_there c.args.circuit.now.gates (sym c.in_ok-found.ensures.first ∙ c.in-None.is);
  err = tt;
  few = c.in_ok-found.ensures.few;
}
