use Rattle.std.proofs.Common.{◌≡◌, ◌∙◌, Some, ap, inr, sym, rules, true}
use Rattle.std.specs.Option.{option_map, option_or}
use Rattle.aig_core.specs.Fault.{cyclic, undefined}
use Rattle.aig_topo.specs.Order.{first_cyclic}
use Rattle.aig_core.specs.Parts.Indexed.{is_right_outside}
use Rattle.aig_core.proofs.Checking.Indexed.{left_to_gates}
use Rattle.aig_core.proofs.checks.faults.far_needs.Goals as goal

pub returns-in-Some : goal.returns-in-Some
returns-in-Some c =
    let circuit = c.args.circuit.now in
    let right : is_right_outside c.in_ok-before.before c.in_ok-index.index circuit ≡ true = search rules in
    let left = left_to_gates c.in_ok-before.before c.in_ok-index.index circuit c.in_ok-index.ensures
    c.in_ok-before.ensures.variables c.in_ok-before.ensures.ok right in
    let unknown = sym c.first_unknown_operand.ensures ∙ c.in-Some.is in
    record {
      needs = tt;
      resolved = tt;
      ok = tt;
      err = inr (
          left ∙ ap (λ o. option_or (option_map undefined o) (option_map cyclic (first_cyclic circuit.gates))) unknown
          ∙ ap Some (sym c.undefined.ensures));
    }

pub returns-clause-ok : goal.returns-clause-ok
returns-clause-ok c =
    let circuit = c.args.circuit.now in
    let right : is_right_outside c.in_ok-before.before c.in_ok-index.index circuit ≡ true = search rules in
    let left = left_to_gates c.in_ok-before.before c.in_ok-index.index circuit c.in_ok-index.ensures
    c.in_ok-before.ensures.variables c.in_ok-before.ensures.ok right in
    let known = sym c.first_unknown_operand.ensures ∙ c.in-None.is in
    left ∙ ap (λ o. option_or (option_map undefined o) (option_map cyclic (first_cyclic circuit.gates))) known
