use Rattle.std.proofs.Common.{◌<◌, ◌≤◌, ℕ, length, rules, subst, sym}
use Rattle.std.specs.Prelude.{slice_index}
use Rattle.aig_circuit.specs.Literal.{negation_of}
use Rattle.aig_refute.proofs.Kept.{can_extend}
use Rattle.aig_refute.proofs.checker.Checker.extends.Goals as goal

pub returns-clause-extends : goal.returns-clause-extends
returns-clause-extends c = λ so a admits.
    let some : 0 < length c.args.clause.now = search rules in
    let is_new = c.is_new.ensures c.if-not-is_new.false in
    let base = c.in_ok-can_extend.ensures.preserves.base in
    let pivot : ℕ = slice_index c.args.clause.now 0 in
    can_extend c.args.clause.now c.can_make_true.new.self a some
    (subst (λ (b : ℕ). b ≤ pivot) (sym base) is_new.0) (subst (λ (b : ℕ). b ≤ negation_of pivot) (sym base) is_new.1)
    (c.in_ok-can_extend.ensures.preserves.admits a admits) (λ none. c.in_ok-can_extend.ensures.made so a admits none)
