use Rattle.std.proofs.Common.{◌≡◌, subst}
use Rattle.aig_cuts.specs.Cuts.{choice_clauses}
use Rattle.aig_refute.specs.Refuted.{GainsAll}
use Rattle.aig_refute.proofs.Gained.{gains_first, gains_none}
use Rattle.aig_refute_cuts.proofs.clauses.add_choice.Goals as goal

pub returns : goal.returns
returns c =
    let first = rw (c.negated.ensures, c.negated-2.ensures, c.negated-3.ensures) at c.in_ok-add_three.ensures in
    let second = rw c.negated-4.ensures at c.in_ok-add_three-2.ensures in
    let third = rw (c.negated-5.ensures, c.negated-6.ensures) at c.in_ok-add_three-3.ensures in
    let is : c.variable.inside.0 ≡ c.args.variable = c.variable.view_is in
    subst (λ v. GainsAll (choice_clauses v c.args.multiplexer) c.args.checker.now c.add_three-4.new.checker) is
    (gains_first _ _ c.args.checker.now _ _ first
    (gains_first _ _ _ _ _ second (gains_first _ _ _ _ _ third
    (gains_first _ _ _ _ _ c.in_ok-add_three-4.ensures (gains_none _)))))
