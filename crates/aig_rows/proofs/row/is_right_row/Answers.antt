use Rattle.aig_rows.specs.Reading.{fault_in_row}
use Rattle.std.proofs.Common.{◌≡◌, ◌∷◌, ◌∙◌, ◌≤◌, None, length, arith, sym, subst, add-one}
use Rattle.std.proofs.lemmas.Grind.{common_steps}
use Rattle.aig_rows.specs.Rows.{Form}
use Rattle.aig_rows.proofs.Kept.Checks.{next_right, none_left, first_right, right_row}
use Rattle.aig_rows.proofs.row.is_right_row.Goals as goal

pub loop-at-init : goal.loop-at-init
loop-at-init g c = λ all. all

pub loop-at-preserved : goal.loop-at-preserved
loop-at-preserved g c = grind (arith, common_steps, next_right, add-one)

pub returns : goal.returns
returns g c = λ _.
    let form : Form =
    record { first = c.form.inside.first; others = c.form.inside.others; least = c.form.inside.least } in
    let none : length c.form.inside.others ≤ c.loop-at.at =
    subst (λ n. n ≤ c.loop-at.at) (sym c.form.invariant.1) c.loop-at-test.false in
    let others = c.loop-at.invariant
    (none_left c.args.bound c.own_literal-own.result c.args.carried c.loop-at.at c.form.inside.others c.args.more.now
    none) in
    let own = c.own_literal-own.ensures in
    subst (λ (f : Form). fault_in_row f c.args.bound c.args.carried (c.args.first ∷ c.args.more.now) ≡ None)
    c.form.view_is (right_row form c.args.bound c.args.carried c.args.first c.args.more.now
    (first_right c.args.bound c.own_literal-own.result _ c.args.carried form.first c.args.first form.others
    c.args.more.now own (sym c.is_right.ensures ∙ c.if-not-is_right.false) others))
