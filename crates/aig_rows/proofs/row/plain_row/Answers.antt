use Rattle.aig_rows.proofs.Canonical.{shorter, plain_row_is}
use Rattle.std.proofs.Common.{◌≡◌, ◌∷◌, ◌∙◌, rules, None, refl, sym, subst}
use Rattle.aig_rows.specs.Rows.{Form}
use Rattle.aig_rows.specs.Reading.{fault_in_row}
use Rattle.aig_rows.proofs.Kept.Checks.{are_bounded}
use Rattle.aig_rows.proofs.row.plain_row.Goals as goal

pub returns-clause-row : goal.returns-clause-row
returns-clause-row g c = search (rules, plain_row_is)

pub returns-clause-shorter : goal.returns-clause-shorter
returns-clause-shorter g c =
    shorter c.form.inside.least c.args.bytes.now (c.in_ok-first.behind ∷ c.in_ok-first.rest.now) c.in-Some.found.1.now
    c.in-Some.found.0 c.in_ok-first.first c.in_ok-first.ensures c.in-Some.ensures.are

pub returns-clause-bounded : goal.returns-clause-bounded
returns-clause-bounded g c =
    let form : Form =
    record { first = c.form.inside.first; others = c.form.inside.others; least = c.form.inside.least } in
    let right =
    subst (λ (f : Form). fault_in_row f c.args.bound c.args.carried (c.in_ok-first.first ∷ c.in-Some.found.0) ≡ None)
    (sym c.form.view_is) (c.if-not-is_right_row.ensures refl) in
    rw (← c.form.view_is)
    (are_bounded form c.args.bound c.args.carried c.in_ok-first.first c.in-Some.found.0
    (c.in-Some.ensures.long ∙ sym c.form.invariant.1) right)
