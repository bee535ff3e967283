use Rattle.std.proofs.Common.{◌≡◌, ◌∷◌, ◌∙◌, rules, length, suc, sym, pred, ap}
use Rattle.aig_rows.specs.Rows.{Form}
use Rattle.aig_rows.proofs.Kept.Checks.{no_row, row_wrong, row_right, are_bounded, kept_long}
use Rattle.aig_rows.proofs.row.row_numbers.Goals as goal

pub returns-in_default-clause-row : goal.returns-in_default-clause-row
returns-in_default-clause-row g c = search (rules, no_row)

pub returns-in-Some-row_fault-clause-row : goal.returns-in-Some-row_fault-clause-row
returns-in-Some-row_fault-clause-row g c =
    rw (← c.form.view_is) (
    row_wrong _ c.args.bound c.args.carried g.row.N c.args.line.text.now c.args.line.ended c.form.invariant.0
    c.form.invariant.1 c.requires.bound c.requires.carried
    (c.in-Some.found.0 ∷ c.in-Some.found.1) c.in-Some-row_fault.kind c.in-Some.ensures
    (sym c.in-Some-row_fault.ensures))

pub returns-in-None-clause-row : goal.returns-in-None-clause-row
returns-in-None-clause-row g c =
    rw (← c.form.view_is) (
    row_right _ c.args.bound c.args.carried g.row.N c.args.line.text.now c.args.line.ended c.form.invariant.0
    c.form.invariant.1 c.requires.bound c.requires.carried
    (c.in-Some.found.0 ∷ c.in-Some.found.1) c.in-Some.ensures (sym c.in-None.ensures))

pub returns-in-None-clause-bounded : goal.returns-in-None-clause-bounded
returns-in-None-clause-bounded g c =
    let long : length (c.in-Some.found.0 ∷ c.in-Some.found.1) ≡ suc g.row.N =
    search (rules, kept_long, c.in-Some.found.0 ∷ c.in-Some.found.1) in
    let form : Form =
    record { first = c.form.inside.first; others = c.form.inside.others; least = c.form.inside.least } in
    rw (← c.form.view_is)
    (are_bounded form c.args.bound c.args.carried c.in-Some.found.0 c.in-Some.found.1
    (ap pred long ∙ sym c.form.invariant.1) (sym c.in-None.ensures))
