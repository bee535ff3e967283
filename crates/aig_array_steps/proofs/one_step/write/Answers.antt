use Rattle.std.proofs.Common.{◌≡◌, ◌+◌, ◌++◌, ◌∙◌, List, ap, ap₂, subst, sym, ℕ}
use Rattle.aig_array_steps.specs.Step.{IsStepped}
use Rattle.aig_array_steps.specs.Parts.Values.{AreGiven, filled, shown_by}
use Rattle.aig_array_steps.specs.Parts.Words.{circuit_in}
use Rattle.aig_array_steps.proofs.BySection.{rejoined}
use Rattle.aig_array_steps.proofs.Values.{given_in_front, is_stepped}
use Rattle.aig_array_steps.proofs.one_step.write.Goals as goal

pub fill-requires-clause-given : goal.fill-requires-clause-given
fill-requires-clause-given c =
    given_in_front c.args.counts.now c.args.sections.now c.args.values.now c.split_at_mut-table.result.0.now
    c.requires.ordered c.split_at_mut-table.ensures.front c.requires.given

pub returns : goal.returns
returns c =
    let n = c.args.counts.now in
    let s = c.args.sections.now in
    let before = c.args.values.now in
    let front = c.split_at_mut-table.result.0.now in
    let back = c.split_at_mut-table.result.1.now in
    let split = c.split_at_mut-table.ensures in
    let given : AreGiven n front = given_in_front n s before front c.requires.ordered split.front c.requires.given in
    let is : c.fill.new.table ++ c.show_all.new.shown ≡ filled n s front ++ shown_by (filled n s front) s back =
    ap₂ (λ (xs ys : List ℕ). xs ++ ys) c.fill.ensures.table
    (c.show_all.ensures ∙ ap (λ (t : List ℕ). shown_by t s back) c.fill.ensures.table) in
    subst (λ (ts : List ℕ). IsStepped (circuit_in n s) ts (c.fill.new.table ++ c.show_all.new.shown))
    (sym (rejoined (1 + n.max_var) before front back split.front split.back))
    (subst (λ (ts : List ℕ). IsStepped (circuit_in n s) (front ++ back) ts) (sym is)
    (is_stepped n s front c.requires.long c.requires.ordered split.front_len given back))
