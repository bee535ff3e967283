use Rattle.std.proofs.Common.{◌↔◌, ◌+◌, IsTrue, List, ap, subst, ℕ}
use Rattle.aig_array_steps.specs.Parts.Words.{AreInThrees, AreLatchWords, SectionWords, highest_literal}
use Rattle.aig_array_steps.proofs.numbered.has_latches.Goals as goal

pub returns : goal.returns
returns c =
    let n = c.args.counts.now in
    let right = c.are_latches.result in
    let words = c.sections.inside.latches.now in
    subst (λ (ws : List ℕ). IsTrue right ↔ AreInThrees (AreLatchWords (highest_literal n)) (1 + n.inputs) ws)
    (ap (λ (t : SectionWords). t.latches) c.sections.view_is)
    (subst (λ (v : ℕ). IsTrue right ↔ AreInThrees (AreLatchWords (highest_literal n)) (1 + v) words) c.from.ensures
    (subst (λ (h : ℕ). IsTrue right ↔ AreInThrees (AreLatchWords h) (1 + c.from.result) words) c.highest.ensures
    c.are_latches.ensures))
