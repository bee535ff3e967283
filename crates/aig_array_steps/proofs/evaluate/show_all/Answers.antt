use Rattle.std.proofs.Common.{◌+◌, ◌≤◌, All, List, ap, arith, subst, sym, ℕ}
use Rattle.aig_circuit.specs.declared.circuit.Latch.{Latch}
use Rattle.aig_array_steps.specs.Parts.Words.{SectionWords, highest_literal, latches_in}
use Rattle.aig_array_steps.proofs.Threes.{nexts_low}
use Rattle.aig_array_steps.proofs.evaluate.show_all.Goals as goal

pub show_next-requires-clause-below : goal.show_next-requires-clause-below
show_next-requires-clause-below c k d below =
    let n = c.args.counts.now in
    let latches = ap (λ (t : SectionWords). t.latches) c.sections.view_is in
    let low = subst (λ (ws : List ℕ). All (λ (l : Latch). l.next ≤ highest_literal n) (latches_in ws)) (sym latches)
    (nexts_low (highest_literal n) (1 + n.inputs) c.args.sections.now.latches c.requires.ordered.defined.latches) in
    omega (arith, low k d below, c.requires.whole)
