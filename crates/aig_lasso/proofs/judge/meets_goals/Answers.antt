use Rattle.std.proofs.Common.{◌≡◌, ◌++◌, ◌∙◌, Bool, List, ap, arith, drop, false, length, replicate, take, ℕ}
use Rattle.std.proofs.Math.Seq.{take-append_seam}
use Rattle.aig_circuit.specs.declared.circuit.Circuit.{Circuit}
use Rattle.aig_lasso.specs.Parts.Searching.{are_noted, notes_after}
use Rattle.aig_lasso.proofs.Steps.{as_many_goals}
use Rattle.aig_lasso.proofs.judge.meets_goals.Goals as goal

pub returns : goal.returns
returns c = λ k rows stands low.
    let s = c.args.stepper.now in
    let loop = drop c.args.start rows in
    let items = c.in_ok-notes.notes.items in
    let notes = c.note_goals.new.notes in
    let behind = drop (length notes) items in
    let len : c.in_ok-notes.notes.len ≡ length notes =
    omega (arith, c.deref_mut.ensures.len, c.note_goals.auto.notes) in
    let back : c.deref.result.now ≡ notes =
    c.deref.ensures.value ∙ ap (λ (n : ℕ). take n (notes ++ behind)) len ∙ take-append_seam notes behind in
    let goals : c.len-goals.result ≡ length k.bad =
    c.len-goals.ensures ∙ ap length c.parts.ensures.bad ∙ ap (λ (d : Circuit). length d.bad) c.machine.ensures
    ∙ as_many_goals k s c.args.run.now rows c.args.start stands low in
    let begun : c.deref_mut.result.now ≡ replicate (length k.bad) false =
    c.deref_mut.ensures.value ∙ c.in_ok-notes.ensures.items_if_clones_equal (λ y is. is)
    ∙ ap (λ (n : ℕ). replicate n false) goals in
    c.are_noted-meets.ensures
    ∙ ap are_noted (back ∙ c.note_goals.ensures k rows stands ∙ ap (λ (ns : List Bool). notes_after ns loop) begun)
