use Rattle.std.proofs.Common.{◌∙◌, ap, ap₂, map, rules}
use Rattle.aig_unroll.specs.Unrolled.{outputs_at}
use Rattle.aig_unroll.specs.Parts.Frames.{Frame}
use Rattle.aig_unroll.specs.Parts.Substitution.{substituted}
use Rattle.aig_unroll.proofs.InFrame.{outputs_have_room, stands_at}
use Rattle.aig_unroll.proofs.frames.Frames.put_outputs.Goals as goal

pub put_literals-requires-clause-below : goal.put_literals-requires-clause-below
put_literals-requires-clause-below c = search (rules, outputs_have_room)

pub returns : goal.returns
returns c =
    let f = c.self.inside in
    let is = c.self.invariant in
    c.put_literals.ensures
    ∙ ap₂ map
    (ap (λ xs. substituted xs f.first_gate) c.as_slice-substitution.ensures.value
    ∙ stands_at f.circuit f.frames f.frame f.first_gate f.substitution.items is.gate_is is.substitution_is)
    c.as_slice.ensures
    ∙ ap (λ (k : Frame). outputs_at k.circuit k.frames k.frame) c.self.view_is
