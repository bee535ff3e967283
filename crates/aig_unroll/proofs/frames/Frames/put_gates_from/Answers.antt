use Rattle.std.proofs.Common.{◌∙◌, List, ap, drop, length-append, rules, subst, sym, All, length-drop, length-take}
use Rattle.std.proofs.lemmas.List.Elements.{All-drop}
use Rattle.aig_circuit.specs.declared.circuit.Gate.{Gate}
use Rattle.aig_binary.specs.BinaryText.{HasDeltas}
use Rattle.aig_unroll.specs.Unrolled.{gates_at}
use Rattle.aig_unroll.specs.Parts.Frames.{Frame}
use Rattle.aig_unroll.proofs.Ordering.Frames.{joined_there, two_put}
use Rattle.aig_unroll.proofs.Written.{frame_has_deltas}
use Rattle.aig_unroll.proofs.frames.Frames.put_gates_from.Goals as goal

pub returns-clause-gates : goal.returns-clause-gates
returns-clause-gates c = search (rules, length-take, length-drop, length-append, two_put, joined_there)

pub returns-clause-deltas : goal.returns-clause-deltas
returns-clause-deltas c =
    let f = c.self.inside in
    let is = c.self.invariant in
    subst (λ (gates : List Gate). All HasDeltas gates)
    (ap (λ (k : Frame). drop c.args.at (gates_at k.circuit k.frames k.frame)) c.self.view_is
    ∙ sym (returns-clause-gates c))
    (All-drop HasDeltas c.args.at (gates_at f.circuit f.frames f.frame)
    (frame_has_deltas f.circuit f.frames is.formed is.ordered is.fits f.frame is.within))
