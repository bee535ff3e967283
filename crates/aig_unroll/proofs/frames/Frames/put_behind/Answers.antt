use Rattle.std.proofs.Common.{◌∙◌, ℕ, ap, ap₂, drop, length, sym, rules}
use Rattle.aig_unroll.specs.Unrolled.{at, chain_at, first_gate, gates_at}
use Rattle.aig_unroll.specs.Parts.Frames.{Frame, behind_by}
use Rattle.aig_unroll.proofs.InFrame.{bad_has_room, constraints_have_room, stands_at}
use Rattle.aig_unroll.proofs.Ordering.Frames.{behind_stands}
use Rattle.aig_unroll.proofs.frames.Frames.put_behind.Goals as goal

pub put_behind-requires-clause-constraints : goal.put_behind-requires-clause-constraints
put_behind-requires-clause-constraints c = search (rules, constraints_have_room)

pub put_behind-requires-clause-bad : goal.put_behind-requires-clause-bad
put_behind-requires-clause-bad c = search (rules, bad_has_room)

pub returns : goal.returns
returns c =
    let f = c.self.inside in
    let is = c.self.invariant in
    let substitution = c.as_slice-substitution.result.now in
    let stands = stands_at f.circuit f.frames f.frame f.first_gate substitution is.gate_is
    (c.as_slice-substitution.ensures.value ∙ is.substitution_is) in
    let chain = c.chain.ensures ∙ sym (ap (λ (k : Frame). chain_at k.circuit k.frames k.frame) c.self.view_is) in
    c.put_behind.ensures
    ∙ ap₂ (λ (g : ℕ → ℕ) n. behind_by g n c.chain.result f.circuit) stands is.gate_is
    ∙ ap (λ n. behind_by (at f.circuit f.frames f.frame) (first_gate f.circuit f.frames f.frame) n f.circuit) chain
    ∙ behind_stands f.circuit f.frames f.frame
    ∙ ap (λ (k : Frame). drop (length k.circuit.gates) (gates_at k.circuit k.frames k.frame)) c.self.view_is
