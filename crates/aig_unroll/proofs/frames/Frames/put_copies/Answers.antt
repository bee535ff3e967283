use Rattle.std.proofs.Common.{◌≡◌, ◌+◌, ◌-◌, ◌≤◌, ◌∙◌, ℕ, List, ap, ap₂, arith, drop, length, subst, sym, take, All}
use Rattle.std.proofs.Common.{length-drop, length-take-le}
use Rattle.std.proofs.lemmas.List.Elements.{All-drop, All-take}
use Rattle.aig_circuit.specs.declared.circuit.Gate.{Gate}
use Rattle.aig_binary.specs.BinaryText.{HasDeltas}
use Rattle.aig_unroll.specs.Unrolled.{at, copied, first_gate, gates_at}
use Rattle.aig_unroll.specs.Parts.Frames.{Frame, table_at}
use Rattle.aig_unroll.specs.Parts.Substitution.{GateHasRoom}
use Rattle.aig_unroll.proofs.InFrame.{gates_fit, gates_have_room, stands_at}
use Rattle.aig_unroll.proofs.Ordering.Frames.{piece_stands}
use Rattle.aig_unroll.proofs.Written.{frame_has_deltas}
use Rattle.aig_unroll.proofs.frames.Frames.put_copies.Goals as goal

pub put_copies-requires-clause-below : goal.put_copies-requires-clause-below
put_copies-requires-clause-below c =
    let f = c.self.inside in
    let is = c.self.invariant in
    let has : Gate → Type 0 =
    GateHasRoom (length (table_at f.circuit f.frames f.frame)) (first_gate f.circuit f.frames f.frame) in
    rw (c.as_slice-substitution.ensures.value, is.substitution_is, is.gate_is, c.as_slice.ensures)
    (All-take has (c.args.at + length c.args.out.now - c.args.at) (drop c.args.at f.circuit.gates)
    (All-drop has c.args.at f.circuit.gates
    (gates_have_room f.circuit f.frames f.frame is.formed is.ordered is.fits is.within)))

pub put_copies-requires-clause-small : goal.put_copies-requires-clause-small
put_copies-requires-clause-small c =
    let f = c.self.inside in
    let is = c.self.invariant in
    let room = gates_fit f.circuit f.frames f.frame is.formed is.ordered is.fits is.within in
    let within = subst (λ (k : Frame). c.args.at + length c.args.out.now ≤ length k.circuit.gates)
    (sym c.self.view_is) c.requires in
    let piece = drop c.args.at f.circuit.gates in
    let size = length-drop c.args.at f.circuit.gates in
    let taken = length-take-le (c.args.at + length c.args.out.now - c.args.at) piece (omega (arith, within, size)) in
    rw (c.as_slice.ensures) (omega (arith, room, within, is.gate_is, size, taken))

pub returns-clause-gates : goal.returns-clause-gates
returns-clause-gates c =
    let f = c.self.inside in
    let is = c.self.invariant in
    let count = length c.args.out.now in
    let stands = stands_at f.circuit f.frames f.frame f.first_gate c.as_slice-substitution.result.now is.gate_is
    (c.as_slice-substitution.ensures.value ∙ is.substitution_is) in
    let within = subst (λ (k : Frame). c.args.at + count ≤ length k.circuit.gates) (sym c.self.view_is) c.requires in
    let wide : c.args.at + count - c.args.at ≡ count = omega arith in
    let piece = take (c.args.at + count - c.args.at) (drop c.args.at c.as_slice.result.now) in
    c.put_copies.ensures
    ∙ ap₂ (λ (g : ℕ → ℕ) n. copied g (n + c.args.at) piece) stands is.gate_is
    ∙ ap₂ (λ n (gates : List Gate). copied (at f.circuit f.frames f.frame)
    (first_gate f.circuit f.frames f.frame + c.args.at) (take n (drop c.args.at gates))) wide c.as_slice.ensures
    ∙ piece_stands f.circuit f.frames f.frame c.args.at count within
    ∙ ap (λ (k : Frame). take count (drop c.args.at (gates_at k.circuit k.frames k.frame))) c.self.view_is

pub returns-clause-deltas : goal.returns-clause-deltas
returns-clause-deltas c =
    let f = c.self.inside in
    let is = c.self.invariant in
    let some : List Gate → List Gate = λ gates. take (length c.args.out.now) (drop c.args.at gates) in
    let gates = gates_at f.circuit f.frames f.frame in
    subst (λ (gates : List Gate). All HasDeltas gates)
    (ap (λ (k : Frame). some (gates_at k.circuit k.frames k.frame)) c.self.view_is ∙ sym (returns-clause-gates c))
    (All-take HasDeltas (length c.args.out.now) (drop c.args.at gates)
    (All-drop HasDeltas c.args.at gates
    (frame_has_deltas f.circuit f.frames is.formed is.ordered is.fits f.frame is.within)))
