use Rattle.std.proofs.Common.{◌≡◌, ◌+◌, ◌*◌, ◌<◌, ◌≤◌, ◌∙◌, ap, arith, inl, inr, length, map, List, ⊎_elim}
use Rattle.std.proofs.lemmas.Bool.{lt-ltb, ltb-true}
use Rattle.aig_circuit.specs.declared.circuit.Latch.{Latch}
use Rattle.aig_circuit.specs.declared.circuit.TheConstants.{LARGEST}
use Rattle.aig_unroll.specs.Unrolled.{all_inputs, frame_size, uninitialised}
use Rattle.aig_unroll.proofs.unrolling.is_too_large.Goals as goal

pub returns-then-largest-uninitialised : goal.returns-then-largest-uninitialised
returns-then-largest-uninitialised c =
    let circuit = c.args.circuit.now in
    let frames = c.args.frames in
    let count = c.count_uninitialised-uninitialised.ensures.count
    ∙ ap (λ (ls : List Latch). uninitialised (map (λ (l : Latch). l.reset) ls)) c.as_slice.ensures in
    let inputs : frames * c.len-4.result ≡ frames * length circuit.inputs = ap (λ n. frames * n) c.len-4.ensures in
    let size : c.len.result + c.len-2.result + c.len-3.result ≡ frame_size circuit =
    omega (arith, c.len.ensures, c.len-2.ensures, c.len-3.ensures) in
    let gates = ap (λ n. frames * n) size in
    let large : LARGEST < all_inputs circuit frames + frames * frame_size circuit =
    omega (arith, count, inputs, gates, c.if-largest-uninitialised.true) in
    (λ _. inl large, λ _. lt-ltb _ _ c.if-largest-uninitialised.true)

pub returns-else-largest-uninitialised : goal.returns-else-largest-uninitialised
returns-else-largest-uninitialised c =
    let circuit = c.args.circuit.now in
    let frames = c.args.frames in
    let count = c.count_uninitialised-uninitialised.ensures.count
    ∙ ap (λ (ls : List Latch). uninitialised (map (λ (l : Latch). l.reset) ls)) c.as_slice.ensures in
    let inputs : frames * c.len-4.result ≡ frames * length circuit.inputs = ap (λ n. frames * n) c.len-4.ensures in
    let size : c.len.result + c.len-2.result + c.len-3.result ≡ frame_size circuit =
    omega (arith, c.len.ensures, c.len-2.ensures, c.len-3.ensures) in
    let gates = ap (λ n. frames * n) size in
    let small : all_inputs circuit frames + frames * frame_size circuit ≤ LARGEST =
    omega (arith, count, inputs, gates, c.if-largest-uninitialised.false) in
    let outputs = ap (λ n. frames * n) c.len-else-largest-uninitialised.ensures in (
      λ yes. inr (inl (omega (arith, ltb-true LARGEST _ yes, outputs))),
      ⊎_elim (λ (h : LARGEST < all_inputs circuit frames + frames * frame_size circuit).
          absurd (omega (arith, h, small)))
          (⊎_elim (λ (h : LARGEST < frames * length circuit.outputs). lt-ltb LARGEST _ (omega (arith, h, outputs)))
          (λ (h : LARGEST < frames * length circuit.bad). absurd (omega (arith, h, small)))),
    )
