use Rattle.std.proofs.Common.{◌≡◌, ◌+◌, ◌*◌, ◌<◌, ◌∙◌, ℕ, List, ap, arith, length, refl, subst₂, take}
use Rattle.std.specs.List.{flat_map, range_with_len}
use Rattle.std.proofs.lemmas.List.{length-map}
use Rattle.std.proofs.lemmas.List.FromFn.{length-map-range_with_len}
use Rattle.aig_circuit.specs.declared.circuit.Circuit.{Circuit}
use Rattle.aig_circuit.specs.Literal.{literal_of}
use Rattle.aig_unroll.specs.Unrolled.{at, bad_at, first_bad, frame_size, gates_at, outputs_at}
use Rattle.aig_unroll.specs.Parts.Frames.{Frame, IsPutAt}
use Rattle.aig_unroll.proofs.Ordering.Frames.{frame_length, row_end, frame_put}
use Rattle.aig_unroll.proofs.unrolling.put_frames.Goals as goal

-- how many there are in a frame
module _ (c : Circuit) (frames t : ℕ) where
  outputs_length : length (outputs_at c frames t) ≡ length c.outputs
  outputs_length = length-map c.outputs (at c frames t)

  bad_length : length (bad_at c frames t) ≡ length c.bad
  bad_length = length-map-range_with_len literal_of (first_bad c frames t) (length c.bad)

-- before frame 0 nothing is written
first_put : {X : Type 0} (f : ℕ → List X) (width : ℕ) (before after : List X) → IsPutAt f width 0 before after
    → length (f 0) ≡ width → take ((0 + 1) * width) after ≡ flat_map f (range_with_len 0 (0 + 1))
first_put f width before after put size =
    let none : 0 * width ≡ 0 = omega arith in
    frame_put f width 0 before after put size (omega arith) (ap (λ n. take n before) none)

pub loop-frame-init : goal.loop-frame-init
loop-frame-init c =
    let circuit = c.args.copies.circuit in
    let frames = c.args.copies.frames in
    let put = c.place_frame.ensures in
    record {
      at = omega (arith, c.requires.first);
      circuit = refl;
      frames = refl;
      outputs = first_put (outputs_at circuit frames) (length circuit.outputs) c.args.outputs.now _ put.outputs
          (outputs_length circuit frames 0);
      bad = first_put (bad_at circuit frames) (length circuit.bad) c.args.bad.now _ put.bad
          (bad_length circuit frames 0);
      gates = first_put (gates_at circuit frames) (frame_size circuit) c.args.gates.now _ put.gates
          (frame_length circuit frames 0);
    }

pub loop-frame-preserved : goal.loop-frame-preserved
loop-frame-preserved c =
    let circuit = c.args.copies.circuit in
    let frames = c.args.copies.frames in
    let loop = c.loop-frame in
    let put = c.place_frame-in-loop-frame in
    let t = loop.frame in
    let same : c.enter_next.new.self.circuit ≡ circuit =
    ap (λ (k : Frame). k.circuit) c.enter_next.ensures ∙ loop.invariant.circuit in
    let as_many : c.enter_next.new.self.frames ≡ frames =
    ap (λ (k : Frame). k.frames) c.enter_next.ensures ∙ loop.invariant.frames in
    let here : c.enter_next.new.self.frame ≡ t = ap (λ (k : Frame). k.frame) c.enter_next.ensures ∙ loop.invariant.at in
    let within : t < frames = omega (arith, c.loop-frame-test.true, c.frames-frame-end.ensures.value) in
    record {
      at = ap (λ n. n + 1) here;
      circuit = same;
      frames = as_many;
      outputs =
          let width = length circuit.outputs in
          frame_put (outputs_at circuit frames) width t loop.outputs put.new.outputs
          (subst₂ (λ (k : Circuit) n. IsPutAt (outputs_at k n) (length k.outputs) t loop.outputs put.new.outputs) same
          as_many put.ensures.outputs)
          (outputs_length circuit frames t)
          (omega (arith, loop.auto.outputs, c.requires.outputs, row_end width t frames within)) loop.invariant.outputs;
      bad =
          let width = length circuit.bad in
          frame_put (bad_at circuit frames) width t loop.bad put.new.bad
          (subst₂ (λ (k : Circuit) n. IsPutAt (bad_at k n) (length k.bad) t loop.bad put.new.bad) same
          as_many put.ensures.bad)
          (bad_length circuit frames t)
          (omega (arith, loop.auto.bad, c.requires.bad, row_end width t frames within)) loop.invariant.bad;
      gates =
          let width = frame_size circuit in
          frame_put (gates_at circuit frames) width t loop.gates put.new.gates
          (subst₂ (λ (k : Circuit) n. IsPutAt (gates_at k n) (frame_size k) t loop.gates put.new.gates) same
          as_many put.ensures.gates)
          (frame_length circuit frames t)
          (omega (arith, loop.auto.gates, c.requires.gates, row_end width t frames within)) loop.invariant.gates;
    }
