use Rattle.std.proofs.Common.{◌≡◌, ◌+◌, ◌∙◌, [], flat_map, ap, subst, sym, List, ℕ}
use Rattle.std.specs.List.{range_with_len}
use Rattle.aig_io.specs.Output.{Appended}
use Rattle.aig_io.proofs.Puts.{put_nothing}
use Rattle.aig_unroll.specs.Parts.Frames.{Frame}
use Rattle.aig_unroll.proofs.Written.{frame_more, none_in_any}
use Rattle.aig_unroll.proofs.writing.put_section.Goals as goal

pub returns-then-is_empty-clause-put : goal.returns-then-is_empty-clause-put
returns-then-is_empty-clause-put g c =
    let f : Frame = c.args.copies.now in
    let none = none_in_any (g.S.FrameSection.at f.circuit f.frames) (c.is_empty.ensures c.if-is_empty.true)
    (range_with_len 0 f.frames) in
    let text : [] ≡ flat_map g.S.FrameSection.text
    (flat_map (g.S.FrameSection.at f.circuit f.frames) (range_with_len 0 f.frames)) =
    sym (ap (flat_map g.S.FrameSection.text) none) in
    subst (λ (bytes : List ℕ). Appended c.args.output.now c.args.output.now bytes) text (put_nothing c.args.output.now)

pub loop-frame-preserved : goal.loop-frame-preserved
loop-frame-preserved g c =
    let loop = c.loop-frame in
    let done = c.put_frame_section.ensures in
    record {
      kept = done.kept
          ∙ ap (λ (k : Frame). record k { frame = c.put_frame_section.new.copies.frame }) loop.invariant.kept;
      behind = λ good _. ap (λ n. n + 1) (sym (done.here good));
      put = frame_more g.S.FrameSection.at g.S.FrameSection.text c.args.copies.now _ loop.frame _ _ _
          loop.invariant.kept loop.invariant.put done.put;
    }
