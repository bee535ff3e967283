use Rattle.std.specs.Prelude.{◌≡◌, ◌+◌, ◌<◌, false}
use Rattle.std.specs.List.{flat_map, range_with_len}
use Rattle.aig_io.specs.Output.{Appended}
use Rattle.aig_unroll.proofs.writing.put_section.Given as goal

abbrev pub invariant-loop-frame : goal.invariant-loop-frame
invariant-loop-frame g l = record {
  kept : l.copies ≡ record l.fn.copies { frame = l.copies.frame };
  behind : l.output.failed ≡ false → 0 < l.frame → l.frame ≡ l.copies.frame + 1;
  put : Appended l.fn.output l.output (flat_map g.S.FrameSection.text
      (flat_map (g.S.FrameSection.at l.fn.copies.circuit l.fn.copies.frames) (range_with_len 0 l.frame)));
}
