use Rattle.std.proofs.Common.{◌∙◌, ◌≡◌, List, ap, subst, ℕ}
use Rattle.aig_circuit.specs.declared.circuit.Circuit.{Circuit}
use Rattle.aig_io.specs.Output.{Appended}
use Rattle.aig_io.proofs.Puts.{put_twice}
use Rattle.aig_text.specs.AsciiText.{ascii_text}
use Rattle.aig_unroll.specs.Unrolled.{unrolled}
use Rattle.aig_unroll.specs.Parts.Frames.{Frame}
use Rattle.aig_unroll.specs.Parts.Writing.{gate_lines, literal_lines}
use Rattle.aig_unroll.proofs.Written.{ascii_parts, same_circuit}
use Rattle.aig_unroll.proofs.unroller.Unrolling.put_ascii.Goals as goal

pub returns : goal.returns
returns g c =
    let f : Frame = c.self.inside.copies in
    let of : Frame → Circuit = λ k. unrolled k.circuit k.frames in
    let behind : Frame = c.put_section.new.copies in
    let once : of behind ≡ of f = same_circuit f behind c.put_section.ensures.kept in
    let twice = same_circuit behind c.put_section-2.new.copies c.put_section-2.ensures.kept ∙ once in
    let bad =
    subst (λ (d : Circuit). Appended c.put_section.new.output c.put_section-2.new.output (literal_lines d.bad)) once
    c.put_section-2.ensures.put in
    let gates =
    subst (λ (d : Circuit). Appended c.put_section-2.new.output c.put_section-3.new.output (gate_lines d.gates)) twice
    c.put_section-3.ensures.put in
    subst (λ (text : List ℕ). Appended c.args.output.now c.put_section-3.new.output text)
    (ascii_parts f.circuit f.frames ∙ ap ascii_text c.self.view_is)
    (put_twice _ _ _ _ _ (rw c.header_numbers.ensures at c.put_header.ensures)
    (put_twice _ _ _ _ _ (rw c.count_inputs.ensures at c.put_inputs.ensures)
    (put_twice _ _ _ _ _ c.put_section.ensures.put (put_twice _ _ _ _ _ bad gates))))
