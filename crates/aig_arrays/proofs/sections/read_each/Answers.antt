use Rattle.aig_arrays.specs.Decoded.{header_of}
use Rattle.aig_arrays.proofs.Whole.{no_more_sections, section_fails, sections_go_on}
use Rattle.aig_arrays.proofs.sections.read_each.Goals as goal

pub returns-in-Err : goal.returns-in-Err
returns-in-Err c =
    section_fails (header_of c.args.counts.now) c.args.sections.now c.loop-section.section-index c.loop-section.circuit
    c.loop-section.from _ c.loop-section.invariant.tells c.in-Err.fault c.loop-section-test.true c.in-Err.ensures.read

pub loop-section-preserved : goal.loop-section-preserved
loop-section-preserved c = record {
  tells =
      sections_go_on (header_of c.args.counts.now) c.args.sections.now c.loop-section.section-index
      c.loop-section.circuit c.loop-section.from _ c.loop-section.invariant.tells c.read_section.new.circuit
      c.read_section.new.from c.loop-section-test.true c.in_default.ensures.read;
  sizes = c.in_default.ensures.sizes;
}

pub returns : goal.returns
returns c =
    no_more_sections (header_of c.args.counts.now) c.args.sections.now c.loop-section.section-index
    c.loop-section.circuit c.loop-section.from _ c.loop-section.invariant.tells c.loop-section-test.false
