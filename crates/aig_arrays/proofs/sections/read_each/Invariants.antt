use Rattle.std.proofs.Common.{◌≡◌, ◌≤◌, drop, sum}
use Rattle.aig_circuit.specs.Wellformed.{largest_index}
use Rattle.aig_arrays.specs.Decoded.{header_of, sections_decoded}
use Rattle.aig_arrays.proofs.sections.read_each.Given as goal

-- the sections that are left tell what all of them tell
abbrev pub invariant-loop-section : goal.invariant-loop-section
invariant-loop-section l = record {
  tells :
      sections_decoded (header_of l.counts) (drop l.section-index l.sections) l.circuit l.from
      ≡ sections_decoded (header_of l.counts) l.sections l.fn.circuit l.fn.from;
  sizes : sum l.circuit.justice.sizes ≤ largest_index;
}
