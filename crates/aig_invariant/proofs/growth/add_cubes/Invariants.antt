use Rattle.std.specs.Prelude.{◌≡◌, length}
use Rattle.aig_circuit.specs.Wellformed.{IsWellFormed}
use Rattle.aig_lines.specs.Lines.{lines_of}
use Rattle.aig_invariant.specs.Invariant.{with_cubes}
use Rattle.aig_invariant.specs.Parts.Growing.{AreTheLatches}
use Rattle.aig_invariant.specs.Parts.Rows.{cubes_at}
use Rattle.aig_invariant.proofs.growth.add_cubes.Given as goal

abbrev pub invariant-loop-line : goal.invariant-loop-line
invariant-loop-line l = record {
  formed : IsWellFormed l.circuit;
  latches : AreTheLatches l.fn.latches l.circuit;
  grown : with_cubes (cubes_at (lines_of l.rest)) l.circuit ≡ with_cubes (cubes_at (lines_of l.bytes)) l.fn.circuit;
}

abbrev pub decreases-loop-line : goal.decreases-loop-line
decreases-loop-line l = length l.rest
