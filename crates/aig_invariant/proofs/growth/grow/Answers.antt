use Rattle.std.proofs.Common.{◌≤◌, ◌∙◌, All, List, ap, map, subst, sym}
use Rattle.aig_circuit.specs.declared.circuit.Latch.{Latch}
use Rattle.aig_circuit.specs.declared.circuit.TheConstants.{LARGEST}
use Rattle.aig_circuit.specs.Literal.{literal_of}
use Rattle.aig_invariant.proofs.Growing.Cubes.{literals_of, low_latches}
use Rattle.aig_invariant.proofs.growth.grow.Goals as goal

pub new-requires : goal.new-requires
new-requires c =
    subst (λ (ls : List Latch). All (λ (l : Latch). l.var ≤ LARGEST) ls) (sym c.as_slice.ensures)
    (low_latches c.args.circuit.now c.requires)

pub add_cubes-requires-clause-latches : goal.add_cubes-requires-clause-latches
add_cubes-requires-clause-latches c = (
  c.in_ok-latches.ensures.state ∙ ap (map (λ (l : Latch). literal_of l.var)) c.as_slice.ensures
      ∙ literals_of c.args.circuit.now.latches,
  c.in_ok-latches.ensures.next ∙ ap (map (λ (l : Latch). l.next)) c.as_slice.ensures,
)
