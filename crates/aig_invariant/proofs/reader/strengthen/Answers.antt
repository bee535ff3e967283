use Rattle.std.proofs.Common.{◌≡◌, ◌∙◌, ap, refl, subst, sym}
use Rattle.aig_circuit.specs.declared.circuit.Circuit.{Circuit}
use Rattle.aig_circuit.specs.Wellformed.{IsWellFormed}
use Rattle.aig_lines.specs.Lines.{lines_of}
use Rattle.aig_invariant.specs.Invariant.{with_cubes}
use Rattle.aig_invariant.specs.Outcome.{HasCubes}
use Rattle.aig_invariant.specs.Parts.Rows.{cubes_at}
use Rattle.aig_invariant.proofs.Growing.Cubes.{free_formed, freed_growth}
use Rattle.aig_invariant.proofs.reader.strengthen.Goals as goal

pub take_invariant-requires : goal.take_invariant-requires
take_invariant-requires c =
    subst IsWellFormed (sym c.into_circuit-circuit.ensures.value) c.into_circuit-circuit.ensures.well_formed

pub from_well_formed-requires : goal.from_well_formed-requires
from_well_formed-requires c =
    subst IsWellFormed (sym c.free_latches.ensures) (free_formed c.take_invariant.new.circuit c.in-Ok.ensures.formed)

pub returns-in-Ok : goal.returns-in-Ok
returns-in-Ok c =
    let bytes = c.args.bytes.now in
    let cubes = cubes_at (lines_of bytes) in
    let value : c.into_circuit-circuit.result ≡ c.args.found = c.into_circuit-circuit.ensures.value in (
      refl,
      cubes,
      subst (λ (x : Circuit). HasCubes x bytes cubes) value c.in-Ok.ensures.has,
      freed_growth cubes c.args.found c.take_invariant.new.circuit c.from_well_formed.result
          (c.in-Ok.ensures.grown ∙ ap (with_cubes cubes) value) (c.from_well_formed.ensures ∙ c.free_latches.ensures),
    )
