use Rattle.std.proofs.Common.{rules, subst, sym}
use Rattle.aig_circuit.specs.Wellformed.{IsWellFormed}
use Rattle.aig_convert.proofs.mapped.into_binary_with_map.Goals as goal

pub renumbered_with_map-requires-clause-good : goal.renumbered_with_map-requires-clause-good
renumbered_with_map-requires-clause-good c =
    subst IsWellFormed (sym c.into_circuit-2.ensures.value) c.into_circuit-2.ensures.well_formed

pub renumbered_with_map-requires-clause-of_it : goal.renumbered_with_map-requires-clause-of_it
renumbered_with_map-requires-clause-of_it c = search rules
