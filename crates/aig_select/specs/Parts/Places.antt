-- New positions, in tables.
use Rattle.std.specs.Prelude.{ℕ, Option, None, Some, slice_index_or, if◌then◌else◌}
use Rattle.aig_circuit.specs.declared.circuit.Kind.{Kind}
use Rattle.aig_circuit.specs.declared.circuit.Kind.TheVariants as kinds
use Rattle.aig_select.specs.declared.symbols.Places.{Places}

-- the new position by the table of its kind
abbrev pub place_by : Places → Kind → ℕ → Option ℕ
place_by places kinds.Input position = slice_index_or places.inputs.items position None
place_by places kinds.Latch position = slice_index_or places.latches.items position None
place_by places kinds.Output position = slice_index_or places.outputs.items position None
place_by places kinds.Bad position = slice_index_or places.bad.items position None
place_by places kinds.Constraint position = Some position
place_by places kinds.Justice position = slice_index_or places.justice.items position None
place_by places kinds.Fairness position = if places.is_fair then Some position else None
