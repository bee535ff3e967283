-- The selection of a circuit (this project's profile): what is chosen, with its cone and its names. Variables and the
-- largest index stay as they are. The comment, which is the file's and may hold its map, is left out.
use Rattle.std.specs.Prelude.{◌≡◌, ◌==◌, ℕ, List, Bool, Option, None, Some, length, map, if◌then◌else◌}
use Rattle.std.specs.List.{filter_map}
use Rattle.std.specs.Option.{option_map}
use Rattle.aig_circuit.specs.declared.circuit.Latch.{Latch}
use Rattle.aig_circuit.specs.declared.circuit.Circuit.{Circuit}
use Rattle.aig_circuit.specs.declared.circuit.Kind.{Kind}
use Rattle.aig_circuit.specs.declared.circuit.Kind.TheVariants as kinds
use Rattle.aig_circuit.specs.declared.circuit.Symbol.{Symbol}
use Rattle.aig_select.specs.declared.choice.Choice.{Choice}
use Rattle.aig_select.specs.Staying.{new_place}
use Rattle.aig_select.specs.Chosen.{chosen}
use Rattle.aig_select.specs.Cone.{IsCone, shown_variables, with_only}

-- which inputs and which latches stay, by position
abbrev pub input_marks : (ℕ → Bool) → Circuit → List Bool
input_marks keeps c = map keeps c.inputs

abbrev pub latch_marks : (ℕ → Bool) → Circuit → List Bool
latch_marks keeps c = map (λ (l : Latch). keeps l.var) c.latches

-- the new position of what stood at a position among its kind, if it stays
abbrev pub selected_place : Choice → (ℕ → Bool) → Circuit → Kind → ℕ → Option ℕ
selected_place choice keeps c kinds.Input place = new_place (input_marks keeps c) place
selected_place choice keeps c kinds.Latch place = new_place (latch_marks keeps c) place
selected_place choice keeps c kinds.Output place = new_place choice.outputs place
selected_place choice keeps c kinds.Bad place = new_place choice.bad place
selected_place choice keeps c kinds.Constraint place = Some place
selected_place choice keeps c kinds.Justice place = new_place choice.justice place
selected_place choice keeps c kinds.Fairness place =
    if length (chosen choice c).justice.sizes == 0 then None else Some place

-- a symbol at its new position, if it has one
abbrev pub moved_symbol : (Kind → ℕ → Option ℕ) → Symbol → Option Symbol
moved_symbol place s =
    option_map (λ (p : ℕ). record { kind = s.kind; position = p; name = s.name }) (place s.kind s.position)

abbrev pub moved_symbols : (Kind → ℕ → Option ℕ) → List Symbol → List Symbol
moved_symbols place symbols = filter_map (moved_symbol place) symbols

-- what is chosen with these variables, and the names of what stays
abbrev pub selected : Choice → (ℕ → Bool) → Circuit → Circuit
selected choice keeps c = record (with_only keeps (chosen choice c)) {
  symbols = moved_symbols (selected_place choice keeps c) c.symbols;
}

-- d is the selection of c by this cone
pub record IsSelectedBy (choice : Choice) (keeps : ℕ → Bool) (c d : Circuit) : Type 0 where
  pub cone : IsCone c (shown_variables (chosen choice c)) keeps
  pub same : d ≡ selected choice keeps c

-- d is the one selection of c
abbrev pub IsSelection : Choice → Circuit → Circuit → Type 0
IsSelection choice c d = (keeps : ℕ → Bool) × IsSelectedBy choice keeps c d
