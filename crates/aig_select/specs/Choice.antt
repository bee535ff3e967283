-- Choices by positions.
use Rattle.std.specs.Prelude.{◌≡◌, ◌==◌, ℕ, List, Bool, length, map}
use Rattle.std.specs.List.{list_any, range_with_len}
use Rattle.aig_circuit.specs.declared.circuit.Circuit.{Circuit}
use Rattle.aig_select.specs.declared.choice.Choice.{Choice}

-- a mark for each of so many positions: whether it is among these
abbrev pub positions_marked : ℕ → List ℕ → List Bool
positions_marked count positions = map (λ (p : ℕ). list_any (λ (q : ℕ). q == p) positions) (range_with_len 0 count)

-- there is a mark for each output, bad state and justice property
pub record IsChoiceOf (choice : Choice) (c : Circuit) : Type 0 where
  pub outputs : length choice.outputs ≡ length c.outputs
  pub bad : length choice.bad ≡ length c.bad
  pub justice : length choice.justice ≡ length c.justice.sizes

-- the choice of what stands at these positions
abbrev pub choice_of : List ℕ → List ℕ → List ℕ → Circuit → Choice
choice_of outputs bad justice c = record {
  outputs = positions_marked (length c.outputs) outputs;
  bad = positions_marked (length c.bad) bad;
  justice = positions_marked (length c.justice.sizes) justice;
}
