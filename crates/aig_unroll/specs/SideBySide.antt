-- The rows of a trace side by side, as one row of the unrolled circuit.
use Rattle.std.specs.Prelude.{List, [], ◌∷◌, ◌++◌, map}
use Rattle.std.specs.List.{flat_map}
use Rattle.aig_circuit.specs.declared.circuit.Circuit.{Circuit}
use Rattle.aig_circuit.specs.declared.circuit.Reset.{Reset}
use Rattle.aig_circuit.specs.declared.circuit.Reset.TheVariants as resets
use Rattle.aig_circuit.specs.declared.value.Val.{Val}
use Rattle.aig_circuit.specs.declared.value.Val.TheVariants.{One}
use Rattle.aig_circuit.specs.Values.{value_and}
use Rattle.aig_meaning.specs.Meaning.{Row}
use Rattle.aig_unroll.specs.Unrolled.{resets_of}

-- the values of uninitialised latches, of those of all latches
abbrev pub uninitialised_values : List Reset → List Val → List Val
uninitialised_values [] values = []
uninitialised_values (r ∷ rs) [] = []
uninitialised_values (resets.Zero ∷ rs) (v ∷ vs) = uninitialised_values rs vs
uninitialised_values (resets.One ∷ rs) (v ∷ vs) = uninitialised_values rs vs
uninitialised_values (resets.Uninit ∷ rs) (v ∷ vs) = v ∷ uninitialised_values rs vs

-- the inputs of the unrolled circuit: the first values of uninitialised latches, then the vectors of all frames
abbrev pub inputs_side_by_side : Circuit → List Val → List (List Val) → List Val
inputs_side_by_side c first vectors =
    uninitialised_values (resets_of c) first ++ flat_map (λ (vector : List Val). vector) vectors

-- the `and` of a value and of these
abbrev pub and_all : Val → List Val → Val
and_all held [] = held
and_all held (v ∷ vs) = and_all (value_and held v) vs

-- the values of bad states, each the `and` of its own value and of all constraints up to its row; those before the rows
-- have this one
abbrev pub bad_side_by_side : Val → List Row → List Val
bad_side_by_side held [] = []
bad_side_by_side held (row ∷ rows) =
    map (value_and (and_all held row.constraints)) row.bad ++ bad_side_by_side (and_all held row.constraints) rows

abbrev pub side_by_side : Circuit → List Val → List (List Val) → List Row → Row
side_by_side c first vectors rows = record {
  state = [];
  inputs = inputs_side_by_side c first vectors;
  outputs = flat_map (λ (row : Row). row.outputs) rows;
  next = [];
  bad = bad_side_by_side One rows;
  constraints = [];
}
