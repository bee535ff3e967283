-- The names of what is paired where two circuits are compared: of inputs, and of what is compared, outputs and then bad
-- states (this project's profile).
use Rattle.std.specs.Prelude.{◌+◌, ℕ, List, ◌++◌, Option, None, Some, bytes_eq, fold, length, replicate, slice_set}
use Rattle.std.specs.Prelude.{Bool, false}
use Rattle.std.specs.List.{position}
use Rattle.std.specs.Option.{option_and_then, option_map_or}
use Rattle.aig_circuit.specs.declared.circuit.Circuit.{Circuit}
use Rattle.aig_circuit.specs.declared.circuit.Kind.{Kind}
use Rattle.aig_circuit.specs.declared.circuit.Kind.TheVariants as kinds
use Rattle.aig_circuit.specs.declared.circuit.Symbol.{Symbol}
use Rattle.aig_pairing.specs.declared.paired.Paired.{Paired}
use Rattle.aig_pairing.specs.declared.paired.Paired.TheVariants.{Inputs, Compared}

-- the name of a thing, where it has one
abbrev pub Name : Type 0
Name = Option (List ℕ)

-- where the thing of this kind and position stands among what is paired, if it does
abbrev pub place_among : Paired → Kind → ℕ → Option ℕ
place_among Inputs kinds.Input position = Some position
place_among Inputs kind position = None
place_among (Compared outputs) kinds.Output position = Some position
place_among (Compared outputs) kinds.Bad position = Some (outputs + position)
place_among (Compared outputs) kind position = None

-- a symbol gives its name to what it is for
abbrev pub named : Paired → List Name → Symbol → List Name
named paired names s =
    option_map_or (λ place. slice_set names place (Some s.name)) (place_among paired s.kind s.position) names

-- the names that these symbols give to so many things
abbrev pub names_by : Paired → ℕ → List Symbol → List Name
names_by paired count symbols = fold (named paired) (replicate count None) symbols

-- what is compared of a circuit
abbrev pub compared : Circuit → List ℕ
compared c = c.outputs ++ c.bad

abbrev pub input_names : Circuit → List Name
input_names c = names_by Inputs (length c.inputs) c.symbols

abbrev pub compared_names : Circuit → List Name
compared_names c = names_by (Compared (length c.outputs)) (length (compared c)) c.symbols

-- whether a thing has this name
abbrev pub has_name : List ℕ → Name → Bool
has_name name None = false
has_name name (Some own) = bytes_eq name own

-- the place of the first thing with the same name, among things of these names
abbrev pub place_named : List Name → Name → Option ℕ
place_named names name = option_and_then (λ bytes. position (has_name bytes) names) name
