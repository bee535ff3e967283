-- What is wrong with the names of a circuit, by which it is to be paired with another (this project's profile).
use Rattle.std.specs.Prelude.{◌+◌, ◌-◌, ℕ, List, [], ◌∷◌, ◌++◌, Option, None, Some, if◌then◌else◌, is_some, length}
use Rattle.std.specs.Prelude.{nat_lt}
use Rattle.std.specs.Option.{option_map, option_or}
use Rattle.aig_circuit.specs.declared.circuit.Circuit.{Circuit}
use Rattle.aig_fault.specs.Stopping.{fault_at}
use Rattle.aig_fault.specs.declared.fault.Fault.{Fault}
use Rattle.aig_fault.specs.declared.fault.Place.{Place}
use Rattle.aig_fault.specs.declared.fault.Place.TheVariants as places
use Rattle.aig_fault.specs.declared.kind.Kind.{Kind}
use Rattle.aig_fault.specs.declared.kind.Kind.TheVariants.{NameTwice, NoName, NoSuchName}
use Rattle.aig_pairing.specs.declared.paired.Paired.{Paired}
use Rattle.aig_pairing.specs.declared.paired.Paired.TheVariants.{Inputs, Compared}
use Rattle.aig_pairing.specs.Names.{Name, compared_names, input_names, place_named}

-- how a fault says the place of a thing that is paired
abbrev pub place_of : Paired → ℕ → Place
place_of Inputs n = places.Input n
place_of (Compared outputs) n = if nat_lt n outputs then places.Output n else places.Bad (n - outputs)

-- what is wrong with the name of a thing, where the first thing before it with that name stands, if one does
abbrev pub wrong_name : Name → Option ℕ → Option Kind
wrong_name None before = Some NoName
wrong_name (Some name) None = None
wrong_name (Some name) (Some place) = Some NameTwice

-- the first fault of names, which stand after these
abbrev pub name_fault : Paired → (before names : List Name) → Option Fault
name_fault paired before [] = None
name_fault paired before (n ∷ ns) = option_or
    (option_map (λ kind. fault_at kind (place_of paired (length before)) 0) (wrong_name n (place_named before n)))
    (name_fault paired (before ++ n ∷ []) ns)

abbrev pub input_fault : Circuit → Option Fault
input_fault c = name_fault Inputs [] (input_names c)

abbrev pub compared_fault : Circuit → Option Fault
compared_fault c = name_fault (Compared (length c.outputs)) [] (compared_names c)

-- the first input, output or bad state that has no name, or that of one before it in its list
abbrev pub first_name_fault : Circuit → Option Fault
first_name_fault c = option_or (input_fault c) (compared_fault c)

-- the first of these names, which stand from a place on, that is none of the others
abbrev pub missing_fault : Paired → (others : List Name) → ℕ → (names : List Name) → Option Fault
missing_fault paired others place [] = None
missing_fault paired others place (n ∷ ns) =
    if is_some (place_named others n)
    then missing_fault paired others (place + 1) ns
    else Some (fault_at NoSuchName (place_of paired place) 0)
