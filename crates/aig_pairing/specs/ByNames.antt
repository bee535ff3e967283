-- A circuit in the order in which another one names inputs, outputs and bad states (this project's profile).
use Rattle.std.specs.Prelude.{◌==◌, List, [], Option, None, Some, Result, Ok, Err, drop, length, not, slice_get, take}
use Rattle.std.specs.Prelude.{if◌then◌else◌}
use Rattle.std.specs.List.{filter_map}
use Rattle.std.specs.Option.{option_and_then, option_or}
use Rattle.aig_circuit.specs.declared.circuit.Circuit.{Circuit}
use Rattle.aig_fault.specs.Stopping.{fault_at}
use Rattle.aig_fault.specs.declared.fault.Fault.{Fault}
use Rattle.aig_fault.specs.declared.fault.Place.TheVariants.{Whole}
use Rattle.aig_fault.specs.declared.kind.Kind.TheVariants.{OtherInputs, OtherOutputs}
use Rattle.aig_pairing.specs.declared.paired.Paired.TheVariants.{Inputs, Compared}
use Rattle.aig_pairing.specs.NameFaults.{first_name_fault, missing_fault}
use Rattle.aig_pairing.specs.Names.{Name, compared, compared_names, input_names, place_named}

-- the value that stands, among those of things with these names, where a name does
abbrev pub value_named : {A : Type 0} → List Name → List A → Name → Option A
value_named names values name = option_and_then (slice_get values) (place_named names name)

-- the values of things with these names, in the order of the wanted names
abbrev pub in_order_of : {A : Type 0} → (wanted names : List Name) → List A → List A
in_order_of wanted names values = filter_map (value_named names values) wanted

-- the names of the outputs, and of the bad states
abbrev pub output_names : Circuit → List Name
output_names c = take (length c.outputs) (compared_names c)

abbrev pub bad_names : Circuit → List Name
bad_names c = drop (length c.outputs) (compared_names c)

-- The second circuit, with inputs, and with what is compared, in the order in which the first one names them: it has as
-- many outputs and as many bad states as the first. It has no names, and no comment.
abbrev pub in_order : Circuit → Circuit → Circuit
in_order a b = record b {
  inputs = in_order_of (input_names a) (input_names b) b.inputs;
  outputs = in_order_of (output_names a) (compared_names b) (compared b);
  bad = in_order_of (bad_names a) (compared_names b) (compared b);
  symbols = [];
  comment = None;
}

-- the two have as many inputs, and as much that is compared
abbrev pub count_fault : Circuit → Circuit → Option Fault
count_fault a b =
    if not (length a.inputs == length b.inputs) then Some (fault_at OtherInputs Whole 0)
    else if not (length (compared a) == length (compared b)) then Some (fault_at OtherOutputs Whole 0)
    else None

-- the first input, output or bad state of the second circuit whose name is none of those of the first
abbrev pub first_missing : Circuit → Circuit → Option Fault
first_missing a b = option_or
    (missing_fault Inputs (input_names a) 0 (input_names b))
    (missing_fault (Compared (length b.outputs)) (compared_names a) 0 (compared_names b))

-- what keeps the second circuit from the order of the first
abbrev pub pairing_fault : Circuit → Circuit → Option Fault
pairing_fault a b = option_or (count_fault a b) (option_or (first_name_fault b) (first_missing a b))

abbrev pub unless_wrong : Circuit → Option Fault → Result Circuit Fault
unless_wrong c None = Ok c
unless_wrong c (Some fault) = Err fault

-- the second circuit in the order of the first, where its names are right and those of the first
abbrev pub by_names : Circuit → Circuit → Result Circuit Fault
by_names a b = unless_wrong (in_order a b) (pairing_fault a b)
