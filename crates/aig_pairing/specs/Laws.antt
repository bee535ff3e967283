-- What it means that a circuit is ordered by the names of another.
use Rattle.std.specs.Prelude.{◌≡◌, ◌↔◌, ◌++◌, ◌<◌, ℕ, List, None, Ok, Some, get_or, length, map, slice_get}
use Rattle.std.specs.List.{Contains}
use Rattle.aig_circuit.specs.declared.circuit.Circuit.{Circuit}
use Rattle.aig_circuit.specs.declared.circuit.Kind.{Kind}
use Rattle.aig_circuit.specs.declared.circuit.Kind.TheVariants as kinds
use Rattle.aig_circuit.specs.declared.value.Val.{Val}
use Rattle.aig_circuit.specs.Wellformed.{IsWellFormed}
use Rattle.aig_meaning.specs.Meaning.{IsRow, Row}
use Rattle.aig_meaning.specs.Trace.{IsTrace}
use Rattle.aig_pairing.specs.ByNames.{bad_names, by_names, in_order_of, output_names, value_named}
use Rattle.aig_pairing.specs.NameFaults.{first_name_fault}
use Rattle.aig_pairing.specs.Names.{Name, compared, compared_names, input_names}

-- a symbol gives this name to what stands at this position among its kind
abbrev pub GivesName : Circuit → Kind → ℕ → List ℕ → Type 0
GivesName c kind position name = Contains c.symbols (record { kind = kind; position = position; name = name })

-- the names of a well-formed circuit are those that its symbols give
abbrev pub NamesAreOfSymbols : Type 0
NamesAreOfSymbols = (c : Circuit) → IsWellFormed c → (position : ℕ) (name : List ℕ)
    → ((get_or (input_names c) position None ≡ Some name) ↔ GivesName c kinds.Input position name)
    × ((get_or (output_names c) position None ≡ Some name) ↔ GivesName c kinds.Output position name)
    × ((get_or (bad_names c) position None ≡ Some name) ↔ GivesName c kinds.Bad position name)

-- well-formed circuits, of which the first has right names, and the second in its order
pub record AreOrdered (a b c : Circuit) : Type 0 where
  pub first : IsWellFormed a
  pub second : IsWellFormed b
  pub named : first_name_fault a ≡ None
  pub ordered : by_names a b ≡ Ok c

abbrev pub OrderedIsWellFormed : Type 0
OrderedIsWellFormed = (a b c : Circuit) → AreOrdered a b c → IsWellFormed c

-- at each place of these names the value is that which stands where the second list has the same name
abbrev pub AreByName : {A : Type 0} → (wanted names : List Name) → (values ordered : List A) → Type 0
AreByName wanted names values ordered =
    (length ordered ≡ length wanted)
    × ((place : ℕ) → place < length wanted
    → slice_get ordered place ≡ value_named names values (get_or wanted place None))

-- It has as many inputs, outputs and bad states as the first circuit, and at each place what the second circuit has
-- under the name that stands at that place in the first.
abbrev pub ValuesStandByName : Type 0
ValuesStandByName = (a b c : Circuit) → AreOrdered a b c
    → (length c.inputs ≡ length a.inputs) × (length c.outputs ≡ length a.outputs) × (length c.bad ≡ length a.bad)
    × AreByName (input_names a) (input_names b) b.inputs c.inputs
    × AreByName (compared_names a) (compared_names b) (compared b) (compared c)

-- a row of the second circuit, in the order of the first
abbrev pub row_in_order : Circuit → Circuit → Row → Row
row_in_order a b row = record row {
  inputs = in_order_of (input_names a) (input_names b) row.inputs;
  outputs = in_order_of (output_names a) (compared_names b) (row.outputs ++ row.bad);
  bad = in_order_of (bad_names a) (compared_names b) (row.outputs ++ row.bad);
}

-- so it has at each place the value that is under that name
abbrev pub RowsStandByName : Type 0
RowsStandByName = (a b c : Circuit) → AreOrdered a b c → (row : Row) → IsRow b row
    → AreByName (input_names a) (input_names b) row.inputs (row_in_order a b row).inputs
    × AreByName (compared_names a) (compared_names b) (row.outputs ++ row.bad)
    ((row_in_order a b row).outputs ++ (row_in_order a b row).bad)

-- the rows are those of the second circuit, each in the order of the first
abbrev pub RowsAreOrdered : Type 0
RowsAreOrdered = (a b c : Circuit) → by_names a b ≡ Ok c → (row : Row)
    → IsRow c row ↔ ((before : Row) × IsRow b before × (row ≡ row_in_order a b before))

-- a trace of the second circuit, in the order of the first
pub record IsTraceInOrder (a b : Circuit) (first : List Val) (vectors : List (List Val)) (rows : List Row)
    : Type 0 where
  pub given : List (List Val)
  pub before : List Row
  pub trace : IsTrace b first given before
  pub vectors_are : vectors ≡ map (in_order_of (input_names a) (input_names b)) given
  pub rows_are : rows ≡ map (row_in_order a b) before

-- and so are the traces
abbrev pub TracesAreOrdered : Type 0
TracesAreOrdered = (a b c : Circuit) → by_names a b ≡ Ok c
    → (first : List Val) (vectors : List (List Val)) (rows : List Row)
    → IsTrace c first vectors rows ↔ IsTraceInOrder a b first vectors rows
