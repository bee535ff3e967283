-- What the definitions of this crate say of one another.
use Rattle.std.specs.Prelude.{◌≡◌, ℕ, List, Bool, map}
use Rattle.aig_circuit.specs.declared.circuit.Circuit.{Circuit}
use Rattle.aig_circuit.specs.declared.value.Val.{Val}
use Rattle.aig_circuit.specs.Justice.{properties_of}
use Rattle.aig_circuit.specs.Wellformed.{IsAmong, IsWellFormed, defined_variables}
use Rattle.aig_meaning.specs.Meaning.{IsStepAssignment, Row, literal_value}
use Rattle.aig_meaning.specs.Trace.{IsTrace}
use Rattle.aig_select.specs.declared.choice.Choice.{Choice}
use Rattle.aig_select.specs.Staying.{staying}
use Rattle.aig_select.specs.Chosen.{fairness_for}
use Rattle.aig_cone.specs.Cone.{IsInCone}
use Rattle.aig_cone.specs.declared.search.Reach.TheVariants.{AllSteps}
use Rattle.aig_select.specs.Cone.{shown_variables}
use Rattle.aig_select.specs.Selection.{IsSelectedBy, IsSelection}
use Rattle.aig_select.specs.Shown.{inputs_left, row_left, state_left}

-- a circuit has one selection by a choice
abbrev pub OneSelection : Type 0
OneSelection = (choice : Choice) (c d e : Circuit) → IsSelection choice c d → IsSelection choice c e → d ≡ e

-- the selection of a well-formed circuit is well formed
abbrev pub SelectionIsWellFormed : Type 0
SelectionIsWellFormed = (choice : Choice) (c d : Circuit) → IsWellFormed c → IsSelection choice c d → IsWellFormed d

-- and it is its own cone: each input, latch and gate is in that of what it shows
abbrev pub SelectionIsItsCone : Type 0
SelectionIsItsCone = (choice : Choice) (c d : Circuit) → IsSelection choice c d
    → (v : ℕ) → IsAmong v (defined_variables d) → IsInCone AllSteps d (shown_variables d) v

-- each trace of a circuit is, of what stays, one of its selection
abbrev pub SelectionHasTheTraces : Type 0
SelectionHasTheTraces = (choice : Choice) (keeps : ℕ → Bool) (c d : Circuit) (first : List Val)
    (vectors : List (List Val)) (rows : List Row) → IsSelectedBy choice keeps c d → IsTrace c first vectors rows
    → IsTrace d (state_left keeps c first) (map (inputs_left keeps c) vectors) (map (row_left choice keeps c) rows)

-- and each trace of the selection is so one of the circuit's
abbrev pub SelectionHasNoOthers : Type 0
SelectionHasNoOthers = (choice : Choice) (keeps : ℕ → Bool) (c d : Circuit) (first : List Val)
    (vectors : List (List Val)) (rows : List Row) → IsWellFormed c → IsSelectedBy choice keeps c d
    → IsTrace d first vectors rows
    → (whole : List Val) × (given : List (List Val)) × (shown : List Row) × IsTrace c whole given shown
    × (first ≡ state_left keeps c whole) × (vectors ≡ map (inputs_left keeps c) given)
    × (rows ≡ map (row_left choice keeps c) shown)

-- literals one by one, property by property, by these values
abbrev pub values_of : (ℕ → Val) → List (List ℕ) → List (List Val)
values_of a properties = map (map (literal_value a)) properties

-- In each step the justice properties and the fairness constraints that stay have the values that they had.
abbrev pub SelectionKeepsGoals : Type 0
SelectionKeepsGoals = (choice : Choice) (keeps : ℕ → Bool) (c d : Circuit) (state given : List Val) (a b : ℕ → Val)
    → IsWellFormed c → IsSelectedBy choice keeps c d → IsStepAssignment c state given a
    → IsStepAssignment d (state_left keeps c state) (inputs_left keeps c given) b
    → (values_of b (properties_of d.justice) ≡ staying choice.justice (values_of a (properties_of c.justice)))
    × (map (literal_value b) d.fairness ≡ map (literal_value a) (fairness_for d.justice c.fairness))
