-- What the definitions of this crate say of one another.
use Rattle.std.specs.Prelude.{ℕ, List, ◌∷◌, ◌++◌, ◌≡◌, ◌<◌, ◌≤◌, ◌+◌, ◌↔◌, Some, None, length, true}
use Rattle.std.specs.List.{AllByRecursion, slice_get, sum}
use Rattle.std.specs.FinSet as set
use Rattle.aig_circuit.specs.declared.circuit.Circuit.{Circuit}
use Rattle.aig_circuit.specs.declared.circuit.Gate.{Gate}
use Rattle.aig_circuit.specs.Literal.{literal_of}
use Rattle.aig_circuit.specs.Wellformed.{IsWellFormed, IsAmong, AreDistinct, IsKnown, HasRank}
use Rattle.aig_circuit.specs.Wellformed.{defined_variables, used_literals}
use Rattle.aig_circuit.specs.declared.circuit.Justice.{Justice}
use Rattle.aig_circuit.specs.Justice.{end_to_end, properties_of}
use Rattle.aig_circuit.specs.Form.{IsInForm}
use Rattle.aig_core.specs.Fault.{first_structural_fault, first_repeat, first_unknown, with_all}
use Rattle.aig_core.specs.Fault.{redefined, undefined, cyclic}
use Rattle.aig_topo.specs.Order.{IsLeastReadyOrder, ends_within}

-- a circuit in form is well formed exactly where it has no fault
abbrev pub FaultlessIsWellFormed : Type 0
FaultlessIsWellFormed = (c : Circuit) → IsInForm c → (first_structural_fault c ≡ None) ↔ IsWellFormed c

-- a well-formed circuit has at most as many definitions as its largest index
abbrev pub DefinitionsFit : Type 0
DefinitionsFit = (c : Circuit) → IsWellFormed c → length c.inputs + length c.latches + length c.gates ≤ c.max_var

-- a well-formed circuit is in form
abbrev pub WellFormedIsInForm : Type 0
WellFormedIsInForm = (c : Circuit) → IsWellFormed c → IsInForm c

-- where the sizes are those of the literals that there are, justice properties are a list of lists
abbrev pub JusticeIsOfLists : Type 0
JusticeIsOfLists = (j : Justice) → sum j.sizes ≡ length j.literals → end_to_end (properties_of j) ≡ j

-- and each list of lists is such
abbrev pub ListsAreJustice : Type 0
ListsAreJustice = (properties : List (List ℕ)) → (properties_of (end_to_end properties) ≡ properties)
    × (sum (end_to_end properties).sizes ≡ length (end_to_end properties).literals)

-- the gates of a circuit have a least ready order
abbrev pub GatesHaveAnOrder : Type 0
GatesHaveAnOrder = (c : Circuit) → (list : List ℕ) × IsLeastReadyOrder c list

-- and no two
abbrev pub GatesHaveOneOrder : Type 0
GatesHaveOneOrder = (c : Circuit) (list other : List ℕ) → IsLeastReadyOrder c list → IsLeastReadyOrder c other
    → list ≡ other

-- where each variable is defined once, the gates have a rank exactly where their order has all of them
abbrev pub RankExactlyWhereAllAreOrdered : Type 0
RankExactlyWhereAllAreOrdered = (c : Circuit) (list : List ℕ) → AreDistinct (defined_variables c)
    → IsLeastReadyOrder c list
    → HasRank c.gates ↔ ((gate : ℕ) → gate < length c.gates → IsAmong gate list)

-- a gate does not depend on a cycle exactly where the order has it
abbrev pub OrderedExactlyWhereItEnds : Type 0
OrderedExactlyWhereItEnds = (c : Circuit) (list : List ℕ) → IsLeastReadyOrder c list
    → (gate : ℕ) → gate < length c.gates → IsAmong gate list ↔ (ends_within (length c.gates) c.gates gate ≡ true)

-- the first number of a list that stands before itself too
pub record IsFirstRepeat (numbers : List ℕ) (x : ℕ) : Type 0 where
  pub front : List ℕ
  pub rest : List ℕ
  pub parts : numbers ≡ front ++ x ∷ rest
  pub once : AreDistinct front
  pub again : IsAmong x front

-- `first_repeat` finds that number, and nothing exactly where no number stands twice
abbrev pub RepeatsAreFound : Type 0
RepeatsAreFound = (numbers : List ℕ) (x : ℕ) → (first_repeat set.empty numbers ≡ Some x) ↔ IsFirstRepeat numbers x

abbrev pub NoneRepeatsWhereDistinct : Type 0
NoneRepeatsWhereDistinct = (numbers : List ℕ) → (first_repeat set.empty numbers ≡ None) ↔ AreDistinct numbers

-- the first literal of a list that is no constant and over none of the variables
pub record IsFirstUnknown (variables literals : List ℕ) (x : ℕ) : Type 0 where
  pub front : List ℕ
  pub rest : List ℕ
  pub parts : literals ≡ front ++ x ∷ rest
  pub known : AllByRecursion (IsKnown variables) front
  pub unknown : ¬ IsKnown variables x

-- `first_unknown` finds that literal, and nothing exactly where each literal is known
abbrev pub UnknownsAreFound : Type 0
UnknownsAreFound = (variables literals : List ℕ) (x : ℕ)
    → (first_unknown (with_all set.empty variables) literals ≡ Some x) ↔ IsFirstUnknown variables literals x

abbrev pub NoneUnknownWhereAllKnown : Type 0
NoneUnknownWhereAllKnown = (variables literals : List ℕ)
    → (first_unknown (with_all set.empty variables) literals ≡ None) ↔ AllByRecursion (IsKnown variables) literals

-- of the gates that the order leaves out, the one of least position has this literal
pub record IsFirstLeftOut (gates : List Gate) (order : List ℕ) (literal : ℕ) : Type 0 where
  pub position : ℕ
  pub gate : Gate
  pub there : slice_get gates position ≡ Some gate
  pub left_out : ¬ IsAmong position order
  pub first : (earlier : ℕ) → earlier < position → IsAmong earlier order
  pub own : literal ≡ literal_of gate.var

-- no variable is defined twice, and each used literal is known
abbrev pub IsFullyDefined : Circuit → Type 0
IsFullyDefined c = AreDistinct (defined_variables c) × AllByRecursion (IsKnown (defined_variables c)) (used_literals c)

-- the first fault is a redefinition exactly where a variable is defined twice, and then it is of the first such one
abbrev pub RedefinedExactly : Type 0
RedefinedExactly = (c : Circuit) (v : ℕ) → (first_structural_fault c ≡ Some (redefined v))
    ↔ IsFirstRepeat (defined_variables c) v

-- it is an undefined literal exactly where none is defined twice and a literal is unknown, and then the first such one
abbrev pub UndefinedExactly : Type 0
UndefinedExactly = (c : Circuit) (literal : ℕ) → (first_structural_fault c ≡ Some (undefined literal))
    ↔ (AreDistinct (defined_variables c) × IsFirstUnknown (defined_variables c) (used_literals c) literal)

-- it is a cycle exactly where neither is so and the order leaves out a gate, and then the first such one is reported
abbrev pub CyclicExactly : Type 0
CyclicExactly = (c : Circuit) (order : List ℕ) (literal : ℕ) → IsLeastReadyOrder c order
    → (first_structural_fault c ≡ Some (cyclic literal)) ↔ (IsFullyDefined c × IsFirstLeftOut c.gates order literal)

-- it is a cycle, of whichever gate, exactly where neither is so and the gates have no rank
abbrev pub CycleExactlyWhereNoRank : Type 0
CycleExactlyWhereNoRank = (c : Circuit)
    → ((literal : ℕ) × (first_structural_fault c ≡ Some (cyclic literal))) ↔ (IsFullyDefined c × (¬ HasRank c.gates))
