-- What the definitions of this crate say of one another.
use Rattle.std.specs.Prelude.{◌≡◌, ◌==◌, ◌↔◌, ℕ, List, [], ◌∷◌, map, if◌then◌else◌}
use Rattle.std.specs.List.{Contains, flat_map}
use Rattle.aig_circuit.specs.declared.circuit.Circuit.{Circuit}
use Rattle.aig_circuit.specs.declared.circuit.Gate.{Gate}
use Rattle.aig_circuit.specs.Literal.{variable_of}
use Rattle.aig_circuit.specs.Wellformed.{AreDistinct, IsAmong, IsWellFormed, operands}
use Rattle.aig_cone.specs.Cone.{IsInCone}
use Rattle.aig_dot.specs.declared.graph.Node.{Node}
use Rattle.aig_dot.specs.declared.graph.Node.TheVariants as nodes
use Rattle.aig_dot.specs.declared.graph.Shape.{Shape}
use Rattle.aig_dot.specs.declared.graph.Shape.TheVariants as shapes
use Rattle.aig_dot.specs.declared.picture.Picture.{Picture}
use Rattle.aig_dot.specs.declared.subject.Subject.{Subject}
use Rattle.aig_dot.specs.declared.subject.Subject.TheVariants.{Whole}
use Rattle.aig_dot.specs.Dot.{dot_text}
use Rattle.aig_dot.specs.Graph.{HasArrow, HasNode, Statement, statements}
use Rattle.aig_dot.specs.Subject.{IsPictureOf, reach_of, roots_of}

abbrev pub gate_variables : Circuit → List ℕ
gate_variables c = map (λ (g : Gate). g.var) c.gates

-- the variable is in the cone of a subject
abbrev pub IsShown : Subject → Circuit → ℕ → Type 0
IsShown subject c v = IsInCone (reach_of subject) c (map variable_of (roots_of subject c)) v

-- the variable of a node that is a gate
abbrev pub variables_at : Node → List ℕ
variables_at (nodes.Variable v) = v ∷ []
variables_at (nodes.Shown kind position) = []

abbrev pub gate_at : Shape → Node → List ℕ
gate_at shapes.Constant node = []
gate_at shapes.Input node = []
gate_at shapes.Latch node = []
gate_at shapes.Gate node = variables_at node
gate_at shapes.Shown node = []

abbrev pub gate_in : Statement → List ℕ
gate_in (HasNode node shape label) = gate_at shape node
gate_in (HasArrow from to is_next) = []

-- the variables of all nodes that are gates
abbrev pub drawn_gates : List Statement → List ℕ
drawn_gates list = flat_map gate_in list

-- The gates of a picture are those of the cone, each once.
abbrev pub PictureHasTheGates : Type 0
PictureHasTheGates = (subject : Subject) (c : Circuit) (p : Picture) → IsWellFormed c → IsPictureOf subject c p
    → AreDistinct (drawn_gates (statements p c))
    × ((v : ℕ) → IsAmong v (drawn_gates (statements p c)) ↔ (IsAmong v (gate_variables c) × IsShown subject c v))

-- A picture of a whole circuit has all its gates, in the order of the file.
abbrev pub WholePictureHasAllGates : Type 0
WholePictureHasAllGates =
    (c : Circuit) (p : Picture) → IsPictureOf Whole c p → drawn_gates (statements p c) ≡ gate_variables c

-- where an arrow to a variable's node comes from
abbrev pub from_if : ℕ → Node → ℕ → List ℕ
from_if v (nodes.Variable w) from = if w == v then from ∷ [] else []
from_if v (nodes.Shown kind position) from = []

abbrev pub arrow_into : ℕ → Statement → List ℕ
arrow_into v (HasNode node shape label) = []
arrow_into v (HasArrow from to is_next) = from_if v to from

-- where all of them come from
abbrev pub arrows_into : ℕ → List Statement → List ℕ
arrows_into v list = flat_map (arrow_into v) list

-- Each gate of a picture has two arrows, from its operands.
abbrev pub EachGateHasItsOperands : Type 0
EachGateHasItsOperands = (subject : Subject) (c : Circuit) (p : Picture) → IsWellFormed c → IsPictureOf subject c p
    → (g : Gate) → Contains c.gates g → IsShown subject c g.var → arrows_into g.var (statements p c) ≡ operands g

-- a subject has one text
abbrev pub OneText : Type 0
OneText = (subject : Subject) (c : Circuit) (p q : Picture) → IsPictureOf subject c p → IsPictureOf subject c q
    → dot_text p c ≡ dot_text q c
