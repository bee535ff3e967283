-- The graph that a picture is (this project's profile).
use Rattle.std.specs.Prelude.{◌++◌, ℕ, List, [], ◌∷◌, Bool, true, false, codes, decimal, map, if◌then◌else◌}
use Rattle.std.specs.List.{enumerate_from, flat_map, range_with_len}
use Rattle.std.specs.FinSet as set
use Rattle.aig_circuit.specs.declared.circuit.Circuit.{Circuit}
use Rattle.aig_circuit.specs.declared.circuit.Gate.{Gate}
use Rattle.aig_circuit.specs.declared.circuit.Kind.{Kind}
use Rattle.aig_circuit.specs.declared.circuit.Kind.TheVariants as kinds
use Rattle.aig_circuit.specs.declared.circuit.Latch.{Latch}
use Rattle.aig_circuit.specs.declared.circuit.Symbol.{Symbol}
use Rattle.aig_circuit.specs.Literal.{literal_of}
use Rattle.aig_circuit.specs.Wellformed.{count_of}
use Rattle.aig_cone.specs.declared.search.Reach.{Reach}
use Rattle.aig_cone.specs.declared.search.Reach.TheVariants.{OneStep, AllSteps}
use Rattle.aig_dot.specs.declared.graph.Node.{Node}
use Rattle.aig_dot.specs.declared.graph.Node.TheVariants as nodes
use Rattle.aig_dot.specs.declared.graph.Shape.{Shape}
use Rattle.aig_dot.specs.declared.graph.Shape.TheVariants as shapes
use Rattle.aig_dot.specs.declared.picture.Picture.{Picture}
use Rattle.aig_dot.specs.declared.subject.Subject.{Subject}
use Rattle.aig_dot.specs.declared.subject.Subject.TheVariants.{Whole, Cone}
use Rattle.aig_dot.specs.Label.{name_text, reset_text}
use Rattle.aig_dot.specs.Subject.{literals_at, reach_of}

-- a node with its shape and its label, or an arrow from a literal to what uses it, in the same step or as its next
-- state
pub data Statement : Type 0 where
  HasNode : Node → Shape → List ℕ → Statement
  HasArrow : ℕ → Node → Bool → Statement

-- an arrow from a literal to a node that uses it in the same step
abbrev pub use_of : Node → ℕ → Statement
use_of to literal = HasArrow literal to false

abbrev pub constant_part : (ℕ → Bool) → List Statement
constant_part shows =
    if shows 0 then HasNode (nodes.Variable 0) shapes.Constant (codes "0") ∷ [] else []

abbrev pub input_part : (ℕ → Bool) → List Symbol → ℕ × ℕ → List Statement
input_part shows symbols input =
    if shows input.1
    then HasNode (nodes.Variable input.1) shapes.Input (name_text symbols kinds.Input input.0) ∷ []
    else []

-- over all steps, an arrow from the next state of a latch to the latch
abbrev pub next_part : Reach → Latch → List Statement
next_part OneStep l = []
next_part AllSteps l = HasArrow l.next (nodes.Variable l.var) true ∷ []

abbrev pub latch_part : (ℕ → Bool) → Reach → List Symbol → ℕ × Latch → List Statement
latch_part shows reach symbols latch =
    if shows latch.1.var
    then HasNode (nodes.Variable latch.1.var) shapes.Latch
    (name_text symbols kinds.Latch latch.0 ++ reset_text latch.1.reset) ∷ next_part reach latch.1
    else []

-- a gate, which is called by its literal, and its operands
abbrev pub gate_part : (ℕ → Bool) → Gate → List Statement
gate_part shows g =
    if shows g.var
    then HasNode (nodes.Variable g.var) shapes.Gate (decimal (literal_of g.var))
    ∷ use_of (nodes.Variable g.var) g.left ∷ use_of (nodes.Variable g.var) g.right ∷ []
    else []

-- what a circuit shows at a position among its kind, and its literals
abbrev pub shown_part : Circuit → Kind → ℕ → List Statement
shown_part c kind position =
    HasNode (nodes.Shown kind position) shapes.Shown (name_text c.symbols kind position)
    ∷ map (use_of (nodes.Shown kind position)) (literals_at c kind position)

-- all of its kind
abbrev pub kind_part : Circuit → Kind → List Statement
kind_part c kind = flat_map (shown_part c kind) (range_with_len 0 (count_of c kind))

abbrev pub shown_kinds : List Kind
shown_kinds = kinds.Output ∷ kinds.Bad ∷ kinds.Constraint ∷ kinds.Justice ∷ kinds.Fairness ∷ []

abbrev pub subject_part : Subject → Circuit → List Statement
subject_part Whole c = flat_map (kind_part c) shown_kinds
subject_part (Cone part) c = shown_part c part.kind part.position

-- what of a circuit has variables: the constant, inputs, latches and gates that are shown
abbrev pub variable_part : (ℕ → Bool) → Reach → Circuit → List Statement
variable_part shows reach c =
    constant_part shows
    ++ (flat_map (input_part shows c.symbols) (enumerate_from 0 c.inputs)
    ++ (flat_map (latch_part shows reach c.symbols) (enumerate_from 0 c.latches)
    ++ flat_map (gate_part shows) c.gates))

-- the whole
abbrev pub statements : Picture → Circuit → List Statement
statements p c = variable_part (set.contains p.variables) (reach_of p.subject) c ++ subject_part p.subject c
