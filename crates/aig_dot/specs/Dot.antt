-- The text of a picture in the DOT language of Graphviz. As in AIGER's aigtodot, an arrow that ends in a dot negates.
use Rattle.std.specs.Prelude.{◌==◌, ◌%◌, ◌++◌, ℕ, List, Bool, true, false, codes, decimal}
use Rattle.std.specs.List.{flat_map}
use Rattle.aig_circuit.specs.declared.circuit.Circuit.{Circuit}
use Rattle.aig_circuit.specs.Literal.{variable_of}
use Rattle.aig_dot.specs.declared.graph.Node.{Node}
use Rattle.aig_dot.specs.declared.graph.Node.TheVariants.{Variable, Shown}
use Rattle.aig_dot.specs.declared.graph.Shape.{Shape}
use Rattle.aig_dot.specs.declared.graph.Shape.TheVariants as shapes
use Rattle.aig_dot.specs.declared.picture.Picture.{Picture}
use Rattle.aig_dot.specs.Graph.{HasArrow, HasNode, Statement, statements}
use Rattle.aig_dot.specs.Label.{position_text}

abbrev pub variable_text : ℕ → List ℕ
variable_text variable = codes "v" ++ decimal variable

-- the identifier of a node
abbrev pub node_text : Node → List ℕ
node_text (Variable variable) = variable_text variable
node_text (Shown kind position) = position_text kind position

abbrev pub shape_text : Shape → List ℕ
shape_text shapes.Constant = codes "plaintext"
shape_text shapes.Input = codes "invhouse"
shape_text shapes.Latch = codes "box"
shape_text shapes.Gate = codes "circle"
shape_text shapes.Shown = codes "house"

-- what stands before a label
abbrev pub opening_text : Node → Shape → List ℕ
opening_text node shape =
    codes "  " ++ (node_text node ++ (codes " [shape=" ++ (shape_text shape ++ codes ",label=\"")))

-- An arrow to a latch is dotted, and does not decide what stands above what.
abbrev pub style_text : Bool → Bool → List ℕ
style_text false false = codes ";\n"
style_text false true = codes " [arrowhead=odot];\n"
style_text true false = codes " [style=dotted,constraint=false];\n"
style_text true true = codes " [style=dotted,constraint=false,arrowhead=odot];\n"

abbrev pub arrow_text : ℕ → Node → Bool → List ℕ
arrow_text from to is_next =
    codes "  " ++ (variable_text (variable_of from) ++ (codes " -> " ++ (node_text to
    ++ style_text is_next (from % 2 == 1))))

abbrev pub statement_text : Statement → List ℕ
statement_text (HasNode node shape label) = opening_text node shape ++ (label ++ codes "\"];\n")
statement_text (HasArrow from to is_next) = arrow_text from to is_next

abbrev pub statements_text : List Statement → List ℕ
statements_text list = flat_map statement_text list

-- the whole
unfoldable pub dot_text : Picture → Circuit → List ℕ
dot_text p c = codes "digraph aiger {\n" ++ (statements_text (statements p c) ++ codes "}\n")
