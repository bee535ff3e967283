-- What a picture shows (this project's profile): a whole circuit, or what stands at a position among its kind, with its
-- cone.
use Rattle.std.specs.Prelude.{◌≡◌, ◌<◌, ◌++◌, ℕ, List, [], map, take, drop, slice_index_or, ⊤}
use Rattle.std.specs.List.{concat}
use Rattle.aig_circuit.specs.declared.circuit.Circuit.{Circuit}
use Rattle.aig_circuit.specs.declared.circuit.Kind.{Kind}
use Rattle.aig_circuit.specs.declared.circuit.Kind.TheVariants as kinds
use Rattle.aig_circuit.specs.Justice.{properties_of}
use Rattle.aig_circuit.specs.Literal.{literal_of}
use Rattle.aig_circuit.specs.Wellformed.{count_of, defined_variables, literal_lists}
use Rattle.aig_cone.specs.Cone.{IsConeOf}
use Rattle.aig_cone.specs.Counts.{gates_in}
use Rattle.aig_cone.specs.declared.search.Reach.{Reach}
use Rattle.aig_cone.specs.declared.search.Reach.TheVariants.{AllSteps}
use Rattle.aig_dot.specs.declared.picture.Picture.{Picture}
use Rattle.aig_dot.specs.declared.subject.Subject.{Subject}
use Rattle.aig_dot.specs.declared.subject.Subject.TheVariants.{Whole, Cone}

-- the circuit has it
abbrev pub IsIn : Subject → Circuit → Type 0
IsIn Whole c = ⊤
IsIn (Cone part) c = part.position < count_of c part.kind

-- the one literal at a position, if it is there
abbrev pub literal_at : List ℕ → ℕ → List ℕ
literal_at literals position = take 1 (drop position literals)

-- The literals of what a circuit shows at a position: one, but for a justice property. An input and a latch show none.
abbrev pub literals_at : Circuit → Kind → ℕ → List ℕ
literals_at c kinds.Input position = []
literals_at c kinds.Latch position = []
literals_at c kinds.Output position = literal_at c.outputs position
literals_at c kinds.Bad position = literal_at c.bad position
literals_at c kinds.Constraint position = literal_at c.constraints position
literals_at c kinds.Justice position = slice_index_or (properties_of c.justice) position []
literals_at c kinds.Fairness position = literal_at c.fairness position

-- the literals whose cone is shown: of a whole circuit those of each variable, and all that it shows
abbrev pub roots_of : Subject → Circuit → List ℕ
roots_of Whole c = map literal_of (defined_variables c) ++ concat (literal_lists c)
roots_of (Cone part) c = literals_at c part.kind part.position

abbrev pub reach_of : Subject → Reach
reach_of Whole = AllSteps
reach_of (Cone part) = part.reach

-- the picture has the variables of that cone
abbrev pub IsPictureOf : Subject → Circuit → Picture → Type 0
IsPictureOf subject c p = (p.subject ≡ subject) × IsConeOf (reach_of subject) c (roots_of subject c) p.variables

-- a picture of it has so many gates, more than the limit
abbrev pub IsTooLarge : Subject → Circuit → ℕ → ℕ → Type 0
IsTooLarge subject c limit gates =
    (p : Picture) × IsPictureOf subject c p × (gates ≡ gates_in p.variables c.gates) × (limit < gates)
