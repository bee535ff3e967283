-- The search for a cone: variables are found one after the other, and what each needs is added.
use Rattle.std.specs.Prelude.{◌≡◌, ◌==◌, ◌++◌, ◌∷◌, ◌↔◌, ℕ, List, [], Option, map, fold, slice_index_or}
use Rattle.std.specs.Prelude.{if◌then◌else◌}
use Rattle.std.specs.List.{list_any, position}
use Rattle.std.specs.Ordering.{nat_cmp}
use Rattle.std.specs.FinMap as finite
use Rattle.std.specs.FinSet as set
use Rattle.aig_circuit.specs.declared.circuit.Latch.{Latch}
use Rattle.aig_circuit.specs.declared.circuit.Gate.{Gate}
use Rattle.aig_circuit.specs.declared.circuit.Circuit.{Circuit}
use Rattle.aig_circuit.specs.Literal.{variable_of}
use Rattle.aig_circuit.specs.Wellformed.{IsAmong, operands}
use Rattle.aig_cone.specs.Cone.{IsInCone}
use Rattle.aig_cone.specs.declared.found.Found.{Found}
use Rattle.aig_cone.specs.declared.search.Reach.{Reach}
use Rattle.aig_cone.specs.declared.search.Reach.TheVariants.{OneStep, AllSteps}

abbrev pub latch_variables : Circuit → List ℕ
latch_variables c = map (λ (l : Latch). l.var) c.latches

abbrev pub gate_variables : List Gate → List ℕ
gate_variables gates = map (λ (g : Gate). g.var) gates

-- the variables that latches and gates define
abbrev pub definers : Circuit → List ℕ
definers c = latch_variables c ++ gate_variables c.gates

-- the place of the first of these that is the variable
abbrev pub place_of : List ℕ → ℕ → Option ℕ
place_of variables v = position (λ w. w == v) variables

-- the map has the places of these
abbrev pub HasPlaces : List ℕ → finite.FinMap nat_cmp ℕ → Type 0
HasPlaces variables places = (v : ℕ) → finite.get places v ≡ place_of variables v

-- what a latch needs
abbrev pub latch_needs : Reach → Latch → List ℕ
latch_needs OneStep l = []
latch_needs AllSteps l = variable_of l.next ∷ []

abbrev pub gate_needs : Gate → List ℕ
gate_needs g = map variable_of (operands g)

-- what the definition at a place needs, of latches and then gates
abbrev pub needs_at : Reach → Circuit → ℕ → List ℕ
needs_at reach c place = slice_index_or (map (latch_needs reach) c.latches ++ map gate_needs c.gates) place []

-- a variable is added unless it is there
abbrev pub with_one : List ℕ → ℕ → List ℕ
with_one found v = if list_any (λ w. w == v) found then found else found ++ v ∷ []

abbrev pub with_all : List ℕ → List ℕ → List ℕ
with_all found variables = fold with_one found variables

-- the marks are those of the variables that are found
abbrev pub HasMarks : Found → Type 0
HasMarks found = (v : ℕ) → set.contains found.marks v ≡ list_any (λ w. w == v) found.list.items

-- found is all that is in the cone of what was found first
abbrev pub IsSearched : Reach → Circuit → List ℕ → List ℕ → Type 0
IsSearched reach c first found = (v : ℕ) → IsAmong v found ↔ IsInCone reach c first v
