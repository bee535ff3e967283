-- Clauses where some gates are left out: a gate that is the negation of a multiplexer has four, and the two gates of
-- which it is made have none (Tseitin's clauses of a multiplexer; this project's profile).
use Rattle.std.specs.Prelude.{◌≡◌, ◌≢◌, ◌⊎◌, ◌++◌, ℕ, List, [], ◌∷◌, length}
use Rattle.std.specs.List.{All, Contains, flat_map, zip}
use Rattle.aig_circuit.specs.declared.circuit.Gate.{Gate}
use Rattle.aig_circuit.specs.declared.circuit.Circuit.{Circuit}
use Rattle.aig_circuit.specs.Literal.{literal_of, negation_of, variable_of}
use Rattle.aig_cnf.specs.Clauses.{gate_clauses}
use Rattle.aig_cuts.specs.declared.cut.Multiplexer.{Multiplexer}
use Rattle.aig_cuts.specs.declared.cut.Cut.{Cut}
use Rattle.aig_cuts.specs.declared.cut.Cut.TheVariants.{Plain, Inner, Choice}

-- the variable is 1 exactly where what the multiplexer chooses is 0
abbrev pub choice_clauses : ℕ → Multiplexer → List (List ℕ)
choice_clauses v m =
    (negation_of m.selector ∷ negation_of m.if_one ∷ negation_of (literal_of v) ∷ [])
    ∷ (negation_of m.selector ∷ m.if_one ∷ literal_of v ∷ [])
    ∷ (m.selector ∷ negation_of m.if_zero ∷ negation_of (literal_of v) ∷ [])
    ∷ (m.selector ∷ m.if_zero ∷ literal_of v ∷ []) ∷ []

-- a gate, and how it is written
abbrev pub Planned : Type 0
Planned = Gate × Cut

-- the clauses of a gate that is written so
abbrev pub clauses_as : Gate → Cut → List (List ℕ)
clauses_as g Plain = gate_clauses g
clauses_as g Inner = []
clauses_as g (Choice m) = choice_clauses g.var m

-- the clauses of gates that are written as planned, in their order
abbrev pub planned_clauses : List Planned → List (List ℕ)
planned_clauses planned = flat_map (λ (p : Planned). clauses_as p.0 p.1) planned

-- the literal 1 is true, the clauses of all gates as the plan has them, and last that a bad state is 1
abbrev pub cut_clauses : List Cut → Circuit → List (List ℕ)
cut_clauses plan c = ((1 ∷ []) ∷ planned_clauses (zip c.gates plan)) ++ c.bad ∷ []

-- no gate that is left out defines the variable
abbrev pub IsKept : List Planned → ℕ → Type 0
IsKept planned v = (h : Gate) → Contains planned (h, Inner) → h.var ≢ v

-- the gate's operands, in either order
abbrev pub IsAndOf : Gate → ℕ → ℕ → Type 0
IsAndOf g l m = ((g.left ≡ l) × (g.right ≡ m)) ⊎ ((g.left ≡ m) × (g.right ≡ l))

-- The gate is the negation of a multiplexer, by two gates that are left out: one is 1 where the selector and what is
-- chosen then are, the other one where the selector is 0 and what is chosen then is 1, and the gate where neither is.
pub record IsChoice (planned : List Planned) (g : Gate) (m : Multiplexer) : Type 0 where
  pub at_one : Gate
  pub at_zero : Gate
  pub one_out : Contains planned (at_one, Inner)
  pub zero_out : Contains planned (at_zero, Inner)
  pub if_one : IsAndOf at_one m.selector m.if_one
  pub if_zero : IsAndOf at_zero (negation_of m.selector) m.if_zero
  pub neither : IsAndOf g (negation_of (literal_of at_one.var)) (negation_of (literal_of at_zero.var))

-- The gate may be written so. Operands of any other gate than a choice are kept, so what is chosen is too.
abbrev pub IsRightAs : List Planned → Gate → Cut → Type 0
IsRightAs planned g Plain = IsKept planned (variable_of g.left) × IsKept planned (variable_of g.right)
IsRightAs planned g Inner = IsKept planned (variable_of g.left) × IsKept planned (variable_of g.right)
IsRightAs planned g (Choice m) = IsChoice planned g m

-- each gate of the circuit may be written as the plan has it, and bad states are kept
pub record IsCutOf (plan : List Cut) (c : Circuit) : Type 0 where
  pub many : length plan ≡ length c.gates
  pub gates : (g : Gate) (cut : Cut) → Contains (zip c.gates plan) (g, cut) → IsRightAs (zip c.gates plan) g cut
  pub bad : All (λ (l : ℕ). IsKept (zip c.gates plan) (variable_of l)) c.bad
