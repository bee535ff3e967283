-- Which circuits are well formed. The AIGER report asks that each variable is defined at most once, that each used
-- variable is defined, and that gates are acyclic. The limits, and what is asked of symbols, are this project's
-- profile.
use Rattle.std.specs.Prelude.{◌≡◌, ◌<◌, ◌≤◌, ℕ, List, [], ◌∷◌, ◌++◌, ◌⊎◌, map, length}
use Rattle.std.specs.List.{concat, flat_map, AllByRecursion, Contains, sum}
use Rattle.aig_circuit.specs.declared.circuit.Latch.{Latch}
use Rattle.aig_circuit.specs.declared.circuit.Gate.{Gate}
use Rattle.aig_circuit.specs.declared.circuit.Kind.{Kind}
use Rattle.aig_circuit.specs.declared.circuit.Kind.TheVariants as kinds
use Rattle.aig_circuit.specs.declared.circuit.Symbol.{Symbol}
use Rattle.aig_circuit.specs.declared.circuit.Circuit.{Circuit}
use Rattle.aig_circuit.specs.Literal.{variable_of}

-- the variables that inputs, latches and gates define, in the order of the file
abbrev pub defined_variables : Circuit → List ℕ
defined_variables c = c.inputs ++ map (λ (l : Latch). l.var) c.latches ++ map (λ (g : Gate). g.var) c.gates

-- the operands of a gate, in the order of the file
abbrev pub operands : Gate → List ℕ
operands g = g.left ∷ g.right ∷ []

-- the lists of literals that a circuit has beside its latches and gates, in the order of the file
abbrev pub literal_lists : Circuit → List (List ℕ)
literal_lists c = c.outputs ∷ c.bad ∷ c.constraints ∷ c.justice.literals ∷ c.fairness ∷ []

-- the literals that are used: next literals, those lists, and operands, in the order of the file
abbrev pub used_literals : Circuit → List ℕ
used_literals c = map (λ (l : Latch). l.next) c.latches ++ concat (literal_lists c) ++ flat_map operands c.gates

-- the number stands in the list
abbrev pub IsAmong : ℕ → List ℕ → Type 0
IsAmong x [] = ⊥
IsAmong x (y ∷ ys) = (x ≡ y) ⊎ IsAmong x ys

-- no number stands in the list twice
abbrev pub AreDistinct : List ℕ → Type 0
AreDistinct [] = Unit {0}
AreDistinct (x ∷ xs) = (¬ IsAmong x xs) × AreDistinct xs

-- an index that a circuit with this largest index may define
abbrev pub IsVariableUpTo : ℕ → ℕ → Type 0
IsVariableUpTo max_var v = (1 ≤ v) × (v ≤ max_var)

-- a constant, or a literal over one of the variables
abbrev pub IsKnown : List ℕ → ℕ → Type 0
IsKnown variables literal = (variable_of literal ≡ 0) ⊎ IsAmong (variable_of literal) variables

-- a rank gives each gate more than each of its operands that is a gate, so no gate depends on itself
abbrev pub IsRank : (ℕ → ℕ) → List Gate → Type 0
IsRank rank gates = (g h : Gate) → Contains gates g → Contains gates h → IsAmong h.var (map variable_of (operands g))
    → rank h.var < rank g.var

abbrev pub HasRank : List Gate → Type 0
HasRank gates = (rank : ℕ → ℕ) × IsRank rank gates

-- the largest index that a file may have, and the largest count: 2^31 - 1, so that each literal fits into 32 bits
abbrev pub largest_index : ℕ
largest_index = 2147483647

-- The largest index and all counts are small enough to be written in a file, and the sizes of the justice properties
-- are those of the literals that there are.
pub record IsWithinLimits (c : Circuit) : Type 0 where
  pub max_var : c.max_var ≤ largest_index
  pub inputs : length c.inputs ≤ largest_index
  pub latches : length c.latches ≤ largest_index
  pub literals : AllByRecursion (λ (ls : List ℕ). length ls ≤ largest_index) (literal_lists c)
  pub justice : length c.justice.sizes ≤ largest_index
  pub sizes : sum c.justice.sizes ≡ length c.justice.literals
  pub gates : length c.gates ≤ largest_index

-- how many things there are that a symbol of this kind may name
abbrev pub count_of : Circuit → Kind → ℕ
count_of c kinds.Input = length c.inputs
count_of c kinds.Latch = length c.latches
count_of c kinds.Output = length c.outputs
count_of c kinds.Bad = length c.bad
count_of c kinds.Constraint = length c.constraints
count_of c kinds.Justice = length c.justice.sizes
count_of c kinds.Fairness = length c.fairness

abbrev pub NameTheSame : Symbol → Symbol → Type 0
NameTheSame s t = (s.kind ≡ t.kind) × (s.position ≡ t.position)

-- nothing is named twice
abbrev pub NameApart : List Symbol → Type 0
NameApart [] = Unit {0}
NameApart (s ∷ ss) = AllByRecursion (λ t. ¬ NameTheSame s t) ss × NameApart ss

abbrev pub line_feed : ℕ
line_feed = 10

-- each symbol names something that is there, in one line, and nothing is named twice
pub record HasGoodSymbols (c : Circuit) : Type 0 where
  pub positions : AllByRecursion (λ (s : Symbol). s.position < count_of c s.kind) c.symbols
  pub apart : NameApart c.symbols
  pub lines : AllByRecursion (λ (s : Symbol). ¬ IsAmong line_feed s.name) c.symbols

pub record IsWellFormed (c : Circuit) : Type 0 where
  pub limits : IsWithinLimits c
  pub in_range : AllByRecursion (IsVariableUpTo c.max_var) (defined_variables c)
  pub once : AreDistinct (defined_variables c)
  pub known : AllByRecursion (IsKnown (defined_variables c)) (used_literals c)
  pub symbols : HasGoodSymbols c
  pub ranked : HasRank c.gates
