-- The words of a circuit's sections, the circuit that they tell, and when its variables are numbered in order.
use Rattle.std.specs.Prelude.{◌≡◌, ◌⊎◌, ◌+◌, ◌*◌, ◌<◌, ◌≤◌, ◌++◌, ◌^◌, ℕ, suc, List, [], ◌∷◌, None, length, map, take}
use Rattle.std.specs.Prelude.{drop}
use Rattle.std.specs.Prelude.{sum}
use Rattle.std.specs.List.{All}
use Rattle.aig_arrays.specs.Words.{section_length}
use Rattle.aig_arrays.specs.declared.counts.Counts.{Counts}
use Rattle.aig_checked.specs.Parts.Numbered.{AreNumbered}
use Rattle.aig_circuit.specs.Literal.{literal_of, variable_of}
use Rattle.aig_circuit.specs.declared.circuit.Circuit.{Circuit}
use Rattle.aig_circuit.specs.declared.circuit.Gate.{Gate}
use Rattle.aig_circuit.specs.declared.circuit.Latch.{Latch}
use Rattle.aig_rows.specs.Rows.{reset_of}

-- the words of each section, where those of one kind that follow one another are one
pub record SectionWords : Type 0 where
  pub inputs : List ℕ
  pub latches : List ℕ
  pub shown : List ℕ
  pub sizes : List ℕ
  pub unshown : List ℕ
  pub gates : List ℕ

-- how many literals of outputs, bad states and constraints there are, and of justice properties and fairness
abbrev pub shown_count : Counts → ℕ
shown_count n = n.outputs + n.bad + n.constraints

abbrev pub unshown_count : Counts → ℕ
unshown_count n = n.justice_literals + n.fairness

-- they are as long as these counts say
pub record AreAsLong (n : Counts) (s : SectionWords) : Type 0 where
  pub inputs : length s.inputs ≡ n.inputs
  pub latches : length s.latches ≡ 3 * n.latches
  pub shown : length s.shown ≡ shown_count n
  pub sizes : length s.sizes ≡ n.justice
  pub unshown : length s.unshown ≡ unshown_count n
  pub gates : length s.gates ≡ 3 * n.gates

abbrev pub all_words : SectionWords → List ℕ
all_words s = s.inputs ++ (s.latches ++ (s.shown ++ (s.sizes ++ (s.unshown ++ s.gates))))

-- and the words begin with them
pub record AreSections (n : Counts) (words : List ℕ) (s : SectionWords) : Type 0 where
  pub long : AreAsLong n s
  pub words_are : take (section_length n) words ≡ all_words s

-- few enough that all that is counted of them fits into 64 bits
pub record AreFew (s : SectionWords) : Type 0 where
  pub inputs : length s.inputs < 2 ^ 34
  pub latches : length s.latches < 2 ^ 34
  pub sizes : length s.sizes < 2 ^ 32
  pub gates : length s.gates < 2 ^ 34

-- an entry of each three words
abbrev pub in_threes : {X : Type 0} → (ℕ → ℕ → ℕ → X) → List ℕ → List X
in_threes entry [] = []
in_threes entry (x ∷ []) = []
in_threes entry (x ∷ y ∷ []) = []
in_threes entry (x ∷ y ∷ z ∷ words) = entry x y z ∷ in_threes entry words

-- the latches and the gates of these words
abbrev pub latch_in : ℕ → ℕ → ℕ → Latch
latch_in own next reset = record { var = variable_of own; next = next; reset = reset_of reset }

abbrev pub gate_in : ℕ → ℕ → ℕ → Gate
gate_in own left right = record { var = variable_of own; left = left; right = right }

abbrev pub latches_in : List ℕ → List Latch
latches_in words = in_threes latch_in words

abbrev pub gates_in : List ℕ → List Gate
gates_in words = in_threes gate_in words

-- the circuit of sections
abbrev pub circuit_in : Counts → SectionWords → Circuit
circuit_in n s = record {
  max_var = n.max_var;
  inputs = map variable_of s.inputs;
  latches = latches_in s.latches;
  outputs = take n.outputs s.shown;
  bad = take n.bad (drop n.outputs s.shown);
  constraints = drop n.bad (drop n.outputs s.shown);
  justice = record { sizes = s.sizes; literals = take n.justice_literals s.unshown };
  fairness = drop n.justice_literals s.unshown;
  gates = gates_in s.gates;
  symbols = [];
  comment = None;
}

-- each three words are right for their variable: the first for this one, and each other ones for the next
abbrev pub AreInThrees : (ℕ → ℕ → ℕ → ℕ → Type 0) → ℕ → List ℕ → Type 0
AreInThrees AreRight variable [] = Unit {0}
AreInThrees AreRight variable (x ∷ []) = Unit {0}
AreInThrees AreRight variable (x ∷ y ∷ []) = Unit {0}
AreInThrees AreRight variable (x ∷ y ∷ z ∷ words) =
    AreRight variable x y z × AreInThrees AreRight (suc variable) words

-- the word of an input, the words of a latch whose next state is no higher than this, and of a gate that are right for
-- a variable
abbrev pub IsInputWord : ℕ → ℕ → Type 0
IsInputWord variable own = own ≡ literal_of variable

abbrev pub AreLatchWords : ℕ → ℕ → ℕ → ℕ → ℕ → Type 0
AreLatchWords highest variable own next reset =
    (own ≡ literal_of variable) × (next ≤ highest) × ((reset ≤ 1) ⊎ (reset ≡ own))

abbrev pub AreGateWords : ℕ → ℕ → ℕ → ℕ → Type 0
AreGateWords variable own left right =
    (own ≡ literal_of variable) × (left < literal_of variable) × (right < literal_of variable)

-- the highest literal
abbrev pub highest_literal : Counts → ℕ
highest_literal n = 2 * n.max_var + 1

-- inputs, latches and gates are right
pub record AreDefinedInOrder (n : Counts) (s : SectionWords) : Type 0 where
  pub inputs : AreNumbered IsInputWord 1 s.inputs
  pub latches : AreInThrees (AreLatchWords (highest_literal n)) (1 + n.inputs) s.latches
  pub gates : AreInThrees AreGateWords (1 + n.inputs + n.latches) s.gates

-- the literals that are listed, and the sizes of justice properties, are right
pub record AreListed (n : Counts) (s : SectionWords) : Type 0 where
  pub shown : All (λ literal. literal ≤ highest_literal n) s.shown
  pub unshown : All (λ literal. literal ≤ highest_literal n) s.unshown
  pub sizes : sum s.sizes ≡ n.justice_literals

-- the sections are those of a circuit whose variables are numbered in order
pub record AreOrdered (n : Counts) (s : SectionWords) : Type 0 where
  pub all : n.max_var ≡ n.inputs + n.latches + n.gates
  pub defined : AreDefinedInOrder n s
  pub listed : AreListed n s
