-- The steps of a run where they stand: lines of one length, each of which begins with the characters of the inputs.
use Rattle.std.specs.Prelude.{◌≡◌, ◌+◌, ◌*◌, ◌<◌, ◌≤◌, ℕ, zero, suc, List, [], ◌∷◌, Option, None, Some}
use Rattle.std.specs.Prelude.{drop, is_some, length, take, true}
use Rattle.aig_circuit.specs.declared.value.Val.{Val}
use Rattle.aig_step.specs.Stimulus.{values_of}

-- the values that are said, if any are
abbrev pub said : Option (List Val) → List Val
said None = []
said (Some values) = values

-- the vectors that so many lines of this length say
abbrev pub vectors_in : (inputs stride steps : ℕ) → List ℕ → List (List Val)
vectors_in inputs stride zero lines = []
vectors_in inputs stride (suc steps) lines =
    said (values_of (take inputs lines)) ∷ vectors_in inputs stride steps (drop stride lines)

-- each of them is there, and says one
pub record AreVectors (inputs stride steps : ℕ) (lines : List ℕ) : Type 0 where
  pub within : (k : ℕ) → k < steps → k * stride + inputs ≤ length lines
  pub good : (k : ℕ) → k < steps → is_some (values_of (take inputs (drop (k * stride) lines))) ≡ true
