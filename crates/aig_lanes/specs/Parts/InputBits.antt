-- The inputs of runs as bits.
use Rattle.std.specs.Prelude.{◌≡◌, ◌+◌, ◌-◌, ◌*◌, ◌/◌, ◌%◌, ◌^◌, ◌<◌, ◌≤◌, ◌==◌, ℕ, List, [], ◌∷◌}
use Rattle.std.specs.Prelude.{if◌then◌else◌, length, min, slice_index_or}
use Rattle.std.specs.Int.{bit_at}
use Rattle.aig_circuit.specs.declared.value.Val.{Val}
use Rattle.aig_lanes.specs.declared.input_bits.InputWord.{InputWord}
use Rattle.aig_lanes.specs.declared.run.Run.{Run}
use Rattle.aig_step.specs.TraceText.{values_text}

-- the bits of a word tell in which places of a text, from one on, another character stands
abbrev pub TellsOther : (character first : ℕ) → List ℕ → (word : ℕ) → Type 0
TellsOther character first text word = (k : ℕ) → k < 64 → first + k < length text
    → bit_at word k ≡ (if slice_index_or text (first + k) 0 == character then 0 else 1)

-- the bits of 64 inputs, from one on, in a text that has a character for each
pub record IsWord (first : ℕ) (text : List ℕ) (word : InputWord) : Type 0 where
  pub one : TellsOther 48 first text word.one
  pub zero : TellsOther 49 first text word.zero

abbrev pub no_word : InputWord
no_word = record { one = 0; zero = 0 }

-- the bits for a step in a lane; none where it has no such step
abbrev pub word_at : (lane step : ℕ) → List (List InputWord) → InputWord
word_at lane step lanes = slice_index_or (slice_index_or lanes lane []) step no_word

-- the bits of 64 inputs, from one on, in all steps of a run
abbrev pub HoldsInputs : (first : ℕ) → Run → List InputWord → Type 0
HoldsInputs first run words = (step : ℕ) (d : InputWord) → step < length run.steps
    → IsWord first (values_text (slice_index_or run.steps step [])) (slice_index_or words step d)

-- the bits of 64 inputs, from one on, in each lane that has a run
abbrev pub HoldsBlock : (first : ℕ) → List Run → List (List InputWord) → Type 0
HoldsBlock first runs lanes = (l : ℕ) (d : Run) → l < length runs
    → HoldsInputs first (slice_index_or runs l d) (slice_index_or lanes l [])

-- the bits of all inputs
abbrev pub HoldsBlocks : List Run → List (List (List InputWord)) → Type 0
HoldsBlocks runs bits = (block : ℕ) → block < length bits
    → HoldsBlock (64 * block) runs (slice_index_or bits block [])

-- the bits of all inputs in all steps of a run, in one lane
abbrev pub HoldsLane : (lane : ℕ) → Run → List (List (List InputWord)) → Type 0
HoldsLane lane run bits = (block : ℕ) → block < length bits
    → HoldsInputs (64 * block) run (slice_index_or (slice_index_or bits block []) lane [])

-- a run of one step
abbrev pub one_step : List Val → Run
one_step vector = record { steps = vector ∷ [] }

-- of the steps of a run the one that a lane takes: its own, or else the last
abbrev pub step_of : Run → (lane : ℕ) → List Val
step_of run lane = slice_index_or run.steps (min lane (length run.steps - 1)) []

-- each lane has room for a step
abbrev pub HasStep : List (List InputWord) → Type 0
HasStep lanes = (l : ℕ) → l < 256 → 0 < length (slice_index_or lanes l [])

-- each run has room in its lane
abbrev pub HasLaneRoom : List Run → List (List InputWord) → Type 0
HasLaneRoom runs lanes = (l : ℕ) (d : Run) → l < 256 → l < length runs
    → length (slice_index_or runs l d).steps ≤ length (slice_index_or lanes l [])

-- blocks have as much room as they had
pub record SameRooms (before after : List (List (List InputWord))) : Type 0 where
  pub count : length after ≡ length before
  pub sizes : (block l : ℕ) → length (slice_index_or (slice_index_or after block []) l [])
      ≡ length (slice_index_or (slice_index_or before block []) l [])

-- there is a block for each 64 inputs, the last one perhaps for fewer
pub record AreBlocks (inputs count : ℕ) : Type 0 where
  pub enough : inputs ≤ 64 * count
  pub few : 64 * count < inputs + 64

-- the words of all inputs for a step in a lane are those of a vector
abbrev pub AreWords : (lane step : ℕ) → List Val → List (List (List InputWord)) → Type 0
AreWords lane step vector bits = (block : ℕ) → block < length bits
    → IsWord (64 * block) (values_text vector) (word_at lane step (slice_index_or bits block []))

-- of bytes for eight inputs in all lanes, the one of a lane
abbrev pub byte_in : (eight lane : ℕ) → List (List ℕ) → ℕ
byte_in eight lane eights = slice_index_or (slice_index_or eights eight []) lane 0

-- the bytes of a lane have the bits of these words
pub record AreBytes (lane : ℕ) (word : InputWord) (ones zeros : List (List ℕ)) : Type 0 where
  pub one : (k : ℕ) → k < 8 → byte_in k lane ones ≡ word.one / 256 ^ k % 256
  pub zero : (k : ℕ) → k < 8 → byte_in k lane zeros ≡ word.zero / 256 ^ k % 256
