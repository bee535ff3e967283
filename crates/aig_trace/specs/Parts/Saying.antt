-- What the lines of a stimulus say, line by line.
use Rattle.std.specs.Prelude.{◌++◌, ℕ, List, [], ◌∷◌, true, false, Option, None, Some, max}
use Rattle.aig_lines.specs.Feeding.{Feeding, Turn, feeding, turn}
use Rattle.aig_step.specs.Stimulus.{Entry, entry_in}

-- how many inputs the circuit has, what the lines so far say, and what else is known of the one who takes them
pub record Saying (K : Type 0) : Type 0 where
  pub known : K
  pub inputs : ℕ
  pub entries : List Entry

-- before the first line
abbrev pub nothing_said : {K : Type 0} → K → ℕ → Saying K
nothing_said known inputs = record { known = known; inputs = inputs; entries = [] }

-- with one more entry, if a line says one
abbrev pub entry_turn : {K : Type 0} → Saying K → Option Entry → Turn (Saying K)
entry_turn s None = turn s false
entry_turn s (Some entry) = turn (record s { entries = s.entries ++ (entry ∷ []) }) true

-- what one more line of this text comes to
abbrev pub say_line : {K : Type 0} → Saying K → List ℕ → Turn (Saying K)
say_line s text = entry_turn s (entry_in s.inputs text)

-- how long a line may be: none that says anything is longer
abbrev pub longest_entry : ℕ → ℕ
longest_entry inputs = max inputs 1

-- where the fold of bytes begins, before the first
abbrev pub before_lines : {K : Type 0} → K → ℕ → Feeding (Saying K)
before_lines known inputs = feeding (longest_entry inputs) (nothing_said known inputs)
