-- What the definitions of a stimulus say of one another.
use Rattle.std.specs.Prelude.{◌≡◌, ◌↔◌, ℕ, List, Bool, Option, length}
use Rattle.aig_circuit.specs.declared.circuit.Circuit.{Circuit}
use Rattle.aig_step.specs.Stimulus.{Runs, runs_of, stimulus}
use Rattle.aig_step.specs.StimulusText.{IsStimulusText}

-- what is read of bytes, line by line, is exactly what the texts of their lines are
abbrev pub StimuliAreRead : Type 0
StimuliAreRead = (c : Circuit) (bytes : List ℕ) (ended : Bool) (runs : Runs) (bad : Option ℕ)
    → (let said = stimulus (length c.inputs) bytes ended in (runs_of said.entries ≡ runs) × (said.bad ≡ bad))
    ↔ IsStimulusText c bytes ended runs bad
