-- What a dump shows, kind by kind, and where its characters stand in the line of a step (this project's profile).
use Rattle.std.specs.Prelude.{◌+◌, ℕ, List, [], ◌∷◌, length}
use Rattle.aig_circuit.specs.declared.circuit.Circuit.{Circuit}
use Rattle.aig_circuit.specs.declared.circuit.Kind.{Kind}
use Rattle.aig_circuit.specs.declared.circuit.Kind.TheVariants.{Input, Latch, Output, Bad, Constraint, Justice}
use Rattle.aig_circuit.specs.declared.circuit.Kind.TheVariants.{Fairness}

-- the letter of a kind, as in a symbol
abbrev pub letter : Kind → ℕ
letter Input = 105
letter Latch = 108
letter Output = 111
letter Bad = 98
letter Constraint = 99
letter Justice = 106
letter Fairness = 102

-- what is shown, in this order
abbrev pub kinds : List Kind
kinds = Input ∷ Latch ∷ Output ∷ Bad ∷ Constraint ∷ []

-- where the next state begins in the line of a step, after state, inputs and outputs
abbrev pub next_place : Circuit → ℕ
next_place c = length c.latches + 1 + length c.inputs + 1 + length c.outputs + 1

-- where the characters of a kind begin; those of latches are the state before the step
abbrev pub place : Circuit → Kind → ℕ
place c Input = length c.latches + 1
place c Output = length c.latches + 1 + length c.inputs + 1
place c Bad = next_place c + length c.latches + 1
place c Constraint = next_place c + length c.latches + 1 + length c.bad + 1
place c _ = 0

-- how long the line is, without its line feed
abbrev pub width : Circuit → ℕ
width c = next_place c + length c.latches + 1 + length c.bad + 1 + length c.constraints
