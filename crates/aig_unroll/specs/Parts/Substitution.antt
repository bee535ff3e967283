-- The frame's substitution: what stands for literals, by a table of what stands for each variable up to the last latch.
use Rattle.std.specs.Prelude.{◌+◌, ◌-◌, ◌*◌, ◌%◌, ◌==◌, ◌≤◌, ℕ, List, length, nat_lt, slice_index_or}
use Rattle.std.specs.Prelude.{if◌then◌else◌}
use Rattle.aig_circuit.specs.declared.circuit.Gate.{Gate}
use Rattle.aig_circuit.specs.declared.circuit.TheConstants.{LARGEST}
use Rattle.aig_circuit.specs.Literal.{negation_of, variable_of}

-- what stands for a literal, where this stands for its variable: the sign carries over
abbrev pub with_sign : ℕ → ℕ → ℕ
with_sign literal stands = if literal % 2 == 0 then stands else negation_of stands

-- What stands for a literal. Variables after the table are those of gates, which are numbered from this one on.
abbrev pub substituted : List ℕ → ℕ → ℕ → ℕ
substituted substitution first literal =
    if nat_lt (variable_of literal) (length substitution)
    then with_sign literal (slice_index_or substitution (variable_of literal) 0)
    else 2 * first + (literal - 2 * length substitution)

-- Where the table has so many places, what stands for the literal is not too large.
abbrev pub FitsLiteral : ℕ → ℕ → ℕ → Type 0
FitsLiteral places first literal = first + variable_of literal ≤ LARGEST + places

pub record GateHasRoom (places first : ℕ) (g : Gate) : Type 0 where
  pub left : FitsLiteral places first g.left
  pub right : FitsLiteral places first g.right
