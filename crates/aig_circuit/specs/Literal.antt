-- Literals (AIGER report): variable v has the literal 2v and its negation 2v + 1; 0 is FALSE and 1 is TRUE.
use Rattle.std.specs.Prelude.{◌≡◌, ◌+◌, ◌-◌, ◌*◌, ◌/◌, ◌%◌, ◌==◌, ℕ, if◌then◌else◌}

abbrev pub variable_of : ℕ → ℕ
variable_of literal = literal / 2

abbrev pub IsNegated : ℕ → Type 0
IsNegated literal = literal % 2 ≡ 1

-- the literal of the same variable with the other sign
abbrev pub negation_of : ℕ → ℕ
negation_of literal = if literal % 2 == 0 then literal + 1 else literal - 1

-- the literal of a variable that is not negated
abbrev pub literal_of : ℕ → ℕ
literal_of variable = 2 * variable
