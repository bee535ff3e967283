-- The text of a variable, from which those of its literals are copied.
use Rattle.std.specs.Prelude.{◌≡◌, ◌+◌, ◌-◌, ◌*◌, ◌++◌, ℕ, List, codes, decimal, drop, length, replicate}
use Rattle.aig_cnf.specs.declared.variable_text.VariableText.{VariableText}
use Rattle.aig_cnf.specs.declared.variable_text.TheConstants.{END, LITERAL_SIZE}

-- what is after its digits
abbrev pub spaces : List ℕ
spaces = replicate (2 * LITERAL_SIZE - END) 32

abbrev pub IsBlank : VariableText → Type 0
IsBlank t = drop END t.bytes ≡ spaces

-- a sign, the variable's number, which ends at its place, and spaces
pub record IsVariableText (variable : ℕ) (t : VariableText) : Type 0 where
  pub digits : t.from + 1 + length (decimal (variable + 1)) ≡ END
  pub text : drop t.from t.bytes ≡ codes "-" ++ (decimal (variable + 1) ++ spaces)
