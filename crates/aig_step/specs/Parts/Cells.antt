-- Values as bytes, and tables of values as bytes: the byte of each value, and after it that of its negation, so that a
-- literal is the place of its own byte.
use Rattle.std.specs.Prelude.{◌≡◌, ◌==◌, ℕ, List, [], ◌∷◌, if◌then◌else◌}
use Rattle.aig_circuit.specs.declared.value.Val.{Val}
use Rattle.aig_circuit.specs.declared.value.Val.TheVariants.{Zero, One, X}
use Rattle.aig_circuit.specs.Values.{value_not}

-- the bytes are such that the bitwise and of two is that of their `and`
abbrev pub code_of : Val → ℕ
code_of Zero = 0
code_of One = 3
code_of X = 1

abbrev pub value_of_code : ℕ → Val
value_of_code byte = if byte == 0 then Zero else if byte == 1 then X else One

abbrev pub bytes_of_values : List Val → List ℕ
bytes_of_values [] = []
bytes_of_values (v ∷ vs) = code_of v ∷ code_of (value_not v) ∷ bytes_of_values vs

abbrev pub values_of_bytes : List ℕ → List Val
values_of_bytes [] = []
values_of_bytes (byte ∷ []) = []
values_of_bytes (byte ∷ negation ∷ bytes) = value_of_code byte ∷ values_of_bytes bytes

-- the bytes are those of a table
abbrev pub AreCodes : List ℕ → Type 0
AreCodes bytes = bytes_of_values (values_of_bytes bytes) ≡ bytes
