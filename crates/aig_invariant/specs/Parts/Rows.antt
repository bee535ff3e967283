-- The rows of an invariant's file as the code sees them: what a text is as a row is said of any text.
use Rattle.std.specs.Prelude.{◌≡◌, ◌-◌, ◌==◌, ◌||◌, ◌&&◌, ◌∷◌, ℕ, List, [], Bool, false, true, Ok, Err, codes, drop}
use Rattle.std.specs.Prelude.{length, map, take, if◌then◌else◌}
use Rattle.std.specs.Str.{bytes_eq}
use Rattle.aig_circuit.specs.declared.value.Val.{Val}
use Rattle.aig_circuit.specs.declared.value.Val.TheVariants.{Zero, One, X}
use Rattle.aig_circuit.specs.declared.circuit.Reset.{Reset}
use Rattle.aig_fault.specs.declared.fault.Fault.{Fault}
use Rattle.aig_lines.specs.Lines.{Line}
use Rattle.aig_invariant.specs.Invariant.{Cube}
use Rattle.aig_invariant.specs.InvariantText.{cube_in, is_passed, row_says}

-- whether a character asks for a value, or for none
abbrev pub is_value : ℕ → Bool
is_value b = b == 48 || (b == 49 || b == 45)

abbrev pub are_values : List ℕ → Bool
are_values [] = true
are_values (b ∷ bs) = is_value b && are_values bs

-- the value that a character asks for
abbrev pub value_or_x : ℕ → Val
value_or_x b = if b == 48 then Zero else if b == 49 then One else X

-- a text without its last two characters
abbrev pub row_of : List ℕ → List ℕ
row_of text = take (length text - 2) text

abbrev pub is_row : List ℕ → Bool
is_row text = bytes_eq (drop (length text - 2) text) (codes " 1") && are_values (row_of text)

abbrev pub cube_at : List ℕ → Cube
cube_at text = map value_or_x (row_of text)

-- the cubes of lines, where each is right
abbrev pub cubes_at : List Line → List Cube
cubes_at [] = []
cubes_at (l ∷ ls) = if is_passed l.text then cubes_at ls else cube_at l.text ∷ cubes_at ls

-- a line of this number says nothing of a cube, or has its cube; or this is wrong with it
abbrev pub IsRightLine : List Reset → ℕ → List ℕ → Type 0
IsRightLine starts number text =
    is_passed text ≡ false → row_says starts number (cube_in text) ≡ Ok (cube_at text)

abbrev pub IsWrongLine : List Reset → ℕ → List ℕ → Fault → Type 0
IsWrongLine starts number text fault =
    (is_passed text ≡ false) × (row_says starts number (cube_in text) ≡ Err fault)
