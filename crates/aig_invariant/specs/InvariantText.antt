-- The file of an invariant (this project's profile): a PLA, as ABC's pdr writes it. A row has a character for each
-- latch, in the order of the model, then a space and 1: a 0 or a 1 is the value that its cube asks for, a - is none. An
-- empty line, and one that begins with # or with a dot, says nothing of a cube.
use Rattle.std.specs.Prelude.{◌+◌, ◌==◌, ◌||◌, ℕ, List, [], ◌∷◌, Bool, true, Option, None, Some, Result, Ok, Err}
use Rattle.std.specs.Prelude.{codes, length, option_and_then, option_map, if◌then◌else◌}
use Rattle.std.specs.Str.{bytes_eq}
use Rattle.aig_circuit.specs.declared.circuit.Reset.{Reset}
use Rattle.aig_circuit.specs.declared.value.Val.{Val}
use Rattle.aig_circuit.specs.declared.value.Val.TheVariants.{Zero, One, X}
use Rattle.aig_fault.specs.Stopping.{fault_at}
use Rattle.aig_fault.specs.declared.fault.Fault.{Fault}
use Rattle.aig_fault.specs.declared.fault.Place.TheVariants as places
use Rattle.aig_fault.specs.declared.kind.Kind.{Kind}
use Rattle.aig_fault.specs.declared.kind.Kind.TheVariants.{BadInvariant, MetAtStart, NotEachLatch}
use Rattle.aig_lines.specs.Lines.{Line, lines_of}
use Rattle.aig_invariant.specs.Invariant.{Cube, is_off_start}

-- whether a line says nothing of a cube
abbrev pub is_passed : List ℕ → Bool
is_passed [] = true
is_passed (b ∷ bs) = b == 35 || b == 46

-- the value that a character asks for
abbrev pub asked_value : ℕ → Option Val
asked_value b = if b == 48 then Some Zero else if b == 49 then Some One else if b == 45 then Some X else None

-- the cube of a row
abbrev pub cube_in : List ℕ → Option Cube
cube_in [] = None
cube_in (b ∷ bs) =
    if bytes_eq (b ∷ bs) (codes " 1") then Some []
    else option_and_then (λ (v : Val). option_map (λ (vs : Cube). v ∷ vs) (cube_in bs)) (asked_value b)

-- this is wrong with the line of this number
abbrev pub fault_in : Kind → ℕ → Fault
fault_in kind number = fault_at kind (places.Line number) 0

-- the cube, where it is one of an invariant over latches that start so
abbrev pub judged : List Reset → ℕ → Cube → Result Cube Fault
judged starts number cube =
    if length cube == length starts then
    if is_off_start starts cube then Ok cube else Err (fault_in MetAtStart number)
    else Err (fault_in NotEachLatch number)

abbrev pub row_says : List Reset → ℕ → Option Cube → Result Cube Fault
row_says starts number None = Err (fault_in BadInvariant number)
row_says starts number (Some cube) = judged starts number cube

-- the cubes with one more before them, where neither has a fault
abbrev pub joined : Result Cube Fault → Result (List Cube) Fault → Result (List Cube) Fault
joined (Err fault) rest = Err fault
joined (Ok cube) (Err fault) = Err fault
joined (Ok cube) (Ok cubes) = Ok (cube ∷ cubes)

-- the cubes of lines, the first of which has this number; or what is wrong with the first wrong one
abbrev pub cubes_from : List Reset → ℕ → List Line → Result (List Cube) Fault
cubes_from starts number [] = Ok []
cubes_from starts number (l ∷ ls) =
    if is_passed l.text then cubes_from starts (number + 1) ls
    else joined (row_says starts number (cube_in l.text)) (cubes_from starts (number + 1) ls)

abbrev pub cubes_of : List Reset → List ℕ → Result (List Cube) Fault
cubes_of starts bytes = cubes_from starts 1 (lines_of bytes)
