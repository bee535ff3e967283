-- Labels of a picture (the DOT language of Graphviz): strings between quotes, in which a backslash and a quote stand
-- after a backslash, and an ampersand begins a character reference.
use Rattle.std.specs.Prelude.{◌==◌, ◌&&◌, ◌++◌, ℕ, List, [], ◌∷◌, Bool, Option, None, Some, bytes_eq, codes, decimal}
use Rattle.std.specs.Prelude.{nat_le, if◌then◌else◌}
use Rattle.std.specs.List.{flat_map}
use Rattle.aig_circuit.specs.declared.circuit.Kind.{Kind}
use Rattle.aig_circuit.specs.declared.circuit.Reset.{Reset}
use Rattle.aig_circuit.specs.declared.circuit.Reset.TheVariants.{Zero, One, Uninit}
use Rattle.aig_circuit.specs.declared.circuit.Symbol.{Symbol}
use Rattle.aig_circuit.specs.SymbolText.{kind_letter}

-- What is no visible character of ASCII and no space is shown as `?`.
abbrev pub label_byte : ℕ → List ℕ
label_byte b =
    if b == 34 then codes "\\\""
    else if b == 38 then codes "&amp;"
    else if b == 92 then codes "\\\\"
    else if nat_le 32 b && nat_le b 126 then b ∷ []
    else codes "?"

abbrev pub label_text : List ℕ → List ℕ
label_text name = flat_map label_byte name

-- whether the symbol is for what stands at this position among its kind
abbrev pub is_for : Kind → ℕ → Symbol → Bool
is_for kind position s = bytes_eq (kind_letter s.kind) (kind_letter kind) && (s.position == position)

-- the name of what stands there, if it has one
abbrev pub name_of : List Symbol → Kind → ℕ → Option (List ℕ)
name_of [] kind position = None
name_of (s ∷ ss) kind position = if is_for kind position s then Some s.name else name_of ss kind position

-- its letter and position, as in a symbol
abbrev pub position_text : Kind → ℕ → List ℕ
position_text kind position = kind_letter kind ++ decimal position

abbrev pub name_or_position : Kind → ℕ → Option (List ℕ) → List ℕ
name_or_position kind position None = position_text kind position
name_or_position kind position (Some name) = label_text name

-- what it is called in a picture
abbrev pub name_text : List Symbol → Kind → ℕ → List ℕ
name_text symbols kind position = name_or_position kind position (name_of symbols kind position)

-- a second line of a label: what a latch starts at
abbrev pub reset_text : Reset → List ℕ
reset_text Zero = codes "\\nreset 0"
reset_text One = codes "\\nreset 1"
reset_text Uninit = codes "\\nuninitialised"
