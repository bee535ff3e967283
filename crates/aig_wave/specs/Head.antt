-- The head of a dump: a scope for each kind, and its signals (IEEE 1364-2005, section 18; the words are this project's
-- profile).
use Rattle.std.specs.Prelude.{◌+◌, ◌-◌, ◌==◌, ◌++◌, ℕ, List, [], ◌∷◌, Option, None, Some, codes, decimal, length}
use Rattle.std.specs.Prelude.{if◌then◌else◌, slice_index_or}
use Rattle.std.specs.List.{flat_map}
use Rattle.aig_circuit.specs.declared.circuit.Circuit.{Circuit}
use Rattle.aig_circuit.specs.declared.circuit.Kind.{Kind}
use Rattle.aig_circuit.specs.declared.circuit.Kind.TheVariants.{Input, Latch, Output, Bad}
use Rattle.aig_wave.specs.declared.signal.Signal.{Signal}
use Rattle.aig_wave.specs.Names.{Indexed, indexed, shown}
use Rattle.aig_wave.specs.Places.{kinds, letter}
use Rattle.aig_wave.specs.Signals.{names_of, signals_of}

-- the identifier code of a signal: the letter of its kind, and its first position
abbrev pub code : Signal → List ℕ
code s = letter s.kind ∷ decimal s.first

-- the index, or of a vector the highest and the lowest
abbrev pub range_text : ℕ → ℕ → List ℕ
range_text index size =
    if size == 1 then decimal index else decimal (index + size - 1) ++ (codes ":" ++ decimal index)

abbrev pub words_for : Signal → List ℕ → Option Indexed → List ℕ
words_for s name (Some i) = shown i.front ++ (codes " [" ++ (range_text i.index s.size ++ codes "]"))
words_for s name None = if length name == 0 then code s else shown name

-- the words that name a signal whose first position has this name
abbrev pub words : Signal → List ℕ → List ℕ
words s name = words_for s name (indexed name)

abbrev pub sort : Kind → List ℕ
sort Latch = codes "$var reg "
sort _ = codes "$var wire "

-- the declaration of a signal, by the names of its kind
abbrev pub var_text : List (List ℕ) → Signal → List ℕ
var_text names s =
    sort s.kind ++ (decimal s.size ++ (codes " " ++ (code s ++ (codes " "
    ++ (words s (slice_index_or names s.first []) ++ codes " $end\n")))))

abbrev pub scope : Kind → List ℕ
scope Input = codes "$scope module inputs $end\n"
scope Latch = codes "$scope module latches $end\n"
scope Output = codes "$scope module outputs $end\n"
scope Bad = codes "$scope module bad $end\n"
scope _ = codes "$scope module constraints $end\n"

-- the scope of a kind, where there is something of it
abbrev pub scope_text : Circuit → Kind → List ℕ
scope_text c kind =
    let names = names_of c kind in
    if length names == 0 then []
    else scope kind ++ (flat_map (var_text names) (signals_of c kind) ++ codes "$upscope $end\n")

abbrev pub opening : List ℕ
opening =
    codes "$version aiger $end\n$timescale 1 ns $end\n$scope module aiger $end\n$var integer 64 r run $end\n"

abbrev pub closing : List ℕ
closing = codes "$upscope $end\n$enddefinitions $end\n"

abbrev pub head : Circuit → List ℕ
head c = opening ++ (flat_map (scope_text c) kinds ++ closing)
