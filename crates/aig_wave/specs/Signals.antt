-- The signals of a dump: neighbours whose names have one front and rising indices are one vector (this project's
-- profile).
use Rattle.std.specs.Prelude.{◌+◌, ◌==◌, ℕ, suc, List, [], ◌∷◌, ◌++◌, replicate, slice_set, fold, if◌then◌else◌}
use Rattle.aig_circuit.specs.declared.circuit.Circuit.{Circuit}
use Rattle.aig_circuit.specs.declared.circuit.Kind.{Kind}
use Rattle.aig_circuit.specs.declared.circuit.Symbol.{Symbol}
use Rattle.aig_circuit.specs.Wellformed.{count_of}
use Rattle.aig_wave.specs.declared.signal.Signal.{Signal}
use Rattle.aig_wave.specs.Names.{follows}
use Rattle.aig_wave.specs.Places.{letter, place}

-- a symbol of the kind gives its name to its position
abbrev pub named : Kind → List (List ℕ) → Symbol → List (List ℕ)
named kind names s = if letter s.kind == letter kind then slice_set names s.position s.name else names

-- the name of each position of a kind, which is empty where there is none
abbrev pub names_of : Circuit → Kind → List (List ℕ)
names_of c kind = fold (named kind) (replicate (count_of c kind) []) c.symbols

-- how many of these names follow, one after the other, after that name
abbrev pub followers : List ℕ → List (List ℕ) → ℕ
followers name [] = 0
followers name (n ∷ ns) = if follows name n then suc (followers n ns) else 0

-- a signal of a kind: its first position, how many it has, and where its characters stand in a line
abbrev pub signal : Circuit → Kind → ℕ → ℕ → Signal
signal c kind first size = record { kind = kind; first = first; size = size; start = place c kind + first }

-- The signals of names, of which the first has this position and stands after that name: each name that does not
-- follow the one before begins a signal.
abbrev pub signals_behind : Circuit → Kind → ℕ → List ℕ → List (List ℕ) → List Signal
signals_behind c kind p before [] = []
signals_behind c kind p before (n ∷ ns) =
    (if follows before n then [] else signal c kind p (1 + followers n ns) ∷ []) ++ signals_behind c kind (p + 1) n ns

abbrev pub signals_of : Circuit → Kind → List Signal
signals_of c kind = signals_behind c kind 0 [] (names_of c kind)
