-- The justice properties as a list of lists of literals (AIGER 1.9). A circuit holds the literals of all of them end to
-- end, and the size of each, as a file lists them.
use Rattle.std.specs.Prelude.{ℕ, List, [], ◌∷◌, map, length, take, drop}
use Rattle.std.specs.List.{concat}
use Rattle.aig_circuit.specs.declared.circuit.Justice.{Justice}

-- the literals of each property, where these are all of them in turn
abbrev pub literals_of_each : List ℕ → List ℕ → List (List ℕ)
literals_of_each [] literals = []
literals_of_each (size ∷ sizes) literals = take size literals ∷ literals_of_each sizes (drop size literals)

abbrev pub properties_of : Justice → List (List ℕ)
properties_of j = literals_of_each j.sizes j.literals

-- and those of such a list, end to end
abbrev pub end_to_end : List (List ℕ) → Justice
end_to_end properties = record { sizes = map length properties; literals = concat properties }
