-- What the definitions of this crate say of one another.
use Rattle.std.specs.Prelude.{◌≡◌, ◌+◌, ℕ, List, ◌++◌, length, map, Ok}
use Rattle.std.specs.List.{range_with_len}
use Rattle.aig_arrays.specs.Ordered.{new_numbers}
use Rattle.aig_arrays.specs.Decoded.{decoded}
use Rattle.aig_arrays.specs.Words.{Counts, HasWords, circuit_bytes, circuit_words, counts_of}
use Rattle.aig_circuit.specs.Wellformed.{IsWellFormed}
use Rattle.aig_circuit.specs.declared.circuit.Circuit.{Circuit}
use Rattle.aig_map.specs.MapBlock.{map_block}
use Rattle.aig_map.specs.declared.map_block.MappedGate.{MappedGate}
use Rattle.aig_topo.specs.Order.{IsLeastReadyOrder}

-- the words and the bytes of a well-formed circuit tell it
abbrev pub WordsTellTheCircuit : Type 0
WordsTellTheCircuit = (c : Circuit) → IsWellFormed c → HasWords c
    → decoded (counts_of c) (circuit_words c) (circuit_bytes c) ≡ Ok c

-- what words and bytes tell is well formed, and has these words and bytes, and no others
pub record IsDecodedFrom (n : Counts) (words bytes : List ℕ) (c : Circuit) : Type 0 where
  pub well_formed : IsWellFormed c
  pub counts : n ≡ counts_of c
  pub words_are : words ≡ circuit_words c
  pub bytes_are : bytes ≡ circuit_bytes c

abbrev pub WhatIsDecodedHasTheWords : Type 0
WhatIsDecodedHasTheWords = (n : Counts) (words bytes : List ℕ) (c : Circuit) → decoded n words bytes ≡ Ok c
    → IsDecodedFrom n words bytes c

-- the new numbers are those that a map records: inputs and latches are the first variables, and a gate has the place
-- that its line tells
abbrev pub NumbersAreTheMaps : Type 0
NumbersAreTheMaps = (c : Circuit) (order : List ℕ) → IsWellFormed c → IsLeastReadyOrder c order
    → new_numbers order c ≡ range_with_len 1 (length c.inputs + length c.latches)
    ++ map (λ (g : MappedGate). 1 + length c.inputs + length c.latches + g.place) (map_block order c).gates
