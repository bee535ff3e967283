-- What the definitions of this crate say of one another.
use Rattle.std.specs.Prelude.{◌≡◌, ◌↔◌, ◌++◌, ℕ, List, Some, Ok}
use Rattle.aig_circuit.specs.declared.circuit.Circuit.{Circuit}
use Rattle.aig_circuit.specs.declared.value.Val.{Val}
use Rattle.aig_circuit.specs.Wellformed.{IsWellFormed}
use Rattle.aig_checked.specs.BinaryOrder.{IsInBinaryOrder}
use Rattle.aig_meaning.specs.Meaning.{MeansTheSame, Row}
use Rattle.aig_meaning.specs.Trace.{IsTrace}
use Rattle.aig_map.specs.declared.map_block.MapBlock.{MapBlock}
use Rattle.aig_map.specs.MapBlock.{block_text, IsMappedImage}
use Rattle.aig_map.specs.MapReading.{block_reading, HasCountsOf, IsWithinBounds}
use Rattle.aig_map.specs.Undone.{IsUndoneFrom}

-- a well-formed circuit has exactly one mapped image, which is well formed and in binary order
abbrev pub MappedImageIsOne : Type 0
MappedImageIsOne = (c : Circuit) → IsWellFormed c
    → (image : Circuit) × IsMappedImage c image × IsWellFormed image × IsInBinaryOrder image
    × ((other : Circuit) → IsMappedImage c other → other ≡ image)

-- of a mapped image, the circuit is undone, and no other
abbrev pub UndoingRecovers : Type 0
UndoingRecovers = (c image : Circuit) → IsWellFormed c → IsMappedImage c image
    → IsUndoneFrom image c × ((other : Circuit) → IsUndoneFrom image other → other ≡ c)

-- what a circuit is undone from is its mapped image, and no two well-formed circuits have one mapped image
abbrev pub OnlyMappedImagesAreUndone : Type 0
OnlyMappedImagesAreUndone = (image c d : Circuit)
    → (IsUndoneFrom image c → IsWellFormed c × IsMappedImage c image)
    × (IsWellFormed c → IsWellFormed d → IsMappedImage c image → IsMappedImage d image → c ≡ d)

-- a block is read exactly where its text stands at the front of the comment, it is within bounds, and its counts match
abbrev pub BlocksAreReadExactly : Type 0
BlocksAreReadExactly = (x : Circuit) (b : MapBlock) (rest : List ℕ)
    → (block_reading x ≡ Ok (b, rest))
    ↔ ((x.comment ≡ Some (block_text b ++ rest)) × HasCountsOf b x × IsWithinBounds b)

-- the mapped image of a well-formed circuit means the same as the circuit
abbrev pub MappedImageMeansTheSame : Type 0
MappedImageMeansTheSame = (c image : Circuit) → IsWellFormed c → IsMappedImage c image → MeansTheSame c image

-- so it has exactly the circuit's traces
abbrev pub MappedImageKeepsTraces : Type 0
MappedImageKeepsTraces = (c image : Circuit) → IsWellFormed c → IsMappedImage c image
    → (first : List Val) (vectors : List (List Val)) (rows : List Row)
    → IsTrace c first vectors rows ↔ IsTrace image first vectors rows

-- the circuit that is undone means the same as the one from which it is
abbrev pub UndoneMeansTheSame : Type 0
UndoneMeansTheSame = (x c : Circuit) → IsUndoneFrom x c → MeansTheSame c x

-- so it has exactly its traces
abbrev pub UndoneKeepsTraces : Type 0
UndoneKeepsTraces = (x c : Circuit) → IsUndoneFrom x c
    → (first : List Val) (vectors : List (List Val)) (rows : List Row)
    → IsTrace c first vectors rows ↔ IsTrace x first vectors rows
