-- The block that is read of a circuit, and what is kept of it while the source is made.
use Rattle.std.specs.Prelude.{◌≡◌, ℕ, List, [], false, None, Result, Ok, Err, length, map}
use Rattle.aig_circuit.specs.declared.circuit.Gate.{Gate}
use Rattle.aig_circuit.specs.declared.circuit.Circuit.{Circuit}
use Rattle.aig_circuit.specs.Wellformed.{AreDistinct, IsWellFormed}
use Rattle.aig_checked.specs.BinaryOrder.{IsInBinaryOrder}
use Rattle.aig_image.specs.Relabelled.{relabelled_gate}
use Rattle.aig_image.specs.Reordered.{taken}
use Rattle.aig_fault.specs.declared.fault.Fault.{Fault}
use Rattle.aig_map.specs.declared.map_block.MapBlock.{MapBlock}
use Rattle.aig_map.specs.declared.recorded.Recorded.{Recorded}
use Rattle.aig_map.specs.MapReading.{block_reading, HasCountsOf, IsWithinBounds}
use Rattle.aig_map.specs.Parts.Turns.{positions}
use Rattle.aig_map.specs.Undone.{comment_behind, exchanges_recorded, places_recorded, undone}

-- the block that was read, or an empty one
abbrev pub block_in : Result (MapBlock × List ℕ) Fault → MapBlock
block_in (Ok (b, rest)) = b
block_in (Err e) = record { max_var = 0; inputs = []; latches = []; gates = []; has_comment = false }

-- the block at the front of the circuit's comment
unfoldable pub block_read : Circuit → MapBlock
block_read x = block_in (block_reading x)

-- the circuit that is undone by it, where this follows it
abbrev pub source_read : Circuit → List ℕ → Circuit
source_read x rest = undone (block_read x) (comment_behind (block_read x) rest) x

-- all that a block records beside variables and places
pub record IsTakenOutOf (b : MapBlock) (r : Recorded) : Type 0 where
  pub max_var : r.max_var ≡ b.max_var
  pub has_comment : r.has_comment ≡ b.has_comment
  pub exchanged : r.exchanged.items ≡ exchanges_recorded b.gates

-- a circuit in binary order, and a block that has its counts and gives no two gates one place
pub record IsFit (b : MapBlock) (x : Circuit) : Type 0 where
  pub ordered : IsInBinaryOrder x
  pub counts : HasCountsOf b x
  pub bounds : IsWithinBounds b
  pub once : AreDistinct (places_recorded b.gates)

-- what is kept of a block by which a circuit is undone
pub record IsBlockOf (b : MapBlock) (x : Circuit) (r : Recorded) (by_place : List ℕ) : Type 0 where
  -- The circuit is in binary order, and the block has its counts, is within bounds, and gives each gate its own place.
  pub fit : IsFit b x
  -- The table gives the position in the source of the gate at each place of the image.
  pub placed : by_place ≡ positions b.gates
  -- The largest index, the comment section and the exchanges of operands are those that the block records.
  pub recorded : IsTakenOutOf b r

-- the circuit without a comment
abbrev pub without_comment : Circuit → Circuit
without_comment x = record x { comment = None }

-- what is left of a well-formed circuit once this block was taken off its comment: the comment after it, and the
-- circuit without a comment
pub record IsLeftOf (x : Circuit) (b : MapBlock) (rest : List ℕ) (left : Circuit) : Type 0 where
  pub formed : IsWellFormed x
  pub read : block_reading x ≡ Ok (b, rest)
  pub bare : left ≡ without_comment x

-- these gates, by labels, stand at these positions
pub record ArePut (f : ℕ → ℕ) (gates : List Gate) (positions : List ℕ) (found : List Gate) : Type 0 where
  pub many : length found ≡ length gates
  pub put : taken found positions ≡ map (relabelled_gate f) gates
