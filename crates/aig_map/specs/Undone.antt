-- The undone circuit (this project's profile): what a circuit in binary order was before its conversion, by the map
-- block at the front of its comment.
use Rattle.std.specs.Prelude.{if◌then◌else◌}
use Rattle.std.specs.Prelude.{◌≡◌, ◌==◌, ◌++◌, ◌⊎◌, ℕ, List, length, map, Bool, Option, None, Some, Err, IsOk}
use Rattle.std.specs.List.{range_with_len, find}
use Rattle.std.specs.Option.{option_map, unwrap_or}
use Rattle.aig_circuit.specs.declared.circuit.Circuit.{Circuit}
use Rattle.aig_circuit.specs.Wellformed.{AreDistinct, IsWellFormed}
use Rattle.aig_checked.specs.BinaryOrder.{IsInBinaryOrder}
use Rattle.aig_image.specs.Renumbering.{source_variable}
use Rattle.aig_image.specs.Reordered.{restored}
use Rattle.aig_fault.specs.Stopping.{fault_at, refusal}
use Rattle.aig_fault.specs.declared.fault.Fault.{Fault}
use Rattle.aig_fault.specs.declared.fault.Place.TheVariants.{Whole}
use Rattle.aig_fault.specs.declared.kind.Kind.TheVariants as kinds
use Rattle.aig_fault.specs.declared.stopped.Stopped.{Stopped}
use Rattle.aig_map.specs.declared.map_block.MappedGate.{MappedGate}
use Rattle.aig_map.specs.declared.map_block.MapBlock.{MapBlock}
use Rattle.aig_map.specs.MapBlock.{block_text, IsMappedImage}
use Rattle.aig_map.specs.MapReading.{block_reading, HasCountsOf}

-- the variable of the gate that has this place, 0 where none has it
abbrev pub variable_at_place : List MappedGate → ℕ → ℕ
variable_at_place gates place =
    unwrap_or (option_map (λ (g : MappedGate). g.var) (find (λ (g : MappedGate). g.place == place) gates)) 0

-- the variables of the source in their new order: inputs, latches, and gates by their places
abbrev pub source_variables : MapBlock → List ℕ
source_variables b = b.inputs ++ b.latches ++ map (variable_at_place b.gates) (range_with_len 0 (length b.gates))

-- the places of the gates that a block tells of, and whose operands are exchanged
abbrev pub places_recorded : List MappedGate → List ℕ
places_recorded gates = map (λ (g : MappedGate). g.place) gates

abbrev pub exchanges_recorded : List MappedGate → List Bool
exchanges_recorded gates = map (λ (g : MappedGate). g.exchanged) gates

-- The gates from the places, their operands exchanged, and all by the variables of the source; with this comment.
abbrev pub undone : MapBlock → Option (List ℕ) → Circuit → Circuit
undone b comment x =
    record (restored (source_variable (source_variables b)) (places_recorded b.gates) (exchanges_recorded b.gates) x) {
      max_var = b.max_var;
      comment = comment;
    }

-- the comment after a block, where there was a comment section
abbrev pub comment_behind : MapBlock → List ℕ → Option (List ℕ)
comment_behind b rest = if b.has_comment then Some rest else None

-- x has a block at the front of its comment; c is undone by it, is well formed, and x is its mapped image
pub record IsUndoneFrom (x c : Circuit) : Type 0 where
  pub block : MapBlock
  pub rest : List ℕ
  pub begins : x.comment ≡ Some (block_text block ++ rest)
  pub counts : HasCountsOf block x
  pub places : AreDistinct (map (λ (g : MappedGate). g.place) block.gates)
  pub is : c ≡ undone block (comment_behind block rest) x
  pub well_formed : IsWellFormed c
  pub image : IsMappedImage c x

-- no circuit has this image and this map
abbrev pub forged : Stopped
forged = refusal kinds.MapForged Whole 0

-- Why there is no undone circuit: the first of these that holds, where memory was not refused.
abbrev pub IsMapFault : Circuit → Fault → Type 0
IsMapFault x fault =
    ((fault ≡ fault_at kinds.NotOrdered Whole 0) × (¬ IsInBinaryOrder x))
    ⊎ (IsInBinaryOrder x × (block_reading x ≡ Err fault))
    ⊎ ((fault ≡ fault_at kinds.MapForged Whole 0) × IsInBinaryOrder x × IsOk (block_reading x)
    × ((c : Circuit) → ¬ IsUndoneFrom x c))
