-- The variables of a circuit that were kept while the circuit's own became others, and the image with its block.
use Rattle.std.specs.Prelude.{◌≡◌, Some, map}
use Rattle.aig_circuit.specs.declared.circuit.Latch.{Latch}
use Rattle.aig_circuit.specs.declared.circuit.Gate.{Gate}
use Rattle.aig_circuit.specs.declared.circuit.Circuit.{Circuit}
use Rattle.aig_map.specs.MapBlock.{mapped_comment}
use Rattle.aig_map.specs.declared.map_block.MapBlock.{MapBlock}
use Rattle.aig_map.specs.declared.kept_map.KeptVariables.{KeptVariables}

-- they are those of this circuit
pub record AreVariablesOf (kept : KeptVariables) (c : Circuit) : Type 0 where
  pub inputs : kept.inputs.items ≡ c.inputs
  pub latches : kept.latches.items ≡ map (λ (l : Latch). l.var) c.latches
  pub gates : kept.gates.items ≡ map (λ (g : Gate). g.var) c.gates

-- a circuit with a block in front of its comment
abbrev pub with_block : MapBlock → Circuit → Circuit
with_block block c = record c { comment = Some (mapped_comment block c) }
