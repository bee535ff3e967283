-- Which gates a circuit's variables and its gates' operands are over, as it was found.
use Rattle.std.specs.Prelude.{◌≡◌, List, map}
use Rattle.aig_circuit.specs.declared.circuit.Gate.{Gate}
use Rattle.aig_topo.specs.declared.resolved.Resolved.{Resolved}
use Rattle.aig_topo.specs.Index.{IsIndexOf}
use Rattle.aig_topo.specs.Needs.{needs_of}

-- the index is that of the gates, and the needs are theirs
pub record IsResolved (gates : List Gate) (r : Resolved) : Type 0 where
  pub index : IsIndexOf gates r.index
  pub needs : r.needs.items ≡ map (needs_of gates) gates
