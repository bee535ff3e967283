-- The gates of a circuit by the variables that they define.
use Rattle.std.specs.Prelude.{◌≡◌, ◌↔◌, ℕ, List, map, true}
use Rattle.std.specs.FinMap.{get}
use Rattle.aig_circuit.specs.declared.circuit.Gate.{Gate}
use Rattle.aig_circuit.specs.Wellformed.{AreDistinct}
use Rattle.aig_topo.specs.declared.index.GateIndex.{GateIndex}
use Rattle.aig_topo.specs.Order.{gate_of}

-- the index has the first gate that defines each variable, and tells whether no two gates define one
pub record IsIndexOf (gates : List Gate) (index : GateIndex) : Type 0 where
  pub positions : (v : ℕ) → get index.positions v ≡ gate_of gates v
  pub once : (index.is_once ≡ true) ↔ AreDistinct (map (λ (g : Gate). g.var) gates)
