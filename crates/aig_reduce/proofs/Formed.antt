-- A circuit without its outputs is well formed, and in binary order where it was.
use Rattle.std.proofs.Common.{◌++◌, ℕ, List, arith}
use Rattle.std.specs.List.{AllByRecursion, concat, flat_map}
use Rattle.aig_circuit.specs.declared.circuit.Circuit.{Circuit}
use Rattle.aig_circuit.specs.Wellformed.{IsKnown, IsWellFormed, defined_variables, literal_lists, operands}
use Rattle.aig_circuit.proofs.Checking.{back, front, joined}
use Rattle.aig_checked.specs.BinaryOrder.{IsInBinaryOrder}
use Rattle.aig_meaning.specs.Meaning.{next_literals}
use Rattle.aig_reduce.specs.Reduced.{without_outputs}

module _ (c : Circuit) (good : IsWellFormed c) where
  abbrev Known : ℕ → Type 0
  Known = IsKnown (defined_variables c)

  abbrev shown : List ℕ
  shown = concat (literal_lists c)

  abbrev left : List ℕ
  left = concat (literal_lists (without_outputs c))

  abbrev read : List ℕ
  read = flat_map operands c.gates

  before_gates : AllByRecursion Known (next_literals c ++ shown)
  before_gates = front Known (next_literals c ++ shown) read good.known

  left_known : AllByRecursion Known left
  left_known = back Known c.outputs left (back Known (next_literals c) shown before_gates)

  pub without_outputs_is_well_formed : IsWellFormed (without_outputs c)
  without_outputs_is_well_formed = record {
    limits = record {
      max_var = good.limits.max_var;
      inputs = good.limits.inputs;
      latches = good.limits.latches;
      literals = (omega arith, good.limits.literals.1);
      justice = good.limits.justice;
      sizes = good.limits.sizes;
      gates = good.limits.gates;
    };
    in_range = good.in_range;
    once = good.once;
    known = joined Known (next_literals c ++ left) read
        (joined Known (next_literals c) left (front Known (next_literals c) shown before_gates) left_known)
        (back Known (next_literals c ++ shown) read good.known);
    symbols = record { positions = tt; apart = tt; lines = tt };
    ranked = good.ranked;
  }

pub without_outputs_is_ordered : (c : Circuit) → IsInBinaryOrder c → IsInBinaryOrder (without_outputs c)
without_outputs_is_ordered c ordered = record {
  inputs = ordered.inputs;
  latches = ordered.latches;
  gates = ordered.gates;
  all = ordered.all;
}
