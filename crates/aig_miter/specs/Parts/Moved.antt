-- Labels of variables behind so many others, and two circuits side by side by such.
use Rattle.std.specs.Prelude.{◌+◌, ◌*◌, ◌==◌, ◌++◌, ℕ, List, [], None, length, map, min, if◌then◌else◌}
use Rattle.aig_circuit.specs.declared.circuit.Circuit.{Circuit}
use Rattle.aig_circuit.specs.declared.circuit.TheConstants.{LARGEST}
use Rattle.aig_circuit.specs.Literal.{negation_of}
use Rattle.aig_miter.specs.Miter.{compared, differences, differing, tied}
use Rattle.aig_miter.specs.Starts.{free_literals, with_equal_starts}

-- none is larger than the largest index; up to that it is the shifted variable
abbrev pub label_behind : ℕ → ℕ → ℕ
label_behind before v = if v == 0 then 0 else min (before + v) LARGEST

-- the first circuit with all of the second, which has variables behind its own already, and what compares them
abbrev pub side_by_side : Circuit → Circuit → Circuit
side_by_side a d = record a {
  max_var = a.max_var + d.max_var + 3 * length (compared a);
  latches = a.latches ++ d.latches;
  bad = differences (a.max_var + d.max_var + 1) (compared a) (compared d) ++ map negation_of d.constraints;
  gates = (a.gates ++ (tied a.inputs d.inputs ++ d.gates))
      ++ differing (a.max_var + d.max_var + 1) (compared a) (compared d);
}

-- with equal starts, where there is a pair
abbrev pub with_starts : List ℕ → List ℕ → Circuit → Circuit
with_starts xs ys m = if min (length xs) (length ys) == 0 then m else with_equal_starts xs ys m

abbrev pub both_of : Circuit → Circuit → Circuit
both_of a d = with_starts (free_literals a) (free_literals d) (side_by_side a d)

-- without outputs, justice properties, fairness constraints and names
abbrev pub bare : Circuit → Circuit
bare c = record c {
  outputs = [];
  justice = record { sizes = []; literals = [] };
  fairness = [];
  symbols = [];
  comment = None;
}
