use Rattle.std.specs.Prelude.{◌≡◌, ◌+◌, ◌*◌, ◌<◌, ℕ, List, [], length, slice_index_or}
use Rattle.aig_circuit.specs.declared.value.Val.{Val}
use Rattle.aig_meaning.specs.Meaning.{literal_value}
use Rattle.aig_places.specs.Lanes.{IsLane, IsPair}
use Rattle.aig_step.specs.Parts.Tables.{read_from}
use Rattle.aig_lanes.proofs.lane_columns.planes_of_literals.Given as goal

abbrev pub invariant-loop-k : goal.invariant-loop-k
invariant-loop-k l = record {
  pairs : (t k : ℕ) (values : List Val) → k < l.k → l.first + k < length l.literals → IsLane t l.planes values
      → IsPair t (slice_index_or l.eight (2 * k) []) (slice_index_or l.eight (2 * k + 1) [])
      (literal_value (read_from values) (slice_index_or l.literals (l.first + k) 0));
  size : length l.eight ≡ 16;
}
