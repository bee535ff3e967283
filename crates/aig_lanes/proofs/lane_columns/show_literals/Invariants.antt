use Rattle.std.specs.Prelude.{◌≡◌, ◌+◌, ◌*◌, ◌<◌, ◌≤◌, ℕ, List, length, slice_index_or, take}
use Rattle.aig_circuit.specs.declared.value.Val.{Val}
use Rattle.aig_meaning.specs.Meaning.{literal_value}
use Rattle.aig_places.specs.Lanes.{IsLane}
use Rattle.aig_lanes.specs.Parts.Sheets.{SameRoom, text_in}
use Rattle.aig_step.specs.Parts.Tables.{read_from}
use Rattle.aig_step.specs.TraceText.{character_of}
use Rattle.aig_lanes.proofs.lane_columns.show_literals.Given as goal

abbrev pub invariant-loop-eight : goal.invariant-loop-eight
invariant-loop-eight l = record {
  front : (k : ℕ) → k < 256 → take l.at (text_in k l.sheet) ≡ take l.at (text_in k l.fn.sheet);
  shown : (k j : ℕ) (values : List Val) → k < 256 → l.at + length l.literals ≤ length (text_in k l.fn.sheet)
      → IsLane k l.planes values → j < 8 * l.eight → j < length l.literals
      → slice_index_or (text_in k l.sheet) (l.at + j) 0
      ≡ character_of (literal_value (read_from values) (slice_index_or l.literals j 0));
  room : SameRoom l.fn.sheet l.sheet;
}
