use Rattle.std.specs.Prelude.{◌≡◌, ◌<◌, ℕ, [], length, slice_index_or}
use Rattle.aig_lanes.specs.declared.input_bits.InputWord.{InputWord}
use Rattle.aig_lanes.specs.Parts.InputBits.{IsWord}
use Rattle.aig_step.specs.TraceText.{values_text}
use Rattle.aig_lanes.proofs.input_bits.fill_words.Given as goal

abbrev pub invariant-loop-step : goal.invariant-loop-step
invariant-loop-step l = record {
  holds : (step : ℕ) (d : InputWord) → step < l.step
      → IsWord l.first (values_text (slice_index_or l.run.steps step [])) (slice_index_or l.words step d);
  size : length l.words ≡ length l.fn.words;
}
