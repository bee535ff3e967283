-- The room for lines that wait for their text.
use Rattle.std.specs.Prelude.{◌≡◌, ◌*◌, ◌<◌, ◌≤◌, ℕ, List, Option, None, Some, length, slice_index_or}
use Rattle.aig_lanes.specs.Parts.Vectors.{AreVectors}

-- there is room for 256 steps and 512 lines, and each line that is a step has one
pub record IsWaiting (inputs steps count : ℕ) (texts : List ℕ) (lines : List (Option ℕ)) : Type 0 where
  pub texts_room : length texts ≡ 256 * inputs
  pub lines_room : length lines ≡ 512
  pub few_steps : steps ≤ 256
  pub few_lines : count ≤ 512
  pub below : (k step : ℕ) → k < count → slice_index_or lines k None ≡ Some step → step < steps
  pub vectors : AreVectors inputs inputs steps texts
