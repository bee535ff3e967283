-- What is found in the rows of a run: the first step at which a bad state is 1, with all constraints 1 up to there, and
-- there the first bad state.
use Rattle.std.specs.Prelude.{◌≡◌, ℕ, suc, List, [], ◌∷◌, Option, None, Some, length, if◌then◌else◌}
use Rattle.std.specs.List.{AllByRecursion, flat_map}
use Rattle.aig_circuit.specs.declared.value.Val.{Val}
use Rattle.aig_meaning.specs.Meaning.{Row}
use Rattle.aig_step.specs.TraceText.{values_text}
use Rattle.aig_witness.specs.Parts.Witnessing.{are_ones, is_one}
use Rattle.aig_replay.specs.declared.search.Hit.{Hit}
use Rattle.aig_replay.specs.declared.search.Sight.{Sight}
use Rattle.aig_replay.specs.declared.search.Sight.TheVariants.{Bad, Broken, Good}

-- the place of the first 1, where the first value has this place
abbrev pub first_one : ℕ → List Val → Option ℕ
first_one place [] = None
first_one place (v ∷ vs) = if is_one v then Some place else first_one (suc place) vs

abbrev pub shown_bad : Option ℕ → Sight
shown_bad None = Good
shown_bad (Some property) = Bad property

-- what constraints and bad states of these values show
abbrev pub shown_by : List Val → List Val → Sight
shown_by constraints bad = if are_ones constraints then shown_bad (first_one 0 bad) else Broken

abbrev pub hit_by : ℕ → Sight → Option Hit → Option Hit
hit_by step Broken later = None
hit_by step (Bad property) later = Some (record { property = property; step = step })
hit_by step Good later = later

-- what is found in rows, the first of which has this number
abbrev pub hit_from : ℕ → List Row → Option Hit
hit_from step [] = None
hit_from step (row ∷ rows) = hit_by step (shown_by row.constraints row.bad) (hit_from (suc step) rows)

-- the bytes are the characters of so many steps
pub record SaysSteps (inputs count : ℕ) (bytes : List ℕ) (steps : List (List Val)) : Type 0 where
  pub bytes_are : bytes ≡ flat_map values_text steps
  pub long : AllByRecursion (λ (step : List Val). length step ≡ inputs) steps
  pub many : length steps ≡ count
