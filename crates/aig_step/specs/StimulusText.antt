-- A stimulus as a whole (this project's profile): the texts of its lines, one after the other, and the runs that they
-- are.
use Rattle.std.specs.Prelude.{◌≡◌, ◌⊎◌, ◌+◌, ◌++◌, ℕ, List, [], ◌∷◌, Bool, Option, None, Some, codes, length, map}
use Rattle.std.specs.List.{AllByRecursion, flat_map}
use Rattle.aig_circuit.specs.declared.circuit.Circuit.{Circuit}
use Rattle.aig_circuit.specs.declared.value.Val.{Val}
use Rattle.aig_step.specs.Stimulus.{Runs, judged_lines, text_of}
use Rattle.aig_step.specs.TraceText.{values_text}

-- the text has a character for each input
abbrev pub SaysStep : Circuit → List ℕ → Type 0
SaysStep c text = (given : List Val) × (length given ≡ length c.inputs) × (text ≡ values_text given)

-- a line of this text is a step, or it ends a run
abbrev pub IsGoodText : Circuit → List ℕ → Type 0
IsGoodText c text = SaysStep c text ⊎ (text ≡ codes ".")

-- each step has a value for each input
abbrev pub AreSteps : Circuit → List (List Val) → Type 0
AreSteps c steps = AllByRecursion (λ (given : List Val). length given ≡ length c.inputs) steps

-- the texts of the lines of a run that is ended
abbrev pub run_lines : List (List Val) → List (List ℕ)
run_lines steps = map values_text steps ++ codes "." ∷ []

-- the next line, which has this number, is the bad one; or no line comes, and there is none
abbrev pub IsNextBad : Circuit → ℕ → (behind : List (List ℕ)) → (bad : Option ℕ) → Type 0
IsNextBad c number [] bad = bad ≡ None
IsNextBad c number (text ∷ behind) bad = ¬ IsGoodText c text × (bad ≡ Some number)

-- Lines of these texts, the first of which has this number, are these runs, up to the first bad one if there is one.
pub record AreRuns (c : Circuit) (number : ℕ) (texts : List (List ℕ)) (runs : Runs) (bad : Option ℕ) : Type 0 where
  pub good : List (List ℕ)
  pub behind : List (List ℕ)
  pub parted : texts ≡ good ++ behind
  pub lines : good ≡ flat_map run_lines runs.ended ++ map values_text runs.unended
  pub each : AllByRecursion (AreSteps c) runs.ended
  pub last : AreSteps c runs.unended
  pub next : IsNextBad c (number + length good) behind bad

-- the bytes that came, which have ended or not, are these runs, and this is the number of the first bad line
abbrev pub IsStimulusText : Circuit → List ℕ → Bool → Runs → Option ℕ → Type 0
IsStimulusText c bytes ended runs bad = AreRuns c 1 (map text_of (judged_lines bytes ended)) runs bad
