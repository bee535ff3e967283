-- The run of a witness file as text, and what is made of it to mark a loop. Only private functions cite this.
use Rattle.std.specs.Prelude.{◌≡◌, ◌-◌, ◌==◌, ◌++◌, ℕ, List, [], ◌∷◌, Option, None, Some, codes, length, map}
use Rattle.std.specs.Prelude.{if◌then◌else◌}
use Rattle.std.specs.List.{AllByRecursion}
use Rattle.std.specs.Str.{bytes_eq}
use Rattle.aig_circuit.specs.declared.circuit.Circuit.{Circuit}
use Rattle.aig_circuit.specs.declared.value.Val.{Val}
use Rattle.aig_fault.specs.declared.fault.Fault.{Fault}
use Rattle.aig_lasso.specs.declared.verdict.LassoVerdict.TheVariants.{Confirmed, NotConfirmed}
use Rattle.aig_lines.specs.Lines.{Line, lines_of}
use Rattle.aig_meaning.specs.Trace.{IsFirstState}
use Rattle.aig_step.specs.Stimulus.{text_of}
use Rattle.aig_step.specs.TraceText.{values_text}
use Rattle.aig_claims.specs.LoopMark.{HasNoVariable}
use Rattle.aig_verdicts.specs.declared.verdict.WitnessVerdict.{WitnessVerdict}
use Rattle.aig_verdicts.specs.declared.verdict.WitnessVerdict.TheVariants.{BadState, Justice}
use Rattle.aig_witness.specs.Witness.{Claim}

-- the texts are those of a first state, and of the lines of the steps and the line that ends them
pub record IsRunText (c : Circuit) (claim : Claim) (first steps : List ℕ) : Type 0 where
  pub starts : IsFirstState c claim.first
  pub each : AllByRecursion (λ (given : List Val). length given ≡ length c.inputs) claim.steps
  pub is_first : first ≡ values_text claim.first
  pub are_steps : map text_of (lines_of steps) ≡ map values_text claim.steps ++ codes "." ∷ []

-- the step at which the loop of a confirmed lasso begins
abbrev pub loop_start : WitnessVerdict → Option ℕ
loop_start (BadState verdict) = None
loop_start (Justice (Confirmed start)) = Some start
loop_start (Justice NotConfirmed) = None

-- a lasso's loop has no mark for this reason
abbrev pub LacksMark : Circuit → WitnessVerdict → Fault → Type 0
LacksMark c verdict fault = HasNoVariable c fault × ((start : ℕ) × (verdict ≡ Justice (Confirmed start)))

-- the line of a text, with this mark behind a step
abbrev pub marked_line : ℕ → List ℕ → List ℕ
marked_line mark text = text ++ ((if bytes_eq text (codes ".") then [] else mark ∷ []) ++ 10 ∷ [])

-- the lines with the mark `1` behind each step but the first so many, which have `0`
abbrev pub marked_lines : ℕ → List Line → List ℕ
marked_lines before [] = []
marked_lines before (l ∷ ls) =
    marked_line (if before == 0 then 49 else 48) (text_of l) ++ marked_lines (before - 1) ls
