-- Which text is written for a solver's refutation (this project's profile): a model is read, the clauses of its
-- unrolled circuit are refuted, and so no run of so many steps has the property.
use Rattle.std.specs.Prelude.{◌≡◌, ◌++◌, ◌<◌, ◌≤◌, ℕ, List, Bool, true, false, Option, None, Some, codes, decimal, length}
use Rattle.aig_circuit.specs.declared.circuit.Circuit.{Circuit}
use Rattle.aig_circuit.specs.Wellformed.{IsWellFormed}
use Rattle.aig_cnf.specs.Clauses.{Satisfies, bad_clauses}
use Rattle.aig_command.specs.Aiger.{most_frames}
use Rattle.aig_command.specs.declared.request.Reach.{Reach}
use Rattle.aig_command.specs.declared.request.Property.{Property}
use Rattle.aig_command.specs.declared.request.Property.TheVariants.{AnyBad, Bad, Justice}
use Rattle.aig_lasso.specs.Lasso.{IsLasso}
use Rattle.aig_live.specs.Laws.{IsWithoutX}
use Rattle.aig_reduce.specs.Reduced.{IsReducedIf}
use Rattle.aig_replay.specs.Laws.{IsOfSelected}
use Rattle.aig_unroll.specs.Unrolled.{IsTooLarge, IsUnrolled, IsUnsupported}
use Rattle.aig_witness.specs.declared.verdict.Verdict.TheVariants.{Confirmed}
use Rattle.aig_witness.specs.Witness.{Claim, IsVerdict}
use Rattle.aig_fault.specs.declared.fault.Fault.{Fault}
use Rattle.aig_io.specs.Runs.{AtEnd, Ending}
use Rattle.aig_refute.specs.Refuted.{IsRefusedWhere, literals_of}
use Rattle.aig_refute.specs.declared.reader.RefutationFormat.{RefutationFormat}
use Rattle.aig_refute.specs.declared.reader.RefutationFormat.TheVariants.{Drat, Lrat}
use Rattle.aig_commands.specs.Property.{HasProperty, property_model}
use Rattle.aig_commands.specs.Unrolling.{AreClausesOf}

-- the circuit can be unrolled over so many frames
pub record CanUnroll (c : Circuit) (frames : ℕ) : Type 0 where
  pub some : 1 ≤ frames
  pub not_many : frames ≤ most_frames
  pub supported : ¬ IsUnsupported c
  pub fits : ¬ IsTooLarge c frames

-- no assignment lets a bad state of the circuit be 1, unrolled over so many frames
abbrev pub IsUnsatisfiable : Circuit → ℕ → Type 0
IsUnsatisfiable c frames = (d : Circuit) × IsWellFormed d × IsUnrolled c frames d
    × ((a : ℕ → Bool) → ¬ Satisfies a (bad_clauses d))

-- no claim of the selected bad state, or of any where none is selected, is confirmed at one of the first so many steps
abbrev pub IsNoneWithin : Circuit → Option ℕ → ℕ → Type 0
IsNoneWithin c selected frames =
    (claim : Claim) (step : ℕ) → step < frames → IsOfSelected selected claim → ¬ IsVerdict c claim (Confirmed step)

-- no lasso for the justice property of this number, without x, has fewer steps
abbrev pub HasNoLassoWithin : Circuit → ℕ → ℕ → Type 0
HasNoLassoWithin c number frames =
    (claim : Claim) (start : ℕ) → length claim.steps < frames → claim.property ≡ number → IsWithoutX claim
    → ¬ IsLasso c claim start

-- no run has the property in so many steps
abbrev pub NoRunHasWithin : Circuit → Property → ℕ → Type 0
NoRunHasWithin c AnyBad frames = IsNoneWithin c None frames
NoRunHasWithin c (Bad number) frames = IsNoneWithin c (Some number) frames
NoRunHasWithin c (Justice number) frames = HasNoLassoWithin c number frames

-- the line that says so
abbrev pub none_text : ℕ → List ℕ
none_text frames = codes "none within " ++ (decimal frames ++ codes "\n")

-- The text that is written for a refutation of the clauses of this circuit: no run has the property within so many
-- frames, of each circuit for whose property this one stands. Which bytes the refutation has makes no difference.
pub record IsNoneText (request : Reach) (selected : Circuit) (text : List ℕ) : Type 0 where
  pub none : (c : Circuit) → IsWellFormed c → HasProperty request.property c
      → selected ≡ property_model request.property c → NoRunHasWithin c request.property request.frames
  pub written_as : text ≡ none_text request.frames

-- how a refutation is written: LRAT where that is asked for
abbrev pub format_of : Bool → RefutationFormat
format_of true = Lrat
format_of false = Drat

-- the circuit whose clauses are refuted: the unrolled one, or what is left of it where it is to be simplified
pub record IsRefutedFor (request : Reach) (c d : Circuit) : Type 0 where
  pub unrolled : Circuit
  pub formed : IsWellFormed unrolled
  pub is_unrolled : IsUnrolled c request.frames unrolled
  pub is_reduced : IsReducedIf request.simplify unrolled d

-- A refutation of the circuit's clauses is refused for this reason, where its bytes ended so.
abbrev pub IsRefutationRefused : Reach → Circuit → Fault → List ℕ → Ending → Type 0
IsRefutationRefused request c fault bytes ending = (d : Circuit) × IsRefutedFor request c d
    × (clauses : List (List ℕ)) × AreClausesOf request.simplify d clauses
    × IsRefusedWhere (format_of request.lrat) clauses (literals_of d) fault bytes ending

-- It is not known that the clauses are refuted, for this reason.
abbrev pub NotRefuted : Reach → Circuit → (refutation : List ℕ) → Fault → Type 0
NotRefuted request c refutation fault = IsRefutationRefused request c fault refutation AtEnd
