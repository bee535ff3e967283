-- Which texts are written for an invariant (this project's profile): a model is read, and then the invariant, and the
-- clauses are written in which it is to be shown; or they are refuted, and so no run ever has the property.
use Rattle.std.specs.Prelude.{◌≡◌, ◌⊎◌, ℕ, List, None, Some, codes}
use Rattle.aig_circuit.specs.declared.circuit.Circuit.{Circuit}
use Rattle.aig_circuit.specs.Wellformed.{IsWellFormed}
use Rattle.aig_command.specs.declared.request.Invariant.{Invariant}
use Rattle.aig_command.specs.declared.request.Reach.{Reach}
use Rattle.aig_command.specs.declared.request.SolverFile.TheVariants.{Refutation}
use Rattle.aig_command.specs.declared.request.Unroll.{Unroll}
use Rattle.aig_command.specs.declared.request.UnrolledForm.TheVariants.{Clauses}
use Rattle.aig_invariant.specs.Invariant.{Cube, with_invariant}
use Rattle.aig_invariant.specs.Laws.{IsNever}
use Rattle.aig_invariant.specs.Outcome.{HasCubes, IsInvariantRefused}
use Rattle.aig_lasso.specs.Endless.{IsFairRun}
use Rattle.aig_reduce.specs.Reduced.{IsReducedIf}
use Rattle.aig_lasso.specs.Goals.{with_goals}
use Rattle.aig_meaning.specs.Meaning.{Row}
use Rattle.aig_command.specs.declared.request.Property.{Property}
use Rattle.aig_command.specs.declared.request.Property.TheVariants.{AnyBad, Bad, Justice}
use Rattle.aig_unroll.specs.Outcome.{HasClauses}
use Rattle.aig_fault.specs.declared.fault.Fault.{Fault}
use Rattle.aig_commands.specs.Property.{HasProperty, property_model}
use Rattle.aig_commands.specs.Reaching.{IsModelRefused, IsSelectedModel}
use Rattle.aig_commands.specs.Unrolling.{IsUnrolledFor, IsWrittenAs, NotUnrolledAs}

-- the request for a refutation of the clauses of the model alone, over one frame
abbrev pub over_one_frame : Invariant → Reach
over_one_frame request = record {
  frames = 1;
  property = request.property;
  max_var = request.max_var;
  wrote = Refutation;
  lrat = request.lrat;
  simplify = request.simplify;
}

-- the request for the clauses of the circuit in which the invariant is to be shown
abbrev pub clauses_over_one_frame : Invariant → Unroll
clauses_over_one_frame request = record {
  frames = 1;
  form = Clauses AnyBad;
  simplify = request.simplify;
  max_var = request.max_var;
}

-- The model is the file of a circuit that has clauses over one frame, and this circuit stands for the property of that.
abbrev pub IsInvariantModel : Invariant → (model : List ℕ) → Circuit → Type 0
IsInvariantModel request = IsSelectedModel (over_one_frame request)

-- The model has no such clauses, for this reason.
abbrev pub NotInvariantModel : Invariant → Fault → List ℕ → Type 0
NotInvariantModel request = IsModelRefused (over_one_frame request)

-- The bytes are an invariant of the circuit that stands for the property, and this is the circuit in which it is to be
-- shown. It has clauses over one frame.
pub record IsStrengthened (selected : Circuit) (invariant : List ℕ) (strengthened : Circuit) : Type 0 where
  pub cubes : List Cube
  pub unrolled : Circuit
  pub has_cubes : HasCubes selected invariant cubes
  pub strengthened_is : strengthened ≡ with_invariant cubes selected
  pub is_unrolled : IsUnrolledFor AnyBad 1 strengthened unrolled
  pub has_clauses : HasClauses unrolled

-- The bytes are no invariant of the circuit that stands for the property, for this reason; or they are one, and the
-- circuit in which it is to be shown has no clauses.
abbrev pub NotStrengthened : Circuit → Fault → List ℕ → Type 0
NotStrengthened selected fault invariant =
    IsInvariantRefused selected fault invariant
    ⊎ ((cubes : List Cube) × HasCubes selected invariant cubes
    × NotUnrolledAs (Clauses AnyBad) 1 (with_invariant cubes selected) fault)

-- The text that is written for these bytes of an invariant: the clauses in which it is to be shown, or those of what is
-- left of their circuit where it is to be simplified.
pub record IsInvariantText (request : Invariant) (selected : Circuit) (invariant text : List ℕ) : Type 0 where
  pub strengthened : Circuit
  pub written : Circuit
  pub is_strengthened : IsStrengthened selected invariant strengthened
  pub is_written : IsReducedIf request.simplify is_strengthened.unrolled written
  pub written_as : IsWrittenAs request.simplify (Clauses AnyBad) written text

-- no run ever has the property: none reaches a bad state at any step, or none without end is fair
abbrev pub NoRunHas : Circuit → Property → Type 0
NoRunHas c AnyBad = IsNever c None
NoRunHas c (Bad number) = IsNever c (Some number)
NoRunHas c (Justice number) = (rows : ℕ → Row) → ¬ IsFairRun (with_goals number c) rows

-- the line that says so
abbrev pub never_text : List ℕ
never_text = codes "never\n"

-- The text that is written for a refutation of the clauses of this circuit: no run ever has the property, of each
-- circuit of whose property an invariant is to be shown in this one. Which bytes the refutation has makes no difference.
pub record IsNeverText (request : Invariant) (strengthened : Circuit) (text : List ℕ) : Type 0 where
  pub never : (c : Circuit) (invariant : List ℕ) (cubes : List Cube) → IsWellFormed c → HasProperty request.property c
      → HasCubes (property_model request.property c) invariant cubes
      → strengthened ≡ with_invariant cubes (property_model request.property c) → NoRunHas c request.property
  pub written_as : text ≡ never_text
