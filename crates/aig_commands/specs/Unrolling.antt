-- Which text an unrolling writes (this project's profile): a circuit is read, and what is written is its unrolled
-- circuit, or the clauses by which a bad state of that is 1; or it is simplified first, and then a multiplexer has
-- clauses of its own.
use Rattle.std.specs.Prelude.{◌≡◌, ◌⊎◌, ℕ, List, Bool, true, false, ⊤}
use Rattle.aig_circuit.specs.declared.circuit.Circuit.{Circuit}
use Rattle.aig_text.specs.AsciiText.{ascii_text}
use Rattle.aig_binary.specs.BinaryText.{binary_text}
use Rattle.aig_cnf.specs.Clauses.{bad_clauses}
use Rattle.aig_cnf.specs.ClauseText.{cnf_text}
use Rattle.aig_cuts.specs.CutText.{cut_text}
use Rattle.aig_cuts.specs.Cuts.{IsCutOf, cut_clauses}
use Rattle.aig_cuts.specs.declared.cut.Cut.{Cut}
use Rattle.aig_fault.specs.declared.fault.Fault.{Fault}
use Rattle.aig_fault.specs.declared.stopped.Stopped.{Stopped}
use Rattle.aig_fault.specs.declared.stopped.Stopped.TheVariants.{Refused}
use Rattle.aig_reduce.specs.Reduced.{IsReducedIf}
use Rattle.aig_simplify.specs.Simplified.{IsSimplified}
use Rattle.aig_unroll.specs.Outcome.{HasClauses, NotInClauses, NotUnrolled}
use Rattle.aig_unroll.specs.Unrolled.{IsTooLarge, IsUnrolled, IsUnsupported}
use Rattle.aig_command.specs.declared.request.Property.{Property}
use Rattle.aig_command.specs.declared.request.Property.TheVariants.{AnyBad}
use Rattle.aig_command.specs.declared.request.Unroll.{Unroll}
use Rattle.aig_command.specs.declared.request.UnrolledForm.{UnrolledForm}
use Rattle.aig_command.specs.declared.request.UnrolledForm.TheVariants.{Ascii, Binary, Clauses}
use Rattle.aig_commands.specs.File.{IsFileOf}
use Rattle.aig_commands.specs.Property.{HasNotProperty, HasProperty, property_model}
use Rattle.aig_commands.specs.Reading.{IsUnreadable}

-- how an unrolled circuit is written: its canonical text, in binary or in ASCII, or its clauses
abbrev pub unrolled_text : UnrolledForm → Circuit → List ℕ
unrolled_text Binary d = binary_text d
unrolled_text Ascii d = ascii_text d
unrolled_text (Clauses property) d = cnf_text d

-- the property that is asked for: where the circuit itself is written, all its bad states are
abbrev pub property_of : UnrolledForm → Property
property_of Binary = AnyBad
property_of Ascii = AnyBad
property_of (Clauses property) = property

-- it can be written so: of clauses, they can be made of it
abbrev pub IsWritable : UnrolledForm → Circuit → Type 0
IsWritable Binary d = ⊤
IsWritable Ascii d = ⊤
IsWritable (Clauses property) d = HasClauses d

-- it cannot for this reason
abbrev pub NotWritable : UnrolledForm → Circuit → Stopped → Type 0
NotWritable Binary d stopped = ⊥
NotWritable Ascii d stopped = ⊥
NotWritable (Clauses property) d stopped = NotInClauses d stopped

-- The circuit d is what stands for this property of a circuit c, unrolled over so many frames.
pub record IsUnrolledFor (property : Property) (frames : ℕ) (c d : Circuit) : Type 0 where
  pub has_property : HasProperty property c
  pub supported : ¬ IsUnsupported (property_model property c)
  pub fits : ¬ IsTooLarge (property_model property c) frames
  pub is_unrolled : IsUnrolled (property_model property c) frames d

-- The circuit that is written for an unrolled one: the same, or simplified where that is asked for. Of clauses the
-- outputs are no part.
abbrev pub IsWrittenFor : (simplify : Bool) → UnrolledForm → Circuit → Circuit → Type 0
IsWrittenFor simplify (Clauses property) d written = IsReducedIf simplify d written
IsWrittenFor true form d written = IsSimplified d written
IsWrittenFor false form d written = written ≡ d

-- The clauses of that circuit: those of its gates, or, where it was simplified, by a plan that is right for it.
abbrev pub AreClausesOf : (simplify : Bool) → Circuit → List (List ℕ) → Type 0
AreClausesOf true d clauses = (plan : List Cut) × IsCutOf plan d × (clauses ≡ cut_clauses plan d)
AreClausesOf false d clauses = clauses ≡ bad_clauses d

-- its text
abbrev pub IsWrittenAs : (simplify : Bool) → UnrolledForm → Circuit → List ℕ → Type 0
IsWrittenAs true (Clauses property) d text = (plan : List Cut) × IsCutOf plan d × (text ≡ cut_text plan d)
IsWrittenAs true form d text = text ≡ unrolled_text form d
IsWrittenAs false form d text = text ≡ unrolled_text form d

-- the text that is written for an unrolled circuit, simplified where that is asked for
abbrev pub IsTextFor : (simplify : Bool) → UnrolledForm → Circuit → List ℕ → Type 0
IsTextFor simplify form d text = (written : Circuit) × IsWrittenFor simplify form d written
    × IsWrittenAs simplify form written text

-- the clauses of what is left of it, as text; only a private function cites this
abbrev pub IsReducedText : Circuit → List ℕ → Type 0
IsReducedText d text = IsTextFor true (Clauses AnyBad) d text

-- The text that is written for this circuit: it can be unrolled, and this is the text of the unrolled circuit, or of
-- what that is simplified to.
pub record IsTextOf (request : Unroll) (found : Circuit) (text : List ℕ) : Type 0 where
  pub unrolled : Circuit
  pub written : Circuit
  pub is_unrolled : IsUnrolledFor (property_of request.form) request.frames found unrolled
  pub is_writable : IsWritable request.form unrolled
  pub is_written : IsWrittenFor request.simplify request.form unrolled written
  pub written_as : IsWrittenAs request.simplify request.form written text

-- The text that is written for these bytes: they are the file of such a circuit.
pub record IsUnrollingText (request : Unroll) (bytes text : List ℕ) : Type 0 where
  pub found : Circuit
  pub read : IsFileOf bytes request.max_var found
  pub is_text : IsTextOf request found text

-- A circuit is not unrolled so: it has not the property; it cannot be unrolled; or no clauses can be made of what is
-- unrolled.
pub data NotUnrolledAs (form : UnrolledForm) (frames : ℕ) (c : Circuit) (fault : Fault) : Type 0 where
  has_not_property : HasNotProperty (property_of form) c fault → NotUnrolledAs form frames c fault
  cannot_unroll : HasProperty (property_of form) c
      → NotUnrolled (property_model (property_of form) c) frames (Refused fault) → NotUnrolledAs form frames c fault
  cannot_write : (d : Circuit) → IsUnrolledFor (property_of form) frames c d → NotWritable form d (Refused fault)
      → NotUnrolledAs form frames c fault

-- The bytes have no unrolling text for this reason: they are no file of a circuit; or they are the file of one, and
-- this is why it is not unrolled.
abbrev pub IsUnrollingRefused : Unroll → Fault → List ℕ → Type 0
IsUnrollingRefused request fault bytes =
    IsUnreadable request.max_var fault bytes
    ⊎ ((found : Circuit) × IsFileOf bytes request.max_var found
    × NotUnrolledAs request.form request.frames found fault)
