-- Which text a conversion writes (this project's profile): a circuit is read, changed as asked, and written.
use Rattle.std.specs.Prelude.{◌≡◌, ◌≢◌, ◌⊎◌, ℕ, List, [], Bool, true, false, None, ⊤, if◌then◌else◌}
use Rattle.aig_circuit.specs.declared.circuit.Circuit.{Circuit}
use Rattle.aig_text.specs.AsciiText.{ascii_text}
use Rattle.aig_binary.specs.BinaryText.{binary_text}
use Rattle.aig_image.specs.Image.{IsBinaryImage}
use Rattle.aig_map.specs.MapBlock.{IsMappedImage}
use Rattle.aig_map.specs.Undone.{IsMapFault, IsUndoneFrom}
use Rattle.aig_command.specs.declared.request.BadStates.{BadStates}
use Rattle.aig_command.specs.declared.request.BadStates.TheVariants as bads
use Rattle.aig_command.specs.declared.request.ToAig.{ToAig}
use Rattle.aig_fault.specs.Stopping.{fault_at}
use Rattle.aig_fault.specs.declared.fault.Fault.{Fault}
use Rattle.aig_fault.specs.declared.fault.Place.TheVariants.{Whole}
use Rattle.aig_fault.specs.declared.kind.Kind.TheVariants.{HasBad}
use Rattle.aig_live.specs.Laws.{live}
use Rattle.aig_lasso.specs.Goaled.{HasNoJustice}
use Rattle.aig_simplify.specs.Simplified.{IsSimplified}
use Rattle.aig_live.specs.Outcome.{HasLive, HasNoLive}
use Rattle.aig_commands.specs.File.{IsFileOf}
use Rattle.aig_commands.specs.OutputsAsBad.{with_outputs_as_bad}
use Rattle.aig_commands.specs.Reading.{IsUnreadable}

-- the circuit without its symbols and its comment
abbrev pub stripped : Circuit → Circuit
stripped c = record c { symbols = []; comment = None }

-- the circuit that is undone, where that is asked for, or else the one that was read
abbrev pub IsSource : Bool → Circuit → Circuit → Type 0
IsSource true found source = IsUndoneFrom found source
IsSource false found source = source ≡ found

-- the circuit with the bad states that are asked for
abbrev pub turned : BadStates → Circuit → Circuit
turned bads.Kept source = source
turned bads.Outputs source = with_outputs_as_bad source
turned (bads.Justice property) source = live property source

-- the circuit without what is to be left out
abbrev pub stripped_if_asked : ToAig → Circuit → Circuit
stripped_if_asked request source = if request.strip then stripped source else source

-- the circuit of the source, with the bad states that are asked for, and without what is to be left out
abbrev pub changed : ToAig → Circuit → Circuit
changed request source = stripped_if_asked request (turned request.bad_states source)

-- the circuit that is written for that one: simplified where that is asked for
abbrev pub IsWritten : (simplify : Bool) → Circuit → Circuit → Type 0
IsWritten true c written = IsSimplified c written
IsWritten false c written = written ≡ c

-- the image that is written in binary, with a map or without
abbrev pub IsImageAs : Bool → Circuit → Circuit → Type 0
IsImageAs true written image = IsMappedImage written image
IsImageAs false written image = IsBinaryImage written image

-- the text is the circuit's canonical ASCII text, or the canonical binary text of its image, with a map or without
abbrev pub IsTextAs : Bool → Bool → Circuit → List ℕ → Type 0
IsTextAs true keep_map written text = text ≡ ascii_text written
IsTextAs false keep_map written text = (image : Circuit) × IsImageAs keep_map written image × (text ≡ binary_text image)

-- outputs become bad states only where there is none, and a justice property only where it is there and the circuit fits
abbrev pub CanTurn : BadStates → Circuit → Type 0
CanTurn bads.Kept source = ⊤
CanTurn bads.Outputs source = source.bad ≡ []
CanTurn (bads.Justice property) source = HasLive property source

-- it cannot be so, and this fault says why
abbrev pub CannotTurn : BadStates → Circuit → Fault → Type 0
CannotTurn bads.Kept source fault = ⊥
CannotTurn bads.Outputs source fault = (fault ≡ fault_at HasBad Whole 0) × (source.bad ≢ [])
CannotTurn (bads.Justice property) source fault =
    HasNoJustice property source fault ⊎ HasNoLive property source fault

-- the text that is written for these bytes
pub record IsConversionText (request : ToAig) (bytes text : List ℕ) : Type 0 where
  pub found : Circuit
  pub source : Circuit
  pub written : Circuit
  pub read : IsFileOf bytes request.max_var found
  pub is_source : IsSource request.undo_map found source
  pub can_turn : CanTurn request.bad_states source
  pub is_written : IsWritten request.simplify (changed request source) written
  pub written_as : IsTextAs request.ascii request.keep_map written text

-- The bytes have no conversion text for this reason: they are no file of a circuit; they are the file of one that was
-- to be undone, and this is why it has no undone one; or the circuit cannot have the bad states
-- that are asked for.
pub data IsConversionRefused (request : ToAig) (fault : Fault) (bytes : List ℕ) : Type 0 where
  is_unreadable : IsUnreadable request.max_var fault bytes → IsConversionRefused request fault bytes
  has_no_source : (found : Circuit) → IsFileOf bytes request.max_var found → request.undo_map ≡ true
      → IsMapFault found fault → IsConversionRefused request fault bytes
  cannot_turn : (found source : Circuit) → IsFileOf bytes request.max_var found
      → IsSource request.undo_map found source → CannotTurn request.bad_states source fault
      → IsConversionRefused request fault bytes
