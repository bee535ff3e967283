-- Which text `aigselect` writes (this project's profile): a circuit is read, and what is chosen of it is written.
use Rattle.std.specs.Prelude.{◌≡◌, ℕ, List, Option, None, Some, false, find, length, nat_le}
use Rattle.std.specs.Option.{option_map_or}
use Rattle.aig_circuit.specs.declared.circuit.Circuit.{Circuit}
use Rattle.aig_circuit.specs.declared.circuit.Kind.{Kind}
use Rattle.aig_circuit.specs.declared.circuit.Kind.TheVariants as kinds
use Rattle.aig_command.specs.declared.request.Select.{Select}
use Rattle.aig_select.specs.Choice.{choice_of}
use Rattle.aig_select.specs.Selection.{IsSelection}
use Rattle.aig_commands.specs.Conversion.{IsTextAs}
use Rattle.aig_commands.specs.File.{IsFileOf}
use Rattle.aig_commands.specs.declared.refusal.Refusal.{Refusal}
use Rattle.aig_commands.specs.declared.refusal.Refusal.TheVariants as refusals

-- the first of these positions that is not there, where there are so many
abbrev pub missing_of : ℕ → List ℕ → Option ℕ
missing_of count positions = find (λ position. nat_le count position) positions

abbrev pub no_such : Kind → ℕ → Option Refusal
no_such kind position = Some (refusals.NotThere kind position)

-- the first that is chosen and not there: of outputs, then of bad states, then of justice properties
abbrev pub first_missing : Select → Circuit → Option Refusal
first_missing request c =
    option_map_or (no_such kinds.Output) (missing_of (length c.outputs) request.outputs)
    (option_map_or (no_such kinds.Bad) (missing_of (length c.bad) request.bad)
    (option_map_or (no_such kinds.Justice) (missing_of (length c.justice.sizes) request.justice) None))

-- the text that is written for these bytes: that of the selection, in ASCII or in binary
pub record IsSelectionText (request : Select) (bytes text : List ℕ) : Type 0 where
  pub found : Circuit
  pub selection : Circuit
  pub read : IsFileOf bytes request.max_var found
  pub all_there : first_missing request found ≡ None
  pub is_selection : IsSelection (choice_of request.outputs request.bad request.justice found) found selection
  pub written_as : IsTextAs request.ascii false selection text

-- there is no such text, since this is not there
pub record IsNotSelected (request : Select) (bytes : List ℕ) (refusal : Refusal) : Type 0 where
  pub found : Circuit
  pub read : IsFileOf bytes request.max_var found
  pub missing : first_missing request found ≡ Some refusal
