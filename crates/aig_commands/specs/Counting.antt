-- Which text `aiginfo` writes (this project's profile): a circuit is read, and what is counted of it is written.
use Rattle.std.specs.Prelude.{◌≡◌, ℕ, List, Bool, if◌then◌else◌}
use Rattle.aig_circuit.specs.declared.circuit.Circuit.{Circuit}
use Rattle.aig_command.specs.declared.request.Info.{Info as Request}
use Rattle.aig_info.specs.Info.{IsInfoOf}
use Rattle.aig_info.specs.InfoText.{info_text}
use Rattle.aig_info.specs.declared.info.Info.{Info}
use Rattle.aig_info.specs.declared.writer.Form.{Form}
use Rattle.aig_info.specs.declared.writer.Form.TheVariants.{Json, Lines}
use Rattle.aig_commands.specs.File.{IsFileOf}

-- lines, or a JSON object
abbrev pub form_of : Bool → Form
form_of json = if json then Json else Lines

-- the text that is written for these bytes
pub record IsInfoText (request : Request) (bytes text : List ℕ) : Type 0 where
  pub found : Circuit
  pub info : Info
  pub read : IsFileOf bytes request.max_var found
  pub is_info : IsInfoOf found info
  pub is_text : text ≡ info_text (form_of request.json) info
