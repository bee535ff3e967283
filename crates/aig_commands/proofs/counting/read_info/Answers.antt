use Rattle.std.proofs.Common.{ap, rules}
use Rattle.aig_info.specs.Info.{IsInfoOf}
use Rattle.aig_info.specs.InfoText.{info_text}
use Rattle.aig_commands.specs.Counting.{IsInfoText}
use Rattle.aig_commands.specs.File.{IsFileOf}
use Rattle.aig_commands.proofs.Readings.{made_after}
use Rattle.aig_commands.proofs.Texts.{info_begins}
use Rattle.aig_commands.proofs.counting.read_info.Goals as goal

pub returns-clause-read : goal.returns-clause-read
returns-clause-read g c =
    let request = c.args.request.now in
    let found = c.in_ok-found.found in
    let info = c.in_ok-counted.field-0 in
    let is_info : IsInfoOf found info = rw (← c.circuit.ensures.value) c.in_ok-counted.ensures in
    made_after (λ bytes. IsFileOf bytes request.max_var found) _ _
    (λ bytes. IsInfoText request bytes (info_text c.form_of.result info))
    (λ bytes file. record {
      found = found;
      info = info;
      read = file;
      is_info = is_info;
      is_text = ap (λ form. info_text form info) c.form_of.ensures;
    })
    c.in_ok-found.ensures

pub returns-clause-some : goal.returns-clause-some
returns-clause-some g c = info_begins c.form_of.result c.in_ok-counted.field-0
