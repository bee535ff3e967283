use Rattle.std.proofs.Common.{◌∙◌, sym}
use Rattle.aig_fault.specs.declared.stopped.Stopped.{Stopped}
use Rattle.aig_rows.proofs.Steps.{ok_same}
use Rattle.aig_text.proofs.Grammar.Text.{accepted_is_read}
use Rattle.aig_text.proofs.laws.texts_are_unambiguous.Goals as goal

pub returns : goal.returns
returns c =
    λ text limit d e p q. ok_same {E = Stopped} d e
    (sym (accepted_is_read limit text d p) ∙ accepted_is_read limit text e q)
