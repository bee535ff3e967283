use Rattle.std.proofs.Common.{◌∙◌, ap, sym}
use Rattle.aig_verdicts.proofs.Lines.{entry_came, first_state_came, nothing_came}
use Rattle.aig_verdicts.specs.Parts.Reading.{Reading}
use Rattle.aig_verdicts.proofs.reader.Reader.take_line.Goals as goal

pub returns-in-BadState-clause-took : goal.returns-in-BadState-clause-took
returns-in-BadState-clause-took c =
    c.take_early.ensures.took (ap (λ (r : Reading). r.stage) (sym c.self.view_is) ∙ c.in-BadState.is)

pub returns-in-FirstState-clause-took : goal.returns-in-FirstState-clause-took
returns-in-FirstState-clause-took c =
    let told = c.take_first_state.ensures in
    first_state_came _ _ _ c.take_first_state.result
    (ap (λ (r : Reading). r.stage) (sym c.self.view_is) ∙ c.in-FirstState.is) told.good told.bad told.stays told.circuit

pub returns-in-Steps-clause-took : goal.returns-in-Steps-clause-took
returns-in-Steps-clause-took c =
    let told = c.take_entry.ensures in
    entry_came _ _ _ c.take_entry.result (ap (λ (r : Reading). r.stage) (sym c.self.view_is) ∙ c.in-Steps.is)
    told.good told.bad told.stays

pub returns-in-Nothing-clause-took : goal.returns-in-Nothing-clause-took
returns-in-Nothing-clause-took c =
    nothing_came _ _ (ap (λ (r : Reading). r.stage) (sym c.self.view_is) ∙ c.in-Nothing.is)
