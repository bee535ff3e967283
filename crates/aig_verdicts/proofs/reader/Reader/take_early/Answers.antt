use Rattle.std.proofs.Common.{refl}
use Rattle.aig_verdicts.proofs.Lines.{checker_came, property_came}
use Rattle.aig_verdicts.proofs.reader.Reader.take_early.Goals as goal

pub returns-then-names_justice-clause-took : goal.returns-then-names_justice-clause-took
returns-then-names_justice-clause-took c = λ is.
    let begins = c.if-names_justice.true in
    property_came _ _ _ c.take_property.result is (c.names_justice.ensures.due begins)
    (c.names_justice.ensures.yes begins) c.take_property.ensures.good c.take_property.ensures.bad
    c.take_property.ensures.stays

pub returns-clause-took : goal.returns-clause-took
returns-clause-took c =
    let other = rw (← c.self.view_is) at (c.names_justice.ensures.no c.if-names_justice.false) in
    rw (← c.self.view_is) (λ is. checker_came _ _ _ c.take.result is refl c.take.ensures.took other)
