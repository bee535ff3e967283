use Rattle.aig_core.proofs.Checking.Faultless.{faultless, refuted, well_formed}
use Rattle.aig_core.proofs.checks.check.Goals as goal

pub returns-in-Ok-clause-ok_faultless : goal.returns-in-Ok-clause-ok_faultless
returns-in-Ok-clause-ok_faultless c = faultless c.args.circuit c.in-Ok.ensures.well_formed

pub with_order-requires-clause-well_formed : goal.with_order-requires-clause-well_formed
with_order-requires-clause-well_formed c =
    rw c.in-Err.ensures.handed_back (well_formed c.args.circuit c.requires.in_form
    (rw c.in-Err.ensures.handed_back at c.in-Ok-find_fault.ensures.ok))

pub returns-in-Ok-find_fault-clause-well_formed : goal.returns-in-Ok-find_fault-clause-well_formed
returns-in-Ok-find_fault-clause-well_formed c =
    well_formed c.args.circuit c.requires.in_form
    (rw c.in-Err.ensures.handed_back at c.in-Ok-find_fault.ensures.ok)

pub returns-in-Err-find_fault-clause-refused : goal.returns-in-Err-find_fault-clause-refused
returns-in-Err-find_fault-clause-refused c =
    λ ne good. refuted c.in-Err-find_fault.fault c.args.circuit good ne
    (rw c.in-Err.ensures.handed_back at c.in-Err-find_fault.ensures.err)
