use Rattle.std.proofs.Common.{rules, arith}
use Rattle.std.proofs.lemmas.List.{with_items_is}
use Rattle.aig_step.proofs.Running.Cells.{are_codes, codes_length, values_are}
use Rattle.aig_step.proofs.cells.Table.put.Goals as goal

pub invariant_of-self : goal.invariant_of-self
invariant_of-self c =
    rw (with_items_is c.self.inside.codes c.put.new.codes (omega arith)) (are_codes c.put.new.codes _ c.put.ensures)

pub returns-clause-value : goal.returns-clause-value
returns-clause-value c = search (rules, with_items_is, values_are)

pub returns-clause-small : goal.returns-clause-small
returns-clause-small c = search (rules, codes_length)
