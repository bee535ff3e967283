use Rattle.std.proofs.Common.{◌∙◌, rules}
use Rattle.std.proofs.lemmas.Result.{err_from_is_err_and}
use Rattle.aig_lines.specs.Lines.{lines_of}
use Rattle.aig_binary.proofs.Grammar.Accepted.{read_is_ordered, read_is_well_formed, reading_is_accepted}
use Rattle.aig_binary.proofs.Grammar.Read.{line_fault, memory_only, one_circuit}
use Rattle.aig_binary.proofs.reader.read_binary.Goals as goal

pub returns-in_err-circuit-clause-only : goal.returns-in_err-circuit-clause-only
returns-in_err-circuit-clause-only c = let h = err_from_is_err_and c.from_residual.result c.from_residual.ensures.1 in
    rw (h.1, h.2)
    (λ net is. memory_only c.args.limits.max_var c.args.bytes.now net c.in_err-circuit.field-0.0
    (line_fault c.args.limits.max_var c.args.bytes.now c.in_err-circuit.field-0.0 c.in_err-circuit.ensures) is)

pub from_well_ordered-requires-clause-well_formed : goal.from_well_ordered-requires-clause-well_formed
from_well_ordered-requires-clause-well_formed c = search (rules, read_is_well_formed)

pub from_well_ordered-requires-clause-in_order : goal.from_well_ordered-requires-clause-in_order
from_well_ordered-requires-clause-in_order c =
    read_is_ordered c.args.limits.max_var (lines_of c.args.bytes.now) c.in_ok-circuit.circuit c.in_ok-circuit.ensures

pub returns-clause-ok : goal.returns-clause-ok
returns-clause-ok c = search (rules, reading_is_accepted)

pub returns-clause-ordered : goal.returns-clause-ordered
returns-clause-ordered c = rw c.into_checked.ensures.value c.into_checked.ensures.ordered

pub returns-clause-only : goal.returns-clause-only
returns-clause-only c = λ net is.
    c.into_checked.ensures.value ∙ c.from_well_ordered.ensures
    ∙ one_circuit c.args.limits.max_var c.args.bytes.now net c.in_ok-circuit.circuit c.in_ok-circuit.ensures is
