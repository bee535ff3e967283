use Rattle.std.proofs.lemmas.Result.{err_from_is_err_and}
use Rattle.aig_lines.specs.Lines.{lines_of}
use Rattle.aig_text.proofs.Grammar.Text.{circuit_in_form, checked_tells, line_fault, memory_only}
use Rattle.aig_lines.proofs.Cutting.{pieces}
use Rattle.aig_text.proofs.reader.read_ascii.Goals as goal

pub returns-in_err-circuit-clause-only : goal.returns-in_err-circuit-clause-only
returns-in_err-circuit-clause-only c = let h = err_from_is_err_and c.from_residual.result c.from_residual.ensures.1 in
    rw (h.1, h.2)
    (λ net is. memory_only c.args.limits.max_var c.args.bytes.now net c.in_err-circuit.field-0.0
    (line_fault c.args.limits.max_var c.args.bytes.now c.in_err-circuit.field-0.0 c.in_err-circuit.ensures) is)

pub returns-in_err-circuit-clause-fault : goal.returns-in_err-circuit-clause-fault
returns-in_err-circuit-clause-fault c = let h = err_from_is_err_and c.from_residual.result c.from_residual.ensures.1 in
    rw (h.1, h.2)
    (line_fault c.args.limits.max_var c.args.bytes.now c.in_err-circuit.field-0.0 c.in_err-circuit.ensures)

pub check_read-requires : goal.check_read-requires
check_read-requires c =
    circuit_in_form c.args.limits.max_var (lines_of c.args.bytes.now) c.in_ok-circuit.circuit
    (pieces c.args.bytes.now).one_each c.in_ok-circuit.ensures

pub returns-clause-ok : goal.returns-clause-ok
returns-clause-ok c =
    (checked_tells c.args.limits.max_var c.args.bytes.now c.in_ok-circuit.circuit c.check_read.result
    c.in_ok-circuit.ensures c.check_read.ensures).ok

pub returns-clause-only : goal.returns-clause-only
returns-clause-only c =
    (checked_tells c.args.limits.max_var c.args.bytes.now c.in_ok-circuit.circuit c.check_read.result
    c.in_ok-circuit.ensures c.check_read.ensures).only

pub returns-clause-fault : goal.returns-clause-fault
returns-clause-fault c =
    (checked_tells c.args.limits.max_var c.args.bytes.now c.in_ok-circuit.circuit c.check_read.result
    c.in_ok-circuit.ensures c.check_read.ensures).fault
