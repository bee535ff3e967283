use Rattle.std.proofs.lemmas.Result.{err_from_is_err_and}
use Rattle.aig_commands.specs.Conversion.{IsConversionRefused}
use Rattle.aig_commands.specs.File.{IsFileOf}
use Rattle.aig_commands.proofs.Converting.{not_turned, not_undone}
use Rattle.aig_commands.proofs.Readings.{stopped_after}
use Rattle.aig_commands.proofs.conversion.read_conversion.Goals as goal

pub returns-in_err-source_circuit-clause-read : goal.returns-in_err-source_circuit-clause-read
returns-in_err-source_circuit-clause-read g c =
    let request = c.args.request.now in
    let h =
    err_from_is_err_and c.from_residual-in_err-source_circuit.result c.from_residual-in_err-source_circuit.ensures.1 in
    rw (h.1, h.2) (stopped_after (λ bytes. IsFileOf bytes request.max_var c.in_ok-found.found) _ _
    (IsConversionRefused request) _
    (λ bytes file. not_undone request c.in_ok-found.found bytes file c.in_err-source_circuit.field-0.0
    c.in_err-source_circuit.ensures.err) c.in_ok-found.ensures)

pub returns-in_err-turned_circuit-clause-read : goal.returns-in_err-turned_circuit-clause-read
returns-in_err-turned_circuit-clause-read g c =
    let request = c.args.request.now in
    let h =
    err_from_is_err_and c.from_residual-in_err-turned_circuit.result c.from_residual-in_err-turned_circuit.ensures.1 in
    rw (h.1, h.2) (stopped_after (λ bytes. IsFileOf bytes request.max_var c.in_ok-found.found) _ _
    (IsConversionRefused request) _
    (λ bytes file. not_turned request c.in_ok-found.found bytes file c.in_ok-source_circuit.source_circuit
    c.in_err-turned_circuit.field-0.0 c.in_ok-source_circuit.ensures.ok c.in_err-turned_circuit.ensures.err)
    c.in_ok-found.ensures)
