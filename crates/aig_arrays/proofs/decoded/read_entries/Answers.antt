use Rattle.std.proofs.Common.{◌∙◌, ap, inr, sym}
use Rattle.aig_circuit.specs.declared.circuit.Circuit.{Circuit}
use Rattle.aig_arrays.specs.Decoded.{with_entries}
use Rattle.aig_arrays.proofs.Whole.{fit, fit_fails, unfit}
use Rattle.aig_arrays.proofs.decoded.read_entries.Goals as goal

pub returns-then-not-counts_fit : goal.returns-then-not-counts_fit
returns-then-not-counts_fit c =
    rw c.refused_whole.ensures (inr (
    unfit c.args.counts.now c.args.words.now c.args.bytes.now (sym c.counts_fit.ensures ∙ c.if-not-counts_fit.true)
    ))

pub returns-in-Err : goal.returns-in-Err
returns-in-Err c =
    fit_fails c.args.counts.now c.args.words.now c.args.bytes.now
    (sym c.counts_fit.ensures ∙ c.if-not-counts_fit.false) c.empty_circuit-circuit.result c.in-Err.fault
    c.empty_circuit-circuit.ensures c.in-Err.ensures

pub returns : goal.returns
returns c =
    fit c.args.counts.now c.args.words.now c.args.bytes.now (sym c.counts_fit.ensures ∙ c.if-not-counts_fit.false)
    ∙ ap (λ (d : Circuit). with_entries c.args.counts.now c.args.words.now c.args.bytes.now d)
    (sym c.empty_circuit-circuit.ensures) ∙ c.in_default.ensures
