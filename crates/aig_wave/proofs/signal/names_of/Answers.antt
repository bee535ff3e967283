use Rattle.std.proofs.Common.{◌∙◌, ap, fold, length, sym}
use Rattle.aig_wave.specs.Signals.{named}
use Rattle.aig_wave.proofs.Distinct.{names_count}
use Rattle.aig_wave.proofs.signal.names_of.Goals as goal

pub returns-clause-count : goal.returns-clause-count
returns-clause-count c =
    ap length
    (ap (fold (named c.args.kind) c.loop-symbol.names.items) (sym c.in-None.ensures.steps.0) ∙ c.loop-symbol.invariant)
    ∙ names_count c.args.circuit.now c.args.kind
