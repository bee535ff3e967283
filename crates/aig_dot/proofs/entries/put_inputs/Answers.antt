use Rattle.std.proofs.Common.{List, arith, subst}
use Rattle.std.specs.FinSet as set
use Rattle.aig_io.specs.Output.{Appended}
use Rattle.aig_dot.specs.Dot.{statements_text}
use Rattle.aig_dot.specs.Graph.{Statement, input_part}
use Rattle.aig_dot.proofs.Putting.{all_entries, put_next_entry}
use Rattle.aig_dot.proofs.entries.put_inputs.Goals as goal

pub loop-at-preserved : goal.loop-at-preserved
loop-at-preserved g c =
    put_next_entry (input_part (set.contains c.args.shown.now) c.args.circuit.now.symbols)
    c.as_slice-inputs.result.now c.loop-at.at _ _ _ _ _ c.index-inputs-at.is c.loop-at-test.true c.loop-at.invariant
    c.put_input.ensures

pub returns : goal.returns
returns g c =
    let parts = input_part (set.contains c.args.shown.now) c.args.circuit.now.symbols in
    rw (← c.as_slice-inputs.ensures)
    (subst (λ (list : List Statement). Appended c.args.output.now c.loop-at.output (statements_text list))
    (all_entries parts c.as_slice-inputs.result.now c.loop-at.at (omega arith)) c.loop-at.invariant)
