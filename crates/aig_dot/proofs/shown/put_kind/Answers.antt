use Rattle.std.proofs.Common.{List, arith, subst}
use Rattle.aig_circuit.specs.Wellformed.{count_of}
use Rattle.aig_io.specs.Output.{Appended}
use Rattle.aig_dot.specs.Dot.{statements_text}
use Rattle.aig_dot.specs.Graph.{Statement, shown_part}
use Rattle.aig_dot.proofs.Putting.{all_positions, put_next_position}
use Rattle.aig_dot.proofs.shown.put_kind.Goals as goal

pub loop-position-preserved : goal.loop-position-preserved
loop-position-preserved g c =
    put_next_position (shown_part c.args.circuit.now c.args.kind) (count_of c.args.circuit.now c.args.kind)
    c.loop-position.position _ _ _ (omega arith) c.loop-position.invariant c.put_shown.ensures

pub returns : goal.returns
returns g c =
    subst (λ (list : List Statement). Appended c.args.output.now c.loop-position.output (statements_text list))
    (all_positions (shown_part c.args.circuit.now c.args.kind) (count_of c.args.circuit.now c.args.kind)
    c.loop-position.position (omega arith)) c.loop-position.invariant
