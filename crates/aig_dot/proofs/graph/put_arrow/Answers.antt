use Rattle.std.proofs.Common.{ap, ◌∙◌}
use Rattle.aig_io.proofs.Puts.{put_twice}
use Rattle.aig_dot.specs.Dot.{style_text}
use Rattle.aig_dot.proofs.Putting.{is_test}
use Rattle.aig_dot.proofs.graph.put_arrow.Goals as goal

pub returns : goal.returns
returns g c =
    let styled = c.style.ensures
    ∙ ap (style_text c.args.is_next) (is_test c.is_negated.result c.args.from c.is_negated.ensures) in
    put_twice _ _ _ _ _ c.put.ensures.put
    (put_twice _ _ _ _ _ (rw c.var.ensures at c.put_variable.ensures)
    (put_twice _ _ _ _ _ c.put-2.ensures.put
    (put_twice _ _ _ _ _ c.put_node.ensures (rw styled at c.put-3.ensures.put))))
