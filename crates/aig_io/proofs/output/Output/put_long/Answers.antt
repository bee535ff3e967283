use Rattle.std.proofs.Common.{◌∙◌, ap, arith, length-drop}
use Rattle.aig_io.specs.Output.{Out}
use Rattle.aig_io.proofs.Puts.{all_filled, put_filled, put_nothing, put_rest}
use Rattle.aig_io.proofs.output.Output.put_long.Goals as goal

pub returns-clause-put : goal.returns-clause-put
returns-clause-put g c =
    let sent = c.send_blocks-at.ensures in
    let empty = ap (λ (o : Out _). o.held) c.self.view_is ∙ sent.empty in
    put_rest _ _ _ _ _ sent.put
    (put_filled _ _ _ _ _ c.self.view_is (put_nothing _)
    (all_filled _ _ _ _ _ c.fill.ensures.value c.fill.ensures.count c.split_at.ensures.back empty
    (rw length-drop (omega (arith, sent.fits)))))
