use Rattle.std.proofs.Common.{ℕ, List, arith, subst, take_all}
use Rattle.std.specs.List.{flat_map}
use Rattle.std.proofs.lemmas.List.Folds.{flat_map-map}
use Rattle.aig_io.specs.Output.{Appended}
use Rattle.aig_io.proofs.Puts.{put_more}
use Rattle.aig_dot.specs.Dot.{statement_text}
use Rattle.aig_dot.specs.Graph.{use_of}
use Rattle.aig_dot.proofs.shown.put_uses.Goals as goal

pub loop-literal-preserved : goal.loop-literal-preserved
loop-literal-preserved g c =
    put_more (λ literal. statement_text (use_of c.args.to.now literal)) c.args.literals.now c.loop-literal.literal-index
    c.literal-item.result c.literal-item.result _ _ _ c.literal-item.is c.loop-literal.invariant c.put_arrow.ensures
    c.loop-literal-test.true

pub returns : goal.returns
returns g c =
    rw (flat_map-map statement_text (use_of c.args.to.now) c.args.literals.now)
    (subst (λ (list : List ℕ). Appended c.args.output.now c.loop-literal.output
    (flat_map (λ literal. statement_text (use_of c.args.to.now literal)) list))
    (take_all c.loop-literal.literal-index c.args.literals.now (omega arith)) c.loop-literal.invariant)
