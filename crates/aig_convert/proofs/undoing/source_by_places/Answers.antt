use Rattle.std.proofs.Common.{◌≡◌, sym, subst}
use Rattle.std.proofs.lemmas.Result.{IfOk-weaker}
use Rattle.aig_circuit.specs.declared.circuit.Circuit.{Circuit}
use Rattle.aig_circuit.specs.Wellformed.{AreDistinct, IsWellFormed, defined_variables}
use Rattle.aig_map.specs.Parts.Tables.{block_read, source_read}
use Rattle.aig_map.specs.Undone.{comment_behind}
use Rattle.aig_map.proofs.BlockReading.Block.{kept_without_comment}
use Rattle.aig_map.proofs.Restoring.Source.{well_formed_again}
use Rattle.aig_map.proofs.Sources.Refused.{of_exchanges, of_confirmed}
use Rattle.aig_convert.proofs.undoing.source_by_places.Goals as goal

pub make_undone-requires : goal.make_undone-requires
make_undone-requires g c = (kept_without_comment _ _ _ _ _ c.requires.0.bare c.requires.1.0, c.requires.1.1)

pub returns-in-Err-clause-fault : goal.returns-in-Err-clause-fault
returns-in-Err-clause-fault g c =
    of_exchanges g.mapped (block_read g.mapped) c.args.comment.now c.requires.1.0.fit.ordered
    c.requires.0.read c.in-Err.stopped c.requires.0.formed (rw c.requires.0.bare at c.in-Err.ensures.err)

pub confirm_source-requires : goal.confirm_source-requires
confirm_source-requires g c = (
  c.requires.0,
  (
    c.requires.1.0,
    (rw c.requires.0.bare at c.in-Ok.ensures.ok, rw c.requires.0.bare at c.in-Ok.ensures.differ),
  ),
)

pub returns-clause-ok : goal.returns-clause-ok
returns-clause-ok g c =
    let is : c.in-Ok.source ≡ source_read g.mapped c.args.comment.now = rw c.requires.0.bare at c.in-Ok.ensures.ok in
    rw is at c.confirm_source.ensures.ok

pub returns-clause-formed : goal.returns-clause-formed
returns-clause-formed g c =
    let x = g.mapped in
    let rest = c.args.comment.now in
    let is : c.in-Ok.source ≡ source_read x rest = rw c.requires.0.bare at c.in-Ok.ensures.ok in
    let again = well_formed_again (block_read x) x (comment_behind (block_read x) rest) c.requires.0.formed
    c.requires.1.0.fit in
    let formed : (k : Circuit) → k ≡ source_read x rest → AreDistinct (defined_variables k) → IsWellFormed k =
    λ k same. subst (λ (d : Circuit). AreDistinct (defined_variables d) → IsWellFormed d) (sym same) again in
    IfOk-weaker c.confirm_source.result (λ (k : Circuit). k ≡ source_read x rest)
    (λ (k : Circuit). AreDistinct (defined_variables k) → IsWellFormed k) formed
    (rw is at c.confirm_source.ensures.ok)

pub returns-clause-fault : goal.returns-clause-fault
returns-clause-fault g c =
    of_confirmed g.mapped (block_read g.mapped) c.args.comment.now c.requires.1.0.fit.ordered
    c.requires.0.read c.in-Ok.source c.confirm_source.result
    (rw c.requires.0.bare at c.in-Ok.ensures.ok) c.confirm_source.ensures.err
