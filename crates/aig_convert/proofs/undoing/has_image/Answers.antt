use Rattle.std.proofs.Common.{◌↔◌, rules, subst, ℕ, List, Bool, Option, IsTrue, IfOk}
use Rattle.std.proofs.lemmas.Result.{IfOk-weaker}
use Rattle.aig_circuit.specs.declared.circuit.Circuit.{Circuit}
use Rattle.aig_topo.specs.Order.{IsLeastReadyOrder}
use Rattle.aig_circuit.specs.Wellformed.{AreDistinct, defined_variables}
use Rattle.aig_map.specs.MapBlock.{IsMappedImage}
use Rattle.aig_map.specs.Parts.Confirmed.{TellsComment}
use Rattle.aig_map.specs.Parts.Tables.{block_read, source_read}
use Rattle.aig_map.specs.Parts.Turns.{positions}
use Rattle.aig_map.specs.Undone.{comment_behind, undone}
use Rattle.aig_map.proofs.BlockReading.Block.{kept_without_comment}
use Rattle.aig_map.proofs.Sources.Refused.{image_differs}
use Rattle.aig_map.proofs.Sources.OneSource.{by_comment, by_order}
use Rattle.aig_convert.proofs.undoing.has_image.Goals as goal

pub returns-then-not-tells_comment : goal.returns-then-not-tells_comment
returns-then-not-tells_comment g c = search (rules, by_comment)

pub tells_order-requires : goal.tells_order-requires
tells_order-requires g c =
    let kept = kept_without_comment _ _ _ _ _ c.requires.0.bare c.requires.1.0 in
    (kept.fit, kept.placed)

pub returns : goal.returns
returns g c = λ formed.
    let x = g.mapped in
    let b = block_read x in
    let rest = c.args.comment.now in
    let left = c.requires.0 in
    let recorded = subst (λ (y : Circuit). (comment : Option (List ℕ))
    → AreDistinct (defined_variables (undone b comment y))
    → IfOk c.tells_order.result (λ (recorded : Bool). IsTrue recorded
    ↔ IsLeastReadyOrder (undone b comment y) (positions b.gates))) left.bare c.tells_order.ensures in
    let tells = subst (λ (has : Bool). IsTrue c.tells_comment.result ↔ TellsComment has rest)
    c.requires.1.0.recorded.has_comment c.tells_comment.ensures in
    IfOk-weaker c.tells_order.result
    (λ (t : Bool). IsTrue t ↔ IsLeastReadyOrder (source_read x rest) (positions b.gates))
    (λ (t : Bool). IsTrue t ↔ IsMappedImage (source_read x rest) x)
    (by_order x b rest left.formed c.requires.1.0.fit left.read formed
    (tells.0 c.if-not-tells_comment.false) (image_differs b x c.requires.1.1))
    (recorded (comment_behind b rest) formed.once)
