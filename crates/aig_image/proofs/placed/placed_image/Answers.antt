use Rattle.std.proofs.Common.{◌∙◌, length, map, sym, ap, ap₂, subst}
use Rattle.std.proofs.lemmas.List.{length-map}
use Rattle.aig_topo.specs.Needs.{needs_of}
use Rattle.aig_topo.specs.Order.{IsLeastReadyOrder}
use Rattle.aig_topo.proofs.Ordering.Ranked.{at}
use Rattle.aig_image.specs.Parts.Placed.{gate_by}
use Rattle.aig_image.proofs.Imaging.InTurn.{all_taken}
use Rattle.aig_image.proofs.Imaging.Placed.{small, made_by_places}
use Rattle.aig_image.proofs.placed.placed_image.Goals as goal

pub gates-requires-clause-small : goal.gates-requires-clause-small
gates-requires-clause-small c =
    small c.args.circuit c.list.result.now c.requires.good
    (subst (IsLeastReadyOrder c.args.circuit) (sym c.list.ensures) c.requires.least) c.in_ok-placed.placed
    c.in_ok-placed.ensures

pub gates-requires-clause-many : goal.gates-requires-clause-many
gates-requires-clause-many c =
    ap length c.as_slice.ensures
    ∙ sym (ap length c.list-2.ensures ∙ all_taken c.args.circuit c.args.order.list c.requires.good c.requires.least)

pub gates-requires-clause-needs : goal.gates-requires-clause-needs
gates-requires-clause-needs c =
    let gates = c.args.circuit.gates in
    ap length c.in_ok-placed.ensures.resolved.needs
    ∙ length-map gates (needs_of gates)
    ∙ sym (ap length c.list-2.ensures ∙ all_taken c.args.circuit c.args.order.list c.requires.good c.requires.least)

pub image-requires-clause-of_it : goal.image-requires-clause-of_it
image-requires-clause-of_it c =
    let placed = c.in_ok-placed.placed in
    made_by_places c.args.circuit c.list.result.now c.requires.good
    (subst (IsLeastReadyOrder c.args.circuit) (sym c.list.ensures) c.requires.least) placed c.in_ok-placed.ensures
    c.in_ok-gates.gates.items
    (c.in_ok-gates.ensures
    ∙ ap₂ (λ gs xs. map (λ i. gate_by placed i (at gs i)) xs) c.as_slice.ensures
    (c.list-2.ensures ∙ sym c.list.ensures))
