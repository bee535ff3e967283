use Rattle.std.proofs.Common.{◌≡◌, ◌+◌, ◌↔◌, rules, length, IsTrue, arith}
use Rattle.std.proofs.lemmas.Result.{IfOk-weaker}
use Rattle.aig_topo.specs.Order.{IsLeastReadyOrder}
use Rattle.aig_map.specs.Parts.Turns.{positions, AreTakenInTurn}
use Rattle.aig_map.specs.Undone.{undone}
use Rattle.aig_map.proofs.Restoring.AtPositions.{positions_many}
use Rattle.aig_map.proofs.Confirming.{tells_order}
use Rattle.aig_map.proofs.turns.tells_order.Goals as goal

pub are_taken_in_turn-requires-clause-few : goal.are_taken_in_turn-requires-clause-few
are_taken_in_turn-requires-clause-few g c = search (rules, positions_many)

pub are_taken_in_turn-requires-clause-many : goal.are_taken_in_turn-requires-clause-many
are_taken_in_turn-requires-clause-many g c = search (rules, positions_many)

pub returns : goal.returns
returns g c = λ comment once.
    let b = g.block in
    let x = c.args.image.now in
    let start : 1 + c.len.result + c.len-2.result ≡ 1 + length x.inputs + length x.latches =
    omega (arith, c.len.ensures, c.len-2.ensures) in
    IfOk-weaker c.are_taken_in_turn.result
    (λ recorded. IsTrue recorded
    ↔ AreTakenInTurn (1 + c.len.result + c.len-2.result) c.as_slice.result.now c.args.places.now)
    (λ recorded. IsTrue recorded ↔ IsLeastReadyOrder (undone b comment x) (positions b.gates))
    (search (rules, tells_order))
    c.are_taken_in_turn.ensures
