use Rattle.std.proofs.Common.{◌≡◌, get_or, length, arith}
use Rattle.aig_info.proofs.LongestPath.{gate_fits, gate_taken, is_depth, next_there, none_taken}
use Rattle.aig_info.proofs.levels.depth.Goals as goal

pub loop-place-init : goal.loop-place-init
loop-place-init c = rw c.list-place-items.ensures (rw c.in_ok-levels.ensures
    (none_taken c.args.circuit.now c.in_ok-order.order.list c.requires c.in_ok-order.ensures.least))

pub bounds-deref-place : goal.bounds-deref-place
bounds-deref-place c = rw c.deref.ensures (next_there c.loop-place.invariant c.loop-place-test.true)

pub overflow_add-level : goal.overflow_add-level
overflow_add-level c =
    let gate = c.index-deref-place.result in
    let place = get_or c.list-place-items.result.now c.loop-place.place-index 0 in
    let is : gate ≡ get_or c.args.circuit.now.gates place gate = cc (c.index-deref-place.is, c.deref.ensures) in
    let fits = gate_fits c.loop-place.invariant c.loop-place-test.true gate is _ _ c.level_of-left.ensures
    c.level_of-right.ensures in
    omega (arith, fits, c.max-level.ensures)

pub insert-requires : goal.insert-requires
insert-requires c =
    let gate = c.index-deref-place.result in
    let place = get_or c.list-place-items.result.now c.loop-place.place-index 0 in
    let is : gate ≡ get_or c.args.circuit.now.gates place gate = cc (c.index-deref-place.is, c.deref.ensures) in
    let fits = gate_fits c.loop-place.invariant c.loop-place-test.true gate is _ _ c.level_of-left.ensures
    c.level_of-right.ensures in
    omega (arith, fits, c.max-level.ensures)

pub loop-place-preserved : goal.loop-place-preserved
loop-place-preserved c =
    let gate = c.index-deref-place.result in
    let place = get_or c.list-place-items.result.now c.loop-place.place-index 0 in
    let is : gate ≡ get_or c.args.circuit.now.gates place gate = cc (c.index-deref-place.is, c.deref.ensures) in
    rw c.in_ok-insert.ensures.ok (rw c.max-depth.ensures (rw c.max-level.ensures
    (gate_taken c.loop-place.invariant c.loop-place-test.true gate is _ _ c.level_of-left.ensures
    c.level_of-right.ensures)))

pub returns : goal.returns
returns c =
    let at_end : c.loop-place.place-index ≡ length c.list-place-items.result.now = omega arith in
    is_depth (rw at_end at c.loop-place.invariant)
