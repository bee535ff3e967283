use Rattle.std.proofs.Common.{◌≡◌, ◌/◌, ◌∙◌, ap, arith, length, subst, sym, All}
use Rattle.std.specs.Vec.{with_items}
use Rattle.std.proofs.lemmas.List.{length-map, with_items_is}
use Rattle.aig_step.specs.Parts.Tables.{IsLiteralBelow}
use Rattle.aig_places.specs.Tables.{IsWhole}
use Rattle.aig_places.specs.Lanes.{values_in}
use Rattle.aig_lanes.proofs.Benches.Steps.{resets_below, stands_first}
use Rattle.aig_lanes.proofs.bench.Bench.step_lanes.Goals as goal

pub put_resets-requires-clause-whole : goal.put_resets-requires-clause-whole
put_resets-requires-clause-whole c told = subst IsWhole (sym c.deref_mut.ensures.value) (c.args.self.now.whole told)

pub put_resets-requires-clause-below : goal.put_resets-requires-clause-below
put_resets-requires-clause-below c =
    let size = length c.deref_mut.result.now / 2 in
    let tables = c.requires.is.tables in
    subst (All (IsLiteralBelow size)) (sym tables.shows.resets)
    (resets_below size c.args.machine.now.latches
    (λ some.
    omega (arith, some, tables.table_size, c.deref_mut.ensures.len, tables.shows.places.room)))

pub put_resets-requires-clause-state : goal.put_resets-requires-clause-state
put_resets-requires-clause-state c =
    let tables = c.requires.is.tables in
    omega (arith, tables.state_size, c.deref_mut-2.ensures.len, simp length-map at (ap length tables.shows.resets))

pub returns-clause-ends : goal.returns-clause-ends
returns-clause-ends c j run held =
    let machine = c.args.machine.now in
    let bench = c.args.self.now in
    let tables = c.requires.is.tables in
    let begun = c.put_resets.ensures.table j bench.shown.places.count held.is_lane
    (omega (arith, c.deref_mut.ensures.len, tables.table_size)) in
    let values = values_in j c.put_resets.new.table in
    let first = stands_first machine run j c.put_resets.new.table c.put_resets.new.state bench.shown
    c.put_resets.new.sheet tables.shows begun
    (c.put_resets.ensures.state j values held.is_lane begun.now.stand)
    (c.put_resets.ensures.text j values held.is_lane begun.now.stand (omega (arith, held.room))) in
    let table : c.deref_mut-3.result.now ≡ c.put_resets.new.table =
    c.deref_mut-3.ensures.value
    ∙ with_items_is bench.table c.put_resets.new.table (c.put_resets.auto.table ∙ c.deref_mut.ensures.len) in
    let state : c.deref_mut-4.result.now ≡ c.put_resets.new.state =
    c.deref_mut-4.ensures.value
    ∙ with_items_is bench.state c.put_resets.new.state (c.put_resets.auto.state ∙ c.deref_mut-2.ensures.len) in
    let stood = c.take_steps.ensures.stands j run
    (record {
      is_lane = held.is_lane;
      fits = held.fits;
      stands = rw c.deref.ensures.value held.stands;
      room = omega (arith, c.put_resets.ensures.room j, held.room);
    })
    (rw (table, state) first) in
    let table_now = with_items_is (with_items bench.table c.put_resets.new.table) c.take_steps.new.table
    (c.take_steps.auto.table ∙ c.deref_mut-3.ensures.len) in
    let state_now = with_items_is (with_items bench.state c.put_resets.new.state) c.take_steps.new.state
    (c.take_steps.auto.state ∙ c.deref_mut-4.ensures.len) in
    rw (table_now, state_now) stood
