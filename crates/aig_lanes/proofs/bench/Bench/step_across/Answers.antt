use Rattle.std.proofs.Common.{◌≡◌, ◌-◌, ◌∙◌, ◌<◌, ℕ, zero, suc, List, [], ap, arith}
use Rattle.std.proofs.Common.{get_or, length, min, subst, sym}
use Rattle.std.proofs.lemmas.List.{with_items_is}
use Rattle.aig_circuit.specs.declared.circuit.Circuit.{Circuit}
use Rattle.aig_circuit.specs.declared.value.Val.{Val}
use Rattle.aig_lanes.specs.declared.lane_columns.LaneColumns.{LaneColumns}
use Rattle.aig_places.specs.Tables.{IsTable}
use Rattle.aig_lanes.specs.Parts.InputBits.{HoldsLane, one_step, step_of}
use Rattle.aig_lanes.specs.Parts.LaneTexts.{KeepsRun}
use Rattle.aig_lanes.specs.Runs.{IsRunOf}
use Rattle.aig_lanes.proofs.Benches.Steps.{run_kept}
use Rattle.aig_lanes.proofs.bench.Bench.step_across.Goals as goal

one_fits : (c : Circuit) (vector : List Val) → length vector ≡ length c.inputs → IsRunOf c (one_step vector)
one_fits c vector is zero d below = is
one_fits c vector is (suc k) d below = absurd (omega (arith, below))

pub invariant_of-self-2 : goal.invariant_of-self-2
invariant_of-self-2 c = record {
  whole = λ _ l variables low long.
      let machine = c.args.machine.now in
      let vectors = c.args.vectors.now in
      let vector = step_of vectors l in
      let inputs = c.requires.inputs (min l (length vectors.steps - 1)) []
      (omega (arith, c.if-len-eq0.false, c.len.ensures)) in
      let bits = with_items_is c.args.self.now.bits c.fill_across.new.bits
      (c.fill_across.ensures.same.count ∙ c.deref_mut.ensures.len) in
      subst (λ (n : ℕ). IsTable l n c.step_lanes.new.self.table.items)
      (omega (
        arith,
        long,
        c.step_lanes.ensures.same.table,
        c.requires.room.is.tables.table_size,
        ap (λ (s : LaneColumns). s.places.count) c.step_lanes.ensures.same.shown,
      ))
      ((c.step_lanes.ensures.ends l (one_step vector) (record {
        is_lane = low;
        fits = one_fits machine vector inputs;
        stands = subst (HoldsLane l (one_step vector)) (sym bits) (c.fill_across.ensures.holds l low);
        room = c.requires.room.sheet l low;
      })).table_stands (omega arith));
}

pub returns-clause-keeps : goal.returns-clause-keeps
returns-clause-keeps c j below =
    let machine = c.args.machine.now in
    let vectors = c.args.vectors.now in
    let lane : j < 256 = omega (arith, below, c.requires.lanes) in
    let vector = step_of vectors j in
    let own : vector ≡ get_or vectors.steps j [] =
    ap (λ (n : ℕ). get_or vectors.steps n []) (omega (arith, below)) in
    let bits = with_items_is c.args.self.now.bits c.fill_across.new.bits
    (c.fill_across.ensures.same.count ∙ c.deref_mut.ensures.len) in
    let inputs = subst (λ (v : List Val). length v ≡ length machine.inputs) (sym own) (c.requires.inputs j [] below) in
    let bench = c.step_lanes.new.self in
    subst (λ (v : List Val). KeepsRun machine (one_step v) j bench.shown bench.sheet) own
    (run_kept _ (one_step vector) _ j _ _ _ _ (omega arith)
    (c.step_lanes.ensures.ends j (one_step vector) (record {
      is_lane = lane;
      fits = one_fits machine vector inputs;
      stands = subst (HoldsLane j (one_step vector)) (sym bits) (c.fill_across.ensures.holds j lane);
      room = c.requires.room.sheet j lane;
    })))
