use Rattle.std.proofs.Common.{◌≡◌, ◌+◌, ◌∙◌, List, length, ap, sym, subst, set, arith, length-set, map, replicate}
use Rattle.std.proofs.lemmas.Simd.{length-replicate}
use Rattle.aig_circuit.specs.declared.circuit.Circuit.{Circuit}
use Rattle.aig_circuit.specs.declared.value.Val.{Val}
use Rattle.aig_circuit.specs.declared.value.Val.TheVariants.{X, Zero}
use Rattle.aig_meaning.specs.Meaning.{IsStepAssignment, literal_value}
use Rattle.aig_places.specs.Lanes.{IsLane}
use Rattle.aig_places.specs.Places.{AreSeen, begun_with, evaluated_in_turn, gates_of}
use Rattle.aig_step.specs.Parts.Tables.{placed, read_from}
use Rattle.aig_step.proofs.Running.Machines.{filled, is_filled, placed_length}
use Rattle.aig_places.proofs.Side.Places.{evaluated_own}
use Rattle.aig_places.proofs.Side.Tables.{lane_length, table_stands, values_are}
use Rattle.aig_places.proofs.lanes.assign_lanes.Goals as goal

pub returns : goal.returns
returns c l given values before literals seen stand long is from =
    let machine = c.args.machine.now in
    let places = c.args.places.now in
    let start = placed 1 given (set values 0 Zero) in
    let now = c.evaluate.new.table in
    let count : c.len.result ≡ length given = c.len.ensures ∙ ap length c.parts-parts.ensures.inputs ∙ sym long in
    let size : length c.place_lanes.new.planes ≡ length c.args.table.now = c.place_lanes.auto.planes in
    let size_too : length now ≡ length c.args.table.now = c.evaluate.auto.table ∙ size in
    let each : length before ≡ length machine.latches =
    omega (arith, c.requires.each_latch, lane_length l c.args.state.now before from) in
    let begun : length start ≡ length values = placed_length 1 given (set values 0 Zero) ∙ length-set values 0 Zero in
    let room : length values ≡ places.count =
    omega (arith, begun, c.requires.room, lane_length l c.args.table.now start is) in
    let whole = evaluated_in_turn (gates_of machine places) (placed (1 + length given) before start) in
    let stands : IsLane l now whole =
    subst (λ n. IsLane l now (evaluated_in_turn (gates_of machine places) (placed (1 + n) before start))) count
    (c.evaluate.ensures l (placed (1 + c.len.result) before start) (c.place_lanes.ensures l start before is from)) in
    let pairs = c.pairs-pairs.result.now in
    let none = replicate (1 + machine.max_var) X in
    let full : length none ≡ 1 + machine.max_var = length-replicate (1 + machine.max_var) X in
    let own = filled machine pairs given before none in
    record {
      now = table_stands l now whole stands places.count
          (omega (arith, size_too, c.requires.room, lane_length l now whole stands));
      step = subst (AreSeen machine before given literals seen) (values_are l now whole stands) (record {
        value = read_from own;
        is_step =
            subst (λ (k : Circuit). IsStepAssignment k before given (read_from own)) c.pairs-pairs.ensures.is
            (is_filled machine pairs c.pairs-pairs.ensures.runs given before none long each full);
        same =
            stand.same before given values none each long room full
            ∙ ap (λ (vs : List Val). map (literal_value (read_from vs)) literals)
            (sym
            (evaluated_own machine pairs c.pairs-pairs.ensures.runs c.pairs-pairs.ensures.is places
            (begun_with given before none)));
      });
    }
