use Rattle.std.proofs.Common.{◌<◌, ◌≤◌, ◌∙◌, List, [], length, take, sym, subst, refl, arith, take_all}
use Rattle.aig_circuit.specs.declared.value.Val.{Val}
use Rattle.aig_circuit.specs.declared.value.Val.TheVariants.{Zero}
use Rattle.aig_places.specs.Lanes.{IsLane}
use Rattle.aig_step.specs.Parts.Tables.{placed, read_from}
use Rattle.aig_places.proofs.Side.Tables.{lane_length, pair_of_variable, placed_more}
use Rattle.aig_places.proofs.lanes.place_lanes.Goals as goal

pub loop-i-preserved : goal.loop-i-preserved
loop-i-preserved c =
    let i = c.loop-i.i in
    let given = c.args.given.now in
    record {
      lanes = λ k values before is from.
          let below : i < length before = omega (arith, c.loop-i-test.true, lane_length k given before from) in
          let x = read_from before i in
          subst (λ (vs : List Val). IsLane k c.put_pair.new.planes vs)
          (sym (placed_more c.args.first i before Zero x values below refl))
          (c.put_pair.ensures k (placed c.args.first (take i before) values) x
          (c.loop-i.invariant.lanes k values before is from)
          (pair_of_variable k given before from i [] [] below));
      size = c.put_pair.auto.planes ∙ c.loop-i.invariant.size;
    }

pub returns : goal.returns
returns c l values before is from =
    let end : length before ≤ c.loop-i.i =
    omega (arith, c.loop-i-test.false, lane_length l c.args.given.now before from) in
    subst (λ (xs : List Val). IsLane l c.loop-i.planes (placed c.args.first xs values)) (take_all c.loop-i.i before end)
    (c.loop-i.invariant.lanes l values before is from)
