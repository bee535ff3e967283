use Rattle.std.proofs.Common.{◌≡◌, ◌<◌, ◌++◌, List, length, map, get_or, take, drop, sym, subst, ◌∙◌, arith, ap}
use Rattle.std.proofs.lemmas.List.{get_or-map, length-map}
use Rattle.aig_circuit.specs.declared.value.Val.{Val}
use Rattle.aig_circuit.specs.declared.value.Val.TheVariants.{Zero}
use Rattle.aig_meaning.specs.Meaning.{literal_value}
use Rattle.aig_places.specs.Lanes.{IsLane}
use Rattle.aig_step.specs.Parts.Tables.{read_from}
use Rattle.aig_places.proofs.Side.Tables.{filled_all, filled_more, lane_length}
use Rattle.aig_places.proofs.lanes.put_literal_planes.Goals as goal

pub loop-i-preserved : goal.loop-i-preserved
loop-i-preserved c =
    let i = c.loop-i.i in
    let literals = c.args.literals.now in
    let literal = c.index-literals-i.result in
    record {
      lanes = λ k values before is from.
          let value = literal_value (read_from values) in
          let shown = map value literals in
          let size = length-map literals value in
          let long : length before ≡ length shown =
          omega (arith, lane_length k c.args.state.now before from, c.requires.room, size) in
          let in_list : i < length shown = omega (arith, c.loop-i-test.true, size) in
          let x = value literal in
          let is_there : x ≡ get_or shown i Zero =
          ap value c.index-literals-i.is ∙ sym (get_or-map value literals i literal Zero c.loop-i-test.true) in
          subst (λ (vs : List Val). IsLane k c.put_pair.new.planes vs)
          (sym (filled_more i shown before Zero x in_list long is_there))
          (c.put_pair.ensures k (take i shown ++ drop i before) x
          (c.loop-i.invariant.lanes k values before is from) (c.planes_of.ensures k values is));
      size = c.put_pair.auto.planes ∙ c.loop-i.invariant.size;
    }

pub returns : goal.returns
returns c l values before is from =
    let literals = c.args.literals.now in
    let shown = map (literal_value (read_from values)) literals in
    let size = length-map literals (literal_value (read_from values)) in
    let long : length before ≡ length shown =
    omega (arith, lane_length l c.args.state.now before from, c.requires.room, size) in
    subst (λ (vs : List Val). IsLane l c.loop-i.state vs)
    (filled_all c.loop-i.i shown before (omega (arith, c.loop-i-test.false, size)) long)
    (c.loop-i.invariant.lanes l values before is from)
