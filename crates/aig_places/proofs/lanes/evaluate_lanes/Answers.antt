use Rattle.std.proofs.Common.{◌-◌, ◌/◌, List, length, ap, sym, subst, refl, ◌∙◌, set, arith}
use Rattle.std.proofs.lemmas.List.{drop_all}
use Rattle.aig_circuit.specs.declared.value.Val.{Val}
use Rattle.aig_circuit.specs.Values.{value_and}
use Rattle.aig_meaning.specs.Meaning.{literal_value}
use Rattle.aig_step.specs.declared.evaluate.Pair.{Pair}
use Rattle.aig_places.specs.Lanes.{IsLane}
use Rattle.aig_step.specs.Parts.Tables.{evaluated, read_from}
use Rattle.aig_places.proofs.Side.Tables.{evaluated_on}
use Rattle.aig_places.proofs.lanes.evaluate_lanes.Goals as goal

pub loop-pair-init : goal.loop-pair-init
loop-pair-init c = record {
  lanes = λ k values is. (values, is, refl);
  size = refl;
  at = omega (arith, c.requires.room);
}

pub put_pair-requires : goal.put_pair-requires
put_pair-requires c = omega (arith, c.loop-pair.invariant.size, c.loop-pair.invariant.at, c.loop-pair-test.true)

pub loop-pair-preserved : goal.loop-pair-preserved
loop-pair-preserved c =
    let v = c.loop-pair.variable in
    let i = c.loop-pair.pair-index in
    let pairs = c.args.pairs.now in
    let p = c.pair-item.result in
    record {
      lanes = λ k values is.
          let before = c.loop-pair.invariant.lanes k values is in
          let now = before.0 in
          let x = value_and (literal_value (read_from now) p.left) (literal_value (read_from now) p.right) in (
            set now v x,
            c.put_pair.ensures k now x before.1 (c.planes_of_gate.ensures k now before.1),
            evaluated_on v i pairs p now
                (evaluated (length c.args.planes.now / 2 - length pairs) pairs values) c.loop-pair-test.true
                c.pair-item.is before.2,
          );
      size = c.put_pair.auto.planes ∙ c.loop-pair.invariant.size;
      at = omega (arith, c.loop-pair.invariant.at);
    }

pub returns : goal.returns
returns c l values is =
    let last = c.loop-pair.invariant.lanes l values is in
    let none = drop_all c.loop-pair.pair-index c.args.pairs.now c.loop-pair-test.false in
    subst (λ (vs : List Val). IsLane l c.loop-pair.planes vs)
    (ap (λ (ps : List Pair). evaluated c.loop-pair.variable ps last.0) (sym none) ∙ last.2) last.1
