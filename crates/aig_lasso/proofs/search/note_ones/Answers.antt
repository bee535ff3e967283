use Rattle.std.proofs.Common.{◌<◌, arith, length, map}
use Rattle.std.proofs.lemmas.List.{length-map}
use Rattle.aig_meaning.specs.Meaning.{literal_value}
use Rattle.aig_step.specs.Parts.Tables.{read_from}
use Rattle.aig_lasso.proofs.Notes.{noted_none, noted_one, seen_at}
use Rattle.aig_lasso.proofs.search.note_ones.Goals as goal
use Rattle.aig_lasso.proofs.search.note_ones.Goals.{else-is_one, then-is_one}

pub loop-place-preserved : goal.loop-place-preserved
loop-place-preserved c =
    let a = read_from c.args.values.now in
    let goals = c.args.goals.now in
    let place = c.loop-place.place in
    let vs = map (literal_value a) goals in
    let notes = c.loop-place.notes in
    let low : place < length vs = omega (arith, length-map goals (literal_value a), c.loop-place-test.true) in
    let low_too : place < length notes =
    omega (arith, c.loop-place.auto.notes, c.requires.room, c.loop-place-test.true) in
    elim c.if-is_one.branch [
      | then-is_one w ↦
          rw w.notes-is (noted_one notes vs place _ low_too low c.loop-place.invariant
          (seen_at a goals place _ _ _ _ c.loop-place-test.true c.index-goals-place.is c.value.ensures c.is_one.ensures
          w.if-is_one.true))
      | else-is_one w ↦
          rw w.notes-is (noted_none notes vs place _ low_too low c.loop-place.invariant
          (seen_at a goals place _ _ _ _ c.loop-place-test.true c.index-goals-place.is c.value.ensures c.is_one.ensures
          w.if-is_one.false))
    ]
