use Rattle.std.proofs.Common.{◌<◌, ◌∙◌, add-one, ap, arith, drop, length, map, sym}
use Rattle.std.proofs.lemmas.List.{length-map}
use Rattle.aig_meaning.specs.Meaning.{literal_value}
use Rattle.aig_step.specs.Parts.Tables.{read_from}
use Rattle.aig_replay.specs.Finding.{first_one}
use Rattle.aig_replay.proofs.Running.{first_at, seen_at}
use Rattle.aig_replay.proofs.search.first_one.Goals as goal

pub returns-then-is_one : goal.returns-then-is_one
returns-then-is_one c =
    let a = read_from c.args.values.now in
    let ls = c.args.literals.now in
    let vs = map (literal_value a) ls in
    let i = c.loop-place.place in
    let low : i < length vs = omega (arith, length-map ls (literal_value a), c.loop-place-test.true) in
    let seen = seen_at a ls i _ _ _ _ c.loop-place-test.true c.index-literals-place.is c.value.ensures c.is_one.ensures
    c.if-is_one.true in
    sym (first_at vs i _ low seen) ∙ c.loop-place.invariant

pub loop-place-preserved : goal.loop-place-preserved
loop-place-preserved c =
    let a = read_from c.args.values.now in
    let ls = c.args.literals.now in
    let vs = map (literal_value a) ls in
    let i = c.loop-place.place in
    let low : i < length vs = omega (arith, length-map ls (literal_value a), c.loop-place-test.true) in
    let seen = seen_at a ls i _ _ _ _ c.loop-place-test.true c.index-literals-place.is c.value.ensures c.is_one.ensures
    c.if-is_one.false in
    ap (λ n. first_one n (drop n vs)) (add-one i) ∙ sym (first_at vs i _ low seen) ∙ c.loop-place.invariant
