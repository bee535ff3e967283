use Rattle.std.proofs.Common.{◌≡◌, ◌∙◌, None, rules, sym}
use Rattle.std.specs.Option.{option_and_then}
use Rattle.aig_pairing.specs.NameFaults.{wrong_name}
use Rattle.aig_pairing.specs.Parts.Places.{place_in}
use Rattle.aig_pairing.proofs.Indexing.{next_at, next_behind}
use Rattle.aig_pairing.proofs.index.places_of.Goals as goal

pub loop-at-preserved : goal.loop-at-preserved
loop-at-preserved c =
    let n = c.index-names-at.result in
    let old = c.loop-at.places in
    let right : wrong_name n (option_and_then (place_in old) n) ≡ None =
    sym c.in_ok-kind.ensures.wrong ∙ c.in_default.is in
    let at = c.loop-at.invariant.places in
    record {
      places = next_at c.args.names.now c.loop-at.at n (search rules) c.index-names-at.is c.args.paired old
          c.put_place.new.places at right c.in_ok-kind.ensures.put;
      left = next_behind c.args.names.now c.loop-at.at n (search rules) c.index-names-at.is c.args.paired old
          c.put_place.new.places at right ∙ c.loop-at.invariant.left;
    }
