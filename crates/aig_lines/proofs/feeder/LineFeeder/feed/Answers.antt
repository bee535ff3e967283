use Rattle.std.proofs.Common.{◌≡◌, ◌∙◌, ◌++◌, ◌∷◌, List, ℕ, drop, ap, sym, subst, arith, false, true}
use Rattle.aig_lines.specs.Feeders.{Feeder}
use Rattle.aig_lines.specs.Keeping.{Keeping, keeping_more}
use Rattle.aig_lines.specs.Lines.{HasNoLineFeed}
use Rattle.aig_lines.proofs.Feeds.{flipped, way_begins, way_ends, way_line, way_refused, first_line, no_line}
use Rattle.aig_lines.proofs.feeder.LineFeeder.feed.Goals as goal

pub returns-then-self-clause-folded : goal.returns-then-self-clause-folded
returns-then-self-clause-folded g c = λ at stands.
    let t = g.T.LineTaker in
    way_refused t.step t.IsAt _ _ c.args.chunk.now _ (way_begins t.step t.IsAt _ _ at c.args.chunk.now stands)
    (sym (ap (λ (f : Feeder). f.refused) c.self.view_is) ∙ c.if-self.true)

pub returns-then-not-take_ended-clause-folded : goal.returns-then-not-take_ended-clause-folded
returns-then-not-take_ended-clause-folded g c = λ place stands.
    let t = g.T.LineTaker in
    let rest = c.loop-at.rest.now in
    let at = c.in-Some.at in
    let piece = c.split_at.result.0.now in
    let cut = first_line rest at c.in-Some.ensures in
    let none = subst HasNoLineFeed (sym c.split_at.ensures.front) cut.0 in
    let is : rest ≡ piece ++ 10 ∷ drop 1 (drop at rest) =
    cut.1 ∙ ap (λ (t : List ℕ). t ++ 10 ∷ drop 1 (drop at rest)) (sym c.split_at.ensures.front) in
    way_refused t.step t.IsAt _ _ (drop 1 (drop at rest)) _
    (way_line t.step t.IsAt c.loop-at.self c.take_ended.new.self c.loop-at.taker c.take_ended.new.taker rest piece
    (drop 1 (drop at rest)) _ (c.loop-at.invariant.way place stands) is c.loop-at.invariant.going none
    c.take_ended.ensures.folded)
    (flipped c.take_ended.new.self.refused c.take_ended.result false c.take_ended.ensures.result
    c.if-not-take_ended.true)

pub loop-at-preserved : goal.loop-at-preserved
loop-at-preserved g c =
    let t = g.T.LineTaker in
    let rest = c.loop-at.rest.now in
    let at = c.in-Some.at in
    let piece = c.split_at.result.0.now in
    let following = c.split_at-in-Some.result.1.now in
    let cut = first_line rest at c.in-Some.ensures in
    let none = subst HasNoLineFeed (sym c.split_at.ensures.front) cut.0 in
    let same : following ≡ drop 1 (drop at rest) =
    c.split_at-in-Some.ensures.back ∙ ap (λ (t : List ℕ). drop 1 t) c.split_at.ensures.back in
    let is : rest ≡ piece ++ 10 ∷ following =
    cut.1 ∙ ap (λ (t : List ℕ). t ++ 10 ∷ drop 1 (drop at rest)) (sym c.split_at.ensures.front)
    ∙ ap (λ (t : List ℕ). piece ++ 10 ∷ t) (sym same) in
    record {
      taken = c.take_ended.ensures.counted;
      counted = omega (arith, c.take_ended.ensures.number);
      going = flipped c.take_ended.new.self.refused c.take_ended.result true c.take_ended.ensures.result
          c.if-not-take_ended.false;
      way = λ place stands.
          way_line t.step t.IsAt c.loop-at.self c.take_ended.new.self c.loop-at.taker c.take_ended.new.taker rest piece
          following _ (c.loop-at.invariant.way place stands) is c.loop-at.invariant.going none
          c.take_ended.ensures.folded;
    }

pub returns-clause-folded : goal.returns-clause-folded
returns-clause-folded g c = λ at stands.
    let t = g.T.LineTaker in
    let rest = c.loop-at.rest.now in
    way_ends t.step t.IsAt c.loop-at.self _ c.loop-at.taker rest _ (c.loop-at.invariant.way at stands)
    c.loop-at.invariant.going (no_line rest c.in_default.ensures)
    (ap (λ (k : Keeping). record {
      kept = k;
      limit = c.self-2.inside.limit;
      number = c.self-2.inside.number;
      refused = c.self-2.inside.refused;
    })
    c.keep.ensures
    ∙ ap (λ (f : Feeder). record f { kept = keeping_more f.kept rest }) c.self-2.view_is)
