use Rattle.std.proofs.Common.{◌≡◌, ◌+◌, ◌∙◌, ℕ, ap, arith, get_or, inl, inr, subst}
use Rattle.std.proofs.lemmas.Bool.{cases_lt}
use Rattle.std.proofs.lemmas.List.{get_or_default}
use Rattle.aig_meaning.specs.Meaning.{literal_value}
use Rattle.aig_places.specs.Lanes.{IsPair}
use Rattle.aig_step.specs.Parts.Tables.{read_from}
use Rattle.aig_lanes.proofs.Side.Eights.{pair_stands, pair_stays, two_long}
use Rattle.aig_lanes.proofs.lane_columns.planes_of_literals.Goals as goal

pub loop-k-preserved : goal.loop-k-preserved
loop-k-preserved c =
    let eight = c.loop-k.eight in
    let here = c.loop-k.k in
    let one = c.planes_of.result.0 in
    let other = c.planes_of.result.1 in
    let long = c.loop-k.invariant.size in
    let below = c.loop-k-test.true in
    let literals = c.args.literals.now in
    let first = c.args.first in
    record {
      pairs = λ t k values before there is.
          let x = literal_value (read_from values) (get_or literals (first + k) 0) in
          elim (cases_lt k here) [
            | inl less ↦
                pair_stays eight here one other long below t k x less
                (c.loop-k.invariant.pairs t k values less there is)
            | inr more ↦
                let same : k ≡ here = omega (arith, more, before) in
                let at : c.min.result ≡ first + k = omega (arith, c.min.ensures, there, same) in
                let literal = c.index-literals-min.is
                ∙ get_or_default literals c.min.result c.index-literals-min.result 0 (omega (arith, at, there))
                ∙ ap (λ (n : ℕ). get_or literals n 0) at in
                pair_stands eight here one other long below t k x same
                (subst (λ (n : ℕ). IsPair t one other (literal_value (read_from values) n)) literal
                (c.planes_of.ensures t values is))
          ];
      size = two_long eight here one other long below;
    }

pub returns : goal.returns
returns c = λ l k values below there is.
    c.loop-k.invariant.pairs l k values (omega (arith, below, c.loop-k-test.false)) there is
