use Rattle.std.proofs.Common.{◌≡◌, ◌+◌, ◌≤◌, ◌++◌, ◌∷◌, ◌∙◌, [], List, ℕ, length, length-append, ap, subst, sym}
use Rattle.aig_map.specs.Parts.Turns.{AreLinks, IsClear}
use Rattle.aig_map.proofs.Confirming.{one_more_link, one_more_clear}
use Rattle.aig_map.proofs.turns.are_taken_in_turn.Goals as goal

pub loop-gate-preserved : goal.loop-gate-preserved
loop-gate-preserved c =
    let links : List ℕ = c.loop-gate.links.items in
    let at : ℕ = c.in-Some.at in
    let places : List ℕ = c.args.places.now in
    let slice : c.as_slice.result.now ≡ links = c.as_slice.ensures.value in
    let items : c.push.new.self.items ≡ links ++ at ∷ [] = c.in_ok-push-in-Some.ensures.items in
    let long : length links ≡ c.loop-gate.gate-index = c.loop-gate.invariant.many in
    let back : at ≤ length links = subst (λ (xs : List ℕ). at ≤ length xs) slice c.in-Some.ensures.back in
    let clear = subst (λ (xs : List ℕ). IsClear places at (length xs)) slice c.in-Some.ensures.clear in
    record {
      many = ap length items ∙ length-append links (at ∷ []) ∙ ap (λ n. n + 1) long;
      links = subst (AreLinks places) (sym items)
          (one_more_link places links at c.loop-gate.invariant.links back clear);
      clear = one_more_clear c.args.first c.args.gates.now places c.loop-gate.gate-index at c.ready_from.result
          c.gate-item.result c.loop-gate-test.true c.gate-item.is c.ready_from.ensures c.in-Some.ensures.ready
          (subst (IsClear places at) long clear) c.loop-gate.invariant.clear;
    }
