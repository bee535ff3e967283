use Rattle.std.proofs.Common.{◌≡◌, ◌+◌, ◌++◌, [], ◌∷◌, Global, List, Vec, ℕ, arith, subst, sym, take}
use Rattle.std.specs.Prelude.{All}
use Rattle.std.proofs.lemmas.Grind.{common_steps}
use Rattle.std.proofs.lemmas.List.Elements.{All-push}
use Rattle.aig_cnf.specs.Clauses.{HasTrue}
use Rattle.aig_refute.proofs.Gained.{preserves_both}
use Rattle.aig_refute.proofs.checker.Checker.follow_all.Goals as goal

pub returns-then-not-follows-clause-preserves : goal.returns-then-not-follows-clause-preserves
returns-then-not-follows-clause-preserves c =
    preserves_both _ _ _ c.loop-k.invariant.0 c.in_ok-follows.ensures.preserves

pub loop-k-preserved : goal.loop-k-preserved
loop-k-preserved c = (
  preserves_both _ _ _ c.loop-k.invariant.0 c.in_ok-follows.ensures.preserves,
  λ a agrees.
      let clauses : List (Vec ℕ Global) = c.args.clauses.now in
      let clause : Vec ℕ Global = c.index-clauses-k.result in
      let has = rw c.deref.ensures.value at (c.in_ok-follows.ensures.follows c.if-not-follows.false a
      (c.loop-k.invariant.0.admits a agrees)) in
      let more : take (c.loop-k.k + 1) clauses ≡ take c.loop-k.k clauses ++ clause ∷ [] =
      grind (arith, common_steps) in
      subst (λ (l : List (Vec ℕ Global)). All (λ (v : Vec ℕ Global). HasTrue a v.items) l) (sym more)
      (All-push (λ (v : Vec ℕ Global). HasTrue a v.items) (take c.loop-k.k clauses) clause
      (c.loop-k.invariant.1 a agrees) has),
)

pub returns-clause-follow : goal.returns-clause-follow
returns-clause-follow c = λ is a agrees.
    let clauses : List (Vec ℕ Global) = c.args.clauses.now in
    let all : take c.loop-k.k clauses ≡ clauses = grind (arith, common_steps) in
    subst (λ (l : List (Vec ℕ Global)). All (λ (v : Vec ℕ Global). HasTrue a v.items) l) all
    (c.loop-k.invariant.1 a agrees)
