use Rattle.std.proofs.Common.{ℕ, List, OnOk, ◌++◌, subst}
use Rattle.aig_core.specs.Parts.Parted.{AreParts}
use Rattle.aig_core.proofs.checks.distinct.put_definition.Goals as goal

pub returns-in-Some-clause-put : goal.returns-in-Some-clause-put
returns-in-Some-clause-put g c =
    subst (λ (xs : List ℕ). OnOk c.put.result ((all : List ℕ) → AreParts c.args.parts.now all
    → AreParts c.put.new.parts (all ++ xs))) (c.in-Some.ensures) c.put.ensures.put
