use Rattle.std.proofs.Common.{rules}
use Rattle.std.proofs.lemmas.List.Folds.{list_all_at}
use Rattle.aig_lasso.proofs.search.are_noted.Goals as goal

pub returns-then-not-is_met : goal.returns-then-not-is_met
returns-then-not-is_met c = search (rules, list_all_at)
