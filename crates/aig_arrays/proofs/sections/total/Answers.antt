use Rattle.std.proofs.Common.{rules}
use Rattle.std.proofs.lemmas.List.Sums.{sum_by-drop_more}
use Rattle.aig_arrays.proofs.sections.total.Goals as goal

pub overflow_add-all : goal.overflow_add-all
overflow_add-all c = search (rules, sum_by-drop_more)
