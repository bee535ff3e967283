use Rattle.std.proofs.Common.{◌-◌, length}
use Rattle.aig_cone.specs.Parts.Search.{HasMarks}
use Rattle.aig_cone.proofs.Searching.{IsSearchedTo, candidates}
use Rattle.aig_cone.proofs.search.search_all.Given as goal

abbrev pub invariant-loop-at : goal.invariant-loop-at
invariant-loop-at l = record {
  marks : HasMarks l.found;
  searched : IsSearchedTo l.reach l.circuit l.fn.found.list.items l.found.list.items l.at;
}

abbrev pub decreases-loop-at : goal.decreases-loop-at
decreases-loop-at l = length (candidates l.reach l.circuit l.fn.found.list.items) - l.at
