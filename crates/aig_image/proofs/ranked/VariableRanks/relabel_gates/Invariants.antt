use Rattle.std.proofs.Common.{◌≡◌, ◌++◌, map, take, drop, true}
use Rattle.std.specs.List.{AllByRecursion}
use Rattle.aig_circuit.specs.declared.circuit.Gate.{Gate}
use Rattle.aig_image.specs.Parts.Ranked.{rank_label, HasRank}
use Rattle.aig_image.specs.Relabelled.{relabelled_gate}
use Rattle.aig_image.proofs.ranked.VariableRanks.relabel_gates.Given as goal

abbrev pub invariant-loop-at : goal.invariant-loop-at
invariant-loop-at l = record {
  gates : l.gates ≡ map (relabelled_gate (rank_label l.self.ranks)) (take l.at l.fn.gates) ++ drop l.at l.fn.gates;
  all : l.all ≡ true → AllByRecursion (λ (g : Gate). HasRank l.self.ranks g.var) (take l.at l.fn.gates);
}
