use Rattle.aig_binary.proofs.Deltas.Shortest.{shortest_is_delta, shortest_is_shortest}
use Rattle.aig_binary.proofs.laws.shortest_is_delta.Goals as goal

pub returns : goal.returns
returns c = λ value h. (shortest_is_delta value h, shortest_is_shortest value h)
