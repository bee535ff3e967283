use Rattle.std.specs.Prelude.{◌≡◌, ◌+◌, drop}
use Rattle.aig_invariant.specs.Invariant.{conjunction, with_conjunction}
use Rattle.aig_invariant.proofs.Growing.Cubes.{chain_of, with_chain}
use Rattle.aig_invariant.proofs.growth.chain.Given as goal

abbrev pub invariant-loop-literal : goal.invariant-loop-literal
invariant-loop-literal l = record {
  grown : with_chain l.chain (drop l.literal-index l.literals) l.circuit ≡ with_conjunction l.literals l.fn.circuit;
  chain : chain_of l.chain (drop l.literal-index l.literals) l.circuit ≡ conjunction l.literals l.fn.circuit;
  room : l.circuit.max_var ≡ l.fn.circuit.max_var + l.literal-index;
}
