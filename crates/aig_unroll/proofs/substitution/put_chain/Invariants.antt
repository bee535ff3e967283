use Rattle.std.specs.Prelude.{◌≡◌, ◌+◌, ◌++◌, drop, length, map, take}
use Rattle.aig_unroll.specs.Unrolled.{chain_behind, chained}
use Rattle.aig_unroll.specs.Parts.Substitution.{substituted}
use Rattle.aig_unroll.proofs.substitution.put_chain.Given as goal

abbrev pub invariant-loop-i : goal.invariant-loop-i
invariant-loop-i l = record {
  written : take l.i l.out
      ++ chained l.variable l.behind (map (substituted l.substitution l.first_gate) (drop l.i l.literals))
      ≡ chained l.first l.fn.chain (map (substituted l.substitution l.first_gate) l.literals);
  chain : chain_behind l.variable l.behind (drop l.i l.literals) ≡ chain_behind l.first l.fn.chain l.literals;
  room : length l.out ≡ length l.literals;
  at : l.variable ≡ l.first + l.i;
}
