use Rattle.std.specs.Prelude.{◌≡◌, ◌+◌, ◌++◌, drop, length, map, take}
use Rattle.aig_unroll.specs.Unrolled.{guarded}
use Rattle.aig_unroll.specs.Parts.Substitution.{substituted}
use Rattle.aig_unroll.proofs.substitution.put_guards.Given as goal

abbrev pub invariant-loop-i : goal.invariant-loop-i
invariant-loop-i l = record {
  written : take l.i l.out ++ guarded l.variable l.chain (map (substituted l.substitution l.first_gate)
      (drop l.i l.literals))
      ≡ guarded l.first l.chain (map (substituted l.substitution l.first_gate) l.literals);
  room : length l.out ≡ length l.literals;
  at : l.variable ≡ l.first + l.i;
}
