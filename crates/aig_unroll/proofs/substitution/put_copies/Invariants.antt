use Rattle.std.specs.Prelude.{◌≡◌, ◌+◌, ◌++◌, drop, length, take}
use Rattle.aig_unroll.specs.Unrolled.{copied}
use Rattle.aig_unroll.specs.Parts.Substitution.{substituted}
use Rattle.aig_unroll.proofs.substitution.put_copies.Given as goal

abbrev pub invariant-loop-i : goal.invariant-loop-i
invariant-loop-i l = record {
  written : take l.i l.out ++ copied (substituted l.substitution l.first_gate) l.variable (drop l.i l.gates)
      ≡ copied (substituted l.substitution l.first_gate) l.first l.gates;
  room : length l.out ≡ length l.gates;
  at : l.variable ≡ l.first + l.i;
}
