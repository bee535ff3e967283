use Rattle.std.specs.Prelude.{◌≡◌, length, map, take}
use Rattle.aig_unroll.specs.Parts.Substitution.{substituted}
use Rattle.aig_unroll.proofs.substitution.put_literals.Given as goal

abbrev pub invariant-loop-i : goal.invariant-loop-i
invariant-loop-i l =
    (take l.i l.out ≡ map (substituted l.substitution l.first_gate) (take l.i l.literals))
    × (length l.out ≡ length l.literals)
