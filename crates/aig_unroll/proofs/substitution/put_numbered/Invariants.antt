use Rattle.std.specs.Prelude.{◌≡◌, ◌+◌, length, map, take}
use Rattle.std.specs.List.{range_with_len}
use Rattle.aig_circuit.specs.Literal.{literal_of}
use Rattle.aig_unroll.proofs.substitution.put_numbered.Given as goal

abbrev pub invariant-loop-i : goal.invariant-loop-i
invariant-loop-i l =
    (take l.i l.out ≡ map literal_of (range_with_len l.first l.i))
    × (length l.out ≡ length l.fn.out) × (l.variable ≡ l.first + l.i)
