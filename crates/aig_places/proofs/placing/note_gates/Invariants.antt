use Rattle.std.specs.Prelude.{◌≡◌, ◌+◌, length}
use Rattle.aig_places.proofs.placing.note_gates.Given as goal

abbrev pub invariant-loop-pair : goal.invariant-loop-pair
invariant-loop-pair l = record { size : length l.last ≡ length l.fn.last; gate : l.gate ≡ l.first + l.pair-index }
