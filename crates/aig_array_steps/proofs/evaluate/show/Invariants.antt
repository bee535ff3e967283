use Rattle.std.proofs.Common.{◌≡◌, length, map, take}
use Rattle.aig_array_steps.specs.Parts.Values.{literal_byte}
use Rattle.aig_array_steps.proofs.evaluate.show.Given as goal

abbrev pub invariant-loop-i : goal.invariant-loop-i
invariant-loop-i l = record {
  done : take l.i l.shown ≡ map (literal_byte l.table) (take l.i l.literals);
  long : length l.shown ≡ length l.literals;
}
