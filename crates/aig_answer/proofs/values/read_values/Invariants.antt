use Rattle.std.proofs.Common.{◌≡◌, fold, length}
use Rattle.aig_answer.specs.Answer.{after, so_far}
use Rattle.aig_answer.proofs.values.read_values.Given as goal

-- what is left to be read leads where all that was given does
abbrev pub invariant-loop-byte : goal.invariant-loop-byte
invariant-loop-byte l =
    fold after (so_far l.reader l.bits) l.rest ≡ fold after (so_far l.fn.reader l.fn.bits) l.bytes

abbrev pub decreases-loop-byte : goal.decreases-loop-byte
decreases-loop-byte l = length l.rest
