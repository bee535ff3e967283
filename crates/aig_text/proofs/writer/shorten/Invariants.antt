use Rattle.std.proofs.Common.{◌≡◌, ◌≤◌, length, take}
use Rattle.aig_text.specs.AsciiText.{shortened}
use Rattle.aig_text.proofs.writer.shorten.Given as goal

-- the numbers up to the end tell what is written of all
abbrev pub invariant-loop-end : goal.invariant-loop-end
invariant-loop-end l =
    (l.end ≤ length l.numbers) × (shortened l.least (take l.end l.numbers) ≡ shortened l.least l.numbers)

abbrev pub decreases-loop-end : goal.decreases-loop-end
decreases-loop-end l = l.end
