use Rattle.std.proofs.Common.{◌≢◌, ◌<◌, ◌≤◌, ◌-◌, ℕ}
use Rattle.std.specs.Prelude.{slice_index}
use Rattle.aig_refute.specs.Rearranged.{IsRearranged}
use Rattle.aig_refute.specs.declared.words.TheConstants.{END}
use Rattle.aig_refute.proofs.moving.put_behind.Given as goal

-- no clause ends before the second place
abbrev pub invariant-loop-i : goal.invariant-loop-i
invariant-loop-i l = (l.from ≤ l.i) × (l.i < l.j)
    × ((m : ℕ) → l.from ≤ m → m < l.j → slice_index l.words m ≢ END) × IsRearranged l.initial.words l.words

abbrev pub decreases-loop-i : goal.decreases-loop-i
decreases-loop-i l = l.next - l.i
