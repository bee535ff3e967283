use Rattle.std.proofs.Common.{◌≡◌, ◌<◌, ◌≤◌, ◌+◌, ◌-◌, ℕ, length}
use Rattle.std.specs.Prelude.{slice_index}
use Rattle.aig_refute.specs.Agree.{known_by}
use Rattle.aig_refute.specs.Kept.{RestsAt}
use Rattle.aig_refute.specs.declared.words.TheConstants.{END}
use Rattle.aig_refute.proofs.kernel.Kernel.find_saying.Given as goal

-- each clause that was passed is at rest
abbrev pub invariant-loop-end : goal.invariant-loop-end
invariant-loop-end l = (l.at ≤ length l.self.store.words.items)
    × ((m : ℕ) → m + 1 ≡ l.at → slice_index l.self.store.words.items m ≡ END)
    × ((e : ℕ) → e < l.at → slice_index l.self.store.words.items e ≡ END
    → RestsAt (known_by l.self) l.self.store.words.items e)

abbrev pub decreases-loop-end : goal.decreases-loop-end
decreases-loop-end l = length l.self.store.words.items - l.at
