use Rattle.std.proofs.Common.{◌≡◌, ◌<◌, ℕ, false, true}
use Rattle.std.specs.Prelude.{slice_index, slice_index_or}
use Rattle.aig_refute.proofs.words.unmark.Given as goal

abbrev pub invariant-loop-k : goal.invariant-loop-k
invariant-loop-k l = ((m : ℕ) → m < l.k → slice_index_or l.marks (slice_index l.literals m) false ≡ false)
    × ((literal : ℕ) → slice_index_or l.marks literal false ≡ true
    → slice_index_or l.initial.marks literal false ≡ true)
