-- Words in which literals of clauses changed places.
use Rattle.std.specs.Prelude.{◌≡◌, ◌≢◌, ℕ, List, Bool, length, slice_index}
use Rattle.aig_refute.specs.Extended.{AreSpanned}
use Rattle.aig_refute.specs.Kept.{Stands}
use Rattle.aig_refute.specs.Store.{Holds}
use Rattle.aig_refute.specs.declared.words.TheConstants.{END}

-- each clause has the literals that it had, and ends where it did
pub record IsRearranged (old new : List ℕ) : Type 0 where
  pub len : length new ≡ length old
  pub live : (m : ℕ) → slice_index old m ≢ END → slice_index new m ≢ END
  pub holds : (a : ℕ → Bool) → Holds a old → Holds a new
  pub spanned : (base : ℕ) → (firsts lasts : List ℕ) → AreSpanned base old firsts lasts
      → AreSpanned base new firsts lasts
  pub stands : (clause : List ℕ) → (e : ℕ) → Stands old clause e → Stands new clause e
