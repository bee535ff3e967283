-- How what a function of this crate returned is compared with what arrays tell: seen by a view, and unless memory was
-- refused.
use Rattle.std.specs.Prelude.{◌≡◌, ◌++◌, ◌⊎◌, ℕ, List, map, Result, Ok, Err}
use Rattle.aig_fault.specs.declared.stopped.Stopped.{Stopped}
use Rattle.aig_fault.specs.declared.stopped.Stopped.TheVariants.{OutOfMemory}
use Rattle.aig_arrays.specs.Decoded.{Ahead}

-- What a function returned, seen by view, is what arrays tell, unless memory was refused.
abbrev pub GivesOrMemory : {X Y : Type 0} → (X → Y) → Result X Stopped → Result Y Stopped → Type 0
GivesOrMemory view (Ok x) decoded = decoded ≡ Ok (view x)
GivesOrMemory view (Err e) decoded = (e ≡ OutOfMemory) ⊎ (decoded ≡ Err e)

-- what the next row means, and what is ahead after it
abbrev pub entry_meant : {A : Type 0} → (List ℕ → A) → Result (List ℕ × Ahead) Stopped
    → Result (A × Ahead) Stopped
entry_meant tell (Ok x) = Ok (tell x.0, x.1)
entry_meant tell (Err e) = Err e

-- what rows mean after what was found before, and what is ahead after them
abbrev pub entries_meant : {A : Type 0} → (List ℕ → A) → List A → Result (List (List ℕ) × Ahead) Stopped
    → Result (List A × Ahead) Stopped
entries_meant tell found (Ok x) = Ok (found ++ map tell x.0, x.1)
entries_meant tell found (Err e) = Err e
