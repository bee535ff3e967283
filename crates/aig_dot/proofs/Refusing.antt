-- Why there is no picture.
use Rattle.std.proofs.Common.{◌≡◌, ℕ, Result, Ok, Err}
use Rattle.std.specs.Result.{IfErr, IsErrAnd}
use Rattle.aig_dot.specs.declared.picture.NotDrawn.{NotDrawn}
use Rattle.aig_dot.specs.declared.picture.NotDrawn.TheVariants.{OutOfMemory, TooLarge}

-- out of memory, nothing is known of the size
pub not_large : {T : Type 0} (r : Result T NotDrawn) (P : ℕ → Type 0) → IsErrAnd r (λ reason. reason ≡ OutOfMemory)
    → IfErr r (λ reason. (gates : ℕ) → reason ≡ TooLarge gates → P gates)
not_large (Ok value) P h = tt
not_large (Err reason) P h = λ gates is. cc
