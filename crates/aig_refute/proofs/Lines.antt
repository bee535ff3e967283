-- What is so of each line of a refutation that is read.
use Rattle.std.proofs.Common.{◌≡◌, ◌+◌, ◌<◌, ℕ, List, add-one, drop, drop-cons, fold, get_or, length, sym}
use Rattle.aig_refute.specs.Lines.{Reading, Step, after, plain}

-- one of the bytes that were held, and those behind it
pub held_on : (start now : Reading) (step : Step) (bytes : List ℕ) (k b : ℕ) → k < length bytes → b ≡ get_or bytes k b
    → fold after now (drop k bytes) ≡ fold after start bytes → plain now b ≡ step
    → fold after step.reading (drop (k + 1) bytes) ≡ fold after start bytes
held_on start now step bytes k b inside here so is =
    let there = rw (drop-cons bytes k b, sym here) at so in
    rw (← is, add-one) there
