-- How many literals there are of each kind.
use Rattle.std.proofs.Common.{◌≡◌, ◌+◌, ℕ, suc, List, [], ◌∷◌, ap, length, map, refl}
use Rattle.aig_circuit.specs.declared.circuit.Latch.{Latch}
use Rattle.aig_circuit.specs.Literal.{literal_of}
use Rattle.aig_live.specs.WithLoop.{alike, one_for_each}

-- a literal for each latch
pub alike_many : (v : ℕ) (latches : List Latch) → length (alike v (map (λ (l : Latch). l.var) latches)) ≡ length latches
alike_many v [] = refl
alike_many v (l ∷ ls) = ap suc (alike_many (v + 3) ls)

-- and one for each goal
pub mets_many : (m : ℕ) (goals : List ℕ) → length (map literal_of (one_for_each m goals)) ≡ length goals
mets_many m [] = refl
mets_many m (g ∷ gs) = ap suc (mets_many (m + 1) gs)
