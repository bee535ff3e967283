use Rattle.std.proofs.lemmas.Grind.{common_steps}
use Rattle.std.proofs.Common.{◌≡◌, ◌<◌, ◌+◌, ◌&&◌, rules, ℕ, List, Bool, length, map, get_or, drop, refl, add-one}
use Rattle.std.proofs.Common.{arith, drop-cons}
use Rattle.std.proofs.lemmas.List.{drop_all}
use Rattle.aig_circuit.specs.declared.circuit.Latch.{Latch}
use Rattle.aig_circuit.specs.declared.value.Val.{Val}
use Rattle.aig_witness.specs.Witness.{may_start_at, may_start_in}
use Rattle.aig_witness.proofs.witness_line.may_start_in.Goals as goal

abbrev all_start : List Latch → List Val → Bool
all_start latches state = may_start_in (map (λ (k : Latch). k.reset) latches) state

-- all from a place on may start at their values, if the one there may and those after it
from_here : (latches : List Latch) (state : List Val) (i : ℕ) (k : Latch) (v w : Val) (b : Bool) → i < length latches
    → i < length state → v ≡ get_or state i v → w ≡ v → b ≡ may_start_at (get_or latches i k).reset w
    → all_start (drop i latches) (drop i state) ≡ (b && all_start (drop (i + 1) latches) (drop (i + 1) state))
from_here latches state i k v w b low lower value same is =
    rw (add-one, drop-cons latches i k low, drop-cons state i v lower, ← value, is, same) refl

pub loop-i-preserved : goal.loop-i-preserved
loop-i-preserved c = grind (arith, common_steps, from_here)

pub returns-then-not-may_start_at : goal.returns-then-not-may_start_at
returns-then-not-may_start_at c = grind (arith, common_steps, from_here)

pub returns : goal.returns
returns c = search (rules, drop_all)
