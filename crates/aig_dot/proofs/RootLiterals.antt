-- The literals whose cone is shown.
use Rattle.std.proofs.Common.{◌≡◌, ◌≤◌, ◌<◌, ◌∷◌, ◌++◌, ℕ}
use Rattle.std.proofs.Common.{zero, suc, List, [], length, take, map}
use Rattle.std.proofs.Common.{get_or, ap, arith}
use Rattle.std.specs.List.{AllByRecursion, flat_map}
use Rattle.std.proofs.lemmas.Grind.{common_steps}
use Rattle.std.proofs.lemmas.List.{map-append}
use Rattle.aig_circuit.specs.declared.circuit.Circuit.{Circuit}
use Rattle.aig_circuit.specs.declared.circuit.Gate.{Gate}
use Rattle.aig_circuit.specs.declared.circuit.Latch.{Latch}
use Rattle.aig_circuit.specs.declared.circuit.TheConstants.{LARGEST}
use Rattle.aig_circuit.specs.Wellformed.{IsVariableUpTo, IsWellFormed, defined_variables}
use Rattle.aig_circuit.proofs.Checking.{back, defined_gates, defined_inputs, defined_is, defined_latches, front}
use Rattle.aig_circuit.specs.Literal.{literal_of}

-- what holds of all that some define holds of what one of them defines
pub of_one : {X Y : Type 0} (P : Y → Type 0) (f : X → List Y) (xs : List X) (i : ℕ) (d : X) → i < length xs
    → AllByRecursion P (flat_map f xs) → AllByRecursion P (f (get_or xs i d))
of_one P f [] i d below all = absurd (omega arith)
of_one P f (x ∷ xs) zero d below all = front P (f x) (flat_map f xs) all
of_one P f (x ∷ xs) (suc i) d below all = of_one P f xs i d (omega arith) (back P (f x) (flat_map f xs) all)

small_all : (max_var : ℕ) (vs : List ℕ) → max_var ≤ LARGEST → AllByRecursion (IsVariableUpTo max_var) vs
    → AllByRecursion (λ v. v ≤ LARGEST) vs
small_all max_var [] low all = tt
small_all max_var (v ∷ vs) low all = (omega (arith, low, all.0.1), small_all max_var vs low all.1)

-- the variables of a well-formed circuit are small enough to have literals
small : (c : Circuit) → IsWellFormed c → AllByRecursion (λ v. v ≤ LARGEST)
    ((defined_inputs c.inputs ++ defined_latches c.latches) ++ defined_gates c.gates)
small c formed = rw (defined_is c) (small_all c.max_var (defined_variables c) formed.limits.max_var formed.in_range)

module _ (c : Circuit) (formed : IsWellFormed c) where
  pub small_inputs : AllByRecursion (λ v. v ≤ LARGEST) (defined_inputs c.inputs)
  small_inputs = front _ (defined_inputs c.inputs) (defined_latches c.latches) (front _ _ _ (small c formed))

  pub small_latches : AllByRecursion (λ v. v ≤ LARGEST) (defined_latches c.latches)
  small_latches = back _ (defined_inputs c.inputs) (defined_latches c.latches) (front _ _ _ (small c formed))

  pub small_gates : AllByRecursion (λ v. v ≤ LARGEST) (defined_gates c.gates)
  small_gates = back _ (defined_inputs c.inputs ++ defined_latches c.latches) _ (small c formed)

-- the literals of inputs, latches and gates were added
pub all_literals : (c : Circuit) (inputs : List ℕ) (latches : List Latch) (gates : List Gate)
    (none some more all : List ℕ) → none ≡ [] → inputs ≡ c.inputs → latches ≡ c.latches → gates ≡ c.gates
    → some ≡ none ++ map literal_of (defined_inputs inputs)
    → more ≡ some ++ map literal_of (defined_latches latches)
    → all ≡ more ++ map literal_of (defined_gates gates) → all ≡ map literal_of (defined_variables c)
all_literals c inputs latches gates none some more all e i l g p q r =
    let one = map-append literal_of (defined_inputs c.inputs) (defined_latches c.latches) in
    let two = map-append literal_of (defined_inputs c.inputs ++ defined_latches c.latches) (defined_gates c.gates) in
    let is = ap (map literal_of) (defined_is c) in
    grind (arith, common_steps, one, two, is)
