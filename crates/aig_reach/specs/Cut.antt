-- An assignment of the unrolled circuit's variables, cut into a run of the circuit.
use Rattle.std.specs.Prelude.{◌+◌, ℕ, zero, suc, List, [], ◌∷◌, Bool, length, map}
use Rattle.std.specs.List.{range_with_len}
use Rattle.aig_circuit.specs.declared.circuit.Circuit.{Circuit}
use Rattle.aig_circuit.specs.declared.circuit.Reset.{Reset}
use Rattle.aig_circuit.specs.declared.circuit.Reset.TheVariants as resets
use Rattle.aig_circuit.specs.declared.value.Val.{Val}
use Rattle.aig_circuit.specs.declared.value.Val.TheVariants.{Zero, One}
use Rattle.aig_cnf.specs.Clauses.{truth, truths}
use Rattle.aig_unroll.specs.Unrolled.{resets_of, uninitialised}
use Rattle.aig_witness.specs.Witness.{Claim}

-- the first values of latches: each starts at its reset, an uninitialised one at its variable's, from this one on
abbrev pub cut_first : (ℕ → Bool) → ℕ → List Reset → List Val
cut_first a v [] = []
cut_first a v (resets.Zero ∷ rs) = Zero ∷ cut_first a v rs
cut_first a v (resets.One ∷ rs) = One ∷ cut_first a v rs
cut_first a v (resets.Uninit ∷ rs) = truth (a v) ∷ cut_first a (v + 1) rs

-- so many steps of so many inputs, which are the variables from this one on
abbrev pub cut_steps : (ℕ → Bool) → ℕ → ℕ → ℕ → List (List Val)
cut_steps a v inputs zero = []
cut_steps a v inputs (suc n) = map (truths a) (range_with_len v inputs) ∷ cut_steps a (v + inputs) inputs n

-- the claim that a run over so many frames reaches a bad state
abbrev pub cut_claim : Circuit → ℕ → (ℕ → Bool) → ℕ → Claim
cut_claim c frames a property = record {
  property = property;
  first = cut_first a 1 (resets_of c);
  steps = cut_steps a (1 + uninitialised (resets_of c)) (length c.inputs) frames;
}
