-- Which variables the literals of a frame are over: none above what stands before the frame's gates, or above the copy
-- of the gate that a literal is over.
use Rattle.std.proofs.Common.{◌≡◌, ◌+◌, ◌-◌, ◌*◌, ◌%◌, ◌<◌, ◌≤◌, ◌∷◌, ℕ, zero, suc, List, [], length, map, subst, arith}
use Rattle.std.proofs.Common.{eqb}
use Rattle.std.specs.List.{AllByRecursion}
use Rattle.std.proofs.lemmas.Bool.{cond_both}
use Rattle.std.proofs.lemmas.Bool.Decides.{Decides-eqb, not_from_Decides}
use Rattle.aig_circuit.specs.declared.circuit.Circuit.{Circuit}
use Rattle.aig_circuit.specs.declared.circuit.Reset.{Reset}
use Rattle.aig_circuit.specs.declared.circuit.Reset.TheVariants as resets
use Rattle.aig_circuit.specs.Literal.{literal_of, negation_of, variable_of}
use Rattle.aig_circuit.proofs.Checking.{all_weaker}
use Rattle.aig_unroll.specs.Unrolled.{at, chain_at, chain_behind, first_constraint, first_gate, first_latches}
use Rattle.aig_unroll.specs.Unrolled.{latches_at, literal_in, next_of, resets_of, substitute_for, uninitialised}
use Rattle.aig_unroll.proofs.Ordering.Frames.{next_gate, by_order, in_row, read_anywhere}
use Rattle.aig_rows.proofs.Grammar.Entries.{all_mapped}

-- a literal is over a variable below n
abbrev pub IsBelow : ℕ → ℕ → Type 0
IsBelow n literal = literal < 2 * n

pub negation_below : (n literal : ℕ) → IsBelow n literal → IsBelow n (negation_of literal)
negation_below n literal below =
    cond_both (eqb (literal % 2) 0) (literal + 1) (literal - 1) (IsBelow n)
    (λ e. let even : literal % 2 ≡ 0 = (Decides-eqb (literal % 2) 0).0 e in omega arith) (λ _. omega arith)

pub all_below_more : (m n : ℕ) → m ≤ n → (xs : List ℕ) → AllByRecursion (IsBelow m) xs → AllByRecursion (IsBelow n) xs
all_below_more m n more = all_weaker (IsBelow m) (IsBelow n) (λ x below. omega arith)

-- latches that start at an input of their own
pub first_below : (n v : ℕ) (rs : List Reset) → 0 < n → v + uninitialised rs ≤ n
    → AllByRecursion (IsBelow n) (first_latches v rs)
first_below n v [] some fits = tt
first_below n v (resets.Zero ∷ rs) some fits = (omega arith, first_below n v rs some fits)
first_below n v (resets.One ∷ rs) some fits = (omega arith, first_below n v rs some fits)
first_below n v (resets.Uninit ∷ rs) some fits =
    let next : v + (1 + uninitialised rs) ≤ n = fits in
    (omega arith, first_below n (v + 1) rs some (omega arith))

-- the chain after constraints
pub chain_below : (v chain : ℕ) (xs : List ℕ) → IsBelow v chain → IsBelow (v + length xs) (chain_behind v chain xs)
chain_below v chain [] below = omega arith
chain_below v chain (x ∷ xs) below =
    let later = chain_below (v + 1) (literal_of v) xs (omega arith) in
    subst (λ n. IsBelow n (chain_behind (v + 1) (literal_of v) xs)) (omega arith) later

-- where the circuit's gates begin
abbrev pub own_gates : Circuit → ℕ
own_gates c = 1 + length c.inputs + length c.latches

module _ (c : Circuit) (frames : ℕ) where
  abbrev pub start : ℕ → ℕ
  start t = first_gate c frames t

  -- what stands for a variable
  pub substitution_below : (t k v : ℕ) (latches : List ℕ) → t < frames → AllByRecursion (IsBelow (start t)) latches
      → v < own_gates c + k → IsBelow (start t + k) (substitute_for c frames t latches v)
  substitution_below t k v latches there all fits =
      let Fits : ℕ → Type 0 = IsBelow (start t + k) in
      let i : ℕ = length c.inputs in
      let l : ℕ = length c.latches in
      cond_both (eqb v 0) 0 _ Fits (λ _. omega arith)
      (λ e.
      let some : ¬ (v ≡ 0) = not_from_Decides (eqb v 0) (Decides-eqb v 0) e in
      by_order Fits v i _ _
      (λ input. let place : t * i + (v - 1) < frames * i = in_row i (v - 1) t frames (omega arith) there in omega arith)
      (λ above.
      by_order Fits v (i + l) _ _
      (λ latch.
      let below = read_anywhere (IsBelow (start t)) 0 (omega arith) latches all (v - 1 - i) in omega arith)
      (λ gate. omega arith)))

  pub literal_below : (t k literal : ℕ) (latches : List ℕ) → t < frames → AllByRecursion (IsBelow (start t)) latches
      → IsBelow (own_gates c + k) literal → IsBelow (start t + k) (literal_in c frames t latches literal)
  literal_below t k literal latches there all fits =
      let below = substitution_below t k (variable_of literal) latches there all (omega arith) in
      cond_both (eqb (literal % 2) 0) (substitute_for c frames t latches (variable_of literal))
      (negation_of (substitute_for c frames t latches (variable_of literal))) (IsBelow (start t + k))
      (λ _. below) (λ _. negation_below (start t + k) (substitute_for c frames t latches (variable_of literal)) below)

  -- all literals of the circuit are over its variables
  abbrev pub own_end : ℕ
  own_end = own_gates c + length c.gates

  module _ (next_below : AllByRecursion (IsBelow own_end) (next_of c)) where
    pub latches_below : (t : ℕ) → t ≤ frames → AllByRecursion (IsBelow (start t)) (latches_at c frames t)
    latches_below zero fits =
        first_below (start 0) 1 (resets_of c) (omega arith) (omega arith)
    latches_below (suc t) fits =
        let before = latches_below t (omega arith) in
        let more : start t + length c.gates ≤ start (suc t) = omega (arith, next_gate c frames t) in
        all_below_more (start t + length c.gates) (start (suc t)) more (latches_at c frames (suc t))
        (all_mapped (IsBelow own_end) (IsBelow (start t + length c.gates))
        (literal_in c frames t (latches_at c frames t))
        (λ literal below. literal_below t (length c.gates) literal (latches_at c frames t) (omega arith) before below)
        (next_of c) next_below)

    -- a literal over what stands before the circuit's gate at a place is over what stands before its copy
    pub at_below : (t k literal : ℕ) → t < frames → IsBelow (own_gates c + k) literal
        → IsBelow (start t + k) (at c frames t literal)
    at_below t k literal there below =
        literal_below t k literal (latches_at c frames t) there (latches_below t (omega arith)) below

    pub all_at_below : (t : ℕ) → t < frames → (xs : List ℕ) → AllByRecursion (IsBelow own_end) xs
        → AllByRecursion (IsBelow (start t + length c.gates)) (map (at c frames t) xs)
    all_at_below t there =
        all_mapped (IsBelow own_end) (IsBelow (start t + length c.gates)) (at c frames t)
        (λ literal below. at_below t (length c.gates) literal there below)

  -- the chain before a frame
  pub chain_at_below : (t : ℕ) → IsBelow (start t) (chain_at c frames t)
  chain_at_below zero = omega arith
  chain_at_below (suc t) =
      let before : IsBelow (start t) (chain_at c frames t) = chain_at_below t in
      let behind = chain_below (first_constraint c frames t) (chain_at c frames t) c.constraints (omega arith) in
      omega (arith, next_gate c frames t)

  -- and after its constraints, before the gates of bad states
  pub chain_behind_below : (t : ℕ)
      → IsBelow (first_constraint c frames t + length c.constraints) (chain_at c frames (suc t))
  chain_behind_below t =
      let before : IsBelow (start t) (chain_at c frames t) = chain_at_below t in
      chain_below (first_constraint c frames t) (chain_at c frames t) c.constraints (omega arith)
