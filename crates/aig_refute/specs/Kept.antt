-- Which clauses a refutation keeps, and which do not follow from them (DRAT: reverse unit propagation, deletion).
use Rattle.std.specs.Prelude.{◌≡◌, ◌≢◌, ◌<◌, ◌≤◌, ◌⊎◌, ℕ, List, [], ◌∷◌, Bool, true, false, length, slice_index}
use Rattle.aig_circuit.specs.Literal.{negation_of}
use Rattle.aig_refute.specs.declared.words.TheConstants.{END}

-- what a line changes: it adds a clause, or deletes it
pub data Change : Type 0 where
  Adds : List ℕ → Change
  Deletes : List ℕ → Change

abbrev pub HasLiteral : List ℕ → ℕ → Type 0
HasLiteral clause literal = (i : ℕ) × (i < length clause) × (slice_index clause i ≡ literal)

abbrev pub HaveSameLiterals : List ℕ → List ℕ → Type 0
HaveSameLiterals one other = ((literal : ℕ) → HasLiteral one literal → HasLiteral other literal)
    × ((literal : ℕ) → HasLiteral other literal → HasLiteral one literal)

-- it is one of these
abbrev pub IsAmong : List (List ℕ) → List ℕ → Type 0
IsAmong [] clause = ⊥
IsAmong (first ∷ others) clause = (clause ≡ first) ⊎ IsAmong others clause

-- A clause is kept after these changes, the last one first: it was given, or added, and no clause of its literals has
-- been deleted since.
abbrev pub IsKept : List (List ℕ) → List Change → List ℕ → Type 0
IsKept given [] clause = IsAmong given clause
IsKept given (Adds added ∷ before) clause = (clause ≡ added) ⊎ IsKept given before clause
IsKept given (Deletes gone ∷ before) clause = IsKept given before clause × ¬ HaveSameLiterals gone clause

-- the negations of all literals of a clause but this one are known
abbrev pub IsLeft : (ℕ → Bool) → List ℕ → ℕ → Type 0
IsLeft known clause literal = (other : ℕ) → HasLiteral clause other
    → (other ≡ literal) ⊎ (known (negation_of other) ≡ true)

-- the unit rule finds nothing: a literal that is left of a clause is known
abbrev pub IsAtRest : (ℕ → Bool) → List ℕ → Type 0
IsAtRest known clause = (literal : ℕ) → IsLeft known clause literal → known literal ≡ true

abbrev pub IsConsistent : (ℕ → Bool) → Type 0
IsConsistent known = (literal : ℕ) → known literal ≡ true → known (negation_of literal) ≡ false

abbrev pub AreRefuted : (ℕ → Bool) → List ℕ → Type 0
AreRefuted known clause = (literal : ℕ) → HasLiteral clause literal → known (negation_of literal) ≡ true

-- A clause does not follow from others by unit propagation: from the negations of its literals that comes to its end,
-- and to no contradiction.
pub record DoesNotFollow (kept : List ℕ → Type 0) (clause : List ℕ) : Type 0 where
  pub known : ℕ → Bool
  pub refuted : AreRefuted known clause
  pub consistent : IsConsistent known
  pub at_rest : (other : List ℕ) → kept other → IsAtRest known other

-- Where clauses are in a store.

-- the word there is a literal of the clause that ends at the place before it
abbrev pub IsIn : List ℕ → ℕ → ℕ → Type 0
IsIn words e k = (k < e) × ((m : ℕ) → k ≤ m → m < e → slice_index words m ≢ END)

-- the clause that ends there has the literals of this one
pub record Stands (words clause : List ℕ) (e : ℕ) : Type 0 where
  pub inside : e < length words
  pub ends : slice_index words e ≡ END
  pub only : (k : ℕ) → IsIn words e k → HasLiteral clause (slice_index words k)
  pub each : (literal : ℕ) → HasLiteral clause literal → (k : ℕ) × IsIn words e k × (slice_index words k ≡ literal)

-- it has a literal and its negation, and is always true
abbrev pub IsTautology : List ℕ → Type 0
IsTautology clause = (literal : ℕ) × HasLiteral clause literal × HasLiteral clause (negation_of literal)

-- a clause is in the store, unless it is always true
abbrev pub IsStored : List ℕ → List ℕ → Type 0
IsStored words clause = ((e : ℕ) × Stands words clause e) ⊎ IsTautology clause

-- the same of a clause of the store as `IsAtRest`
abbrev pub RestsAt : (ℕ → Bool) → List ℕ → ℕ → Type 0
RestsAt known words e = (literal : ℕ)
    → ((k : ℕ) → IsIn words e k → (slice_index words k ≡ literal) ⊎ (known (negation_of (slice_index words k)) ≡ true))
    → known literal ≡ true

-- unit propagation over the clauses of the store, from the negations of a clause's literals, found no contradiction
pub record ComesToRest (words clause : List ℕ) : Type 0 where
  pub known : ℕ → Bool
  pub refuted : AreRefuted known clause
  pub consistent : IsConsistent known
  pub at_rest : (e : ℕ) → e < length words → slice_index words e ≡ END → RestsAt known words e
