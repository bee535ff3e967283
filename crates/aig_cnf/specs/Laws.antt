-- What the definitions of this crate say of one another.
use Rattle.std.specs.Prelude.{◌≡◌, ◌↔◌, ◌<◌, ◌^◌, ℕ, List, Bool, length, map}
use Rattle.std.specs.List.{AllByRecursion}
use Rattle.aig_circuit.specs.declared.circuit.Circuit.{Circuit}
use Rattle.aig_circuit.specs.Wellformed.{IsWellFormed}
use Rattle.aig_meaning.specs.Meaning.{IsStepAssignment, latch_variables}
use Rattle.aig_cnf.specs.Clauses.{Satisfies, step_clauses, truths}
use Rattle.aig_cnf.specs.ClauseText.{clauses_text}

-- The assignments that satisfy the clauses of a circuit's step are exactly its step assignments, of the state and the
-- inputs that they give.
abbrev pub ClausesAreSteps : Type 0
ClausesAreSteps = (c : Circuit) (a : ℕ → Bool) → Satisfies a (step_clauses c)
    ↔ IsStepAssignment c (map (truths a) (latch_variables c)) (map (truths a) c.inputs) (truths a)

-- each state and each vector of inputs of a well-formed circuit is given by one that satisfies them
abbrev pub StepsAreSatisfied : Type 0
StepsAreSatisfied = (c : Circuit) (state given : List Bool) → IsWellFormed c
    → length state ≡ length c.latches → length given ≡ length c.inputs
    → (a : ℕ → Bool) × (map a (latch_variables c) ≡ state) × (map a c.inputs ≡ given) × Satisfies a (step_clauses c)

-- clauses whose literals have at most 64 bits
abbrev pub AreSmall : List (List ℕ) → Type 0
AreSmall clauses = AllByRecursion (λ (clause : List ℕ). AllByRecursion (λ (l : ℕ). l < 2 ^ 64) clause) clauses

-- texts that are the same are of the same clauses, over as many variables
abbrev pub CnfTextsAreRead : Type 0
CnfTextsAreRead = (variables variables_too : ℕ) (clauses others : List (List ℕ)) → variables < 2 ^ 64
    → variables_too < 2 ^ 64 → length clauses < 2 ^ 64 → length others < 2 ^ 64 → AreSmall clauses → AreSmall others
    → clauses_text variables clauses ≡ clauses_text variables_too others
    → (variables ≡ variables_too) × (clauses ≡ others)
