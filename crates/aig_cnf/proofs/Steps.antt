-- The clauses of a step say that an assignment is one of the step.
use Rattle.std.proofs.Common.{◌≡◌, ◌||◌, ℕ, List, [], ◌∷◌, Bool, true, false, not, refl}
use Rattle.std.specs.List.{AllByRecursion, Contains, flat_map}
use Rattle.std.proofs.lemmas.List.Elements.{All-contains, All-contains_itself, All-from_recursion, All-weaker}
use Rattle.std.proofs.lemmas.List.Elements.{recursion_from_All}
use Rattle.aig_circuit.specs.declared.circuit.Gate.{Gate}
use Rattle.aig_circuit.specs.declared.value.Val.TheVariants.{Zero}
use Rattle.aig_meaning.specs.Meaning.{Holds}
use Rattle.aig_cnf.specs.Clauses.{Satisfies, gate_clauses, truth, truths}
use Rattle.aig_cnf.specs.Laws.{ClausesAreSteps}
use Rattle.aig_cnf.proofs.Truths.{gate_holds, gate_satisfied}

constant_from : (b : Bool) → (not b || false) ≡ true → truth b ≡ Zero
constant_from false e = refl
constant_from true e = cc

constant_into : (b : Bool) → truth b ≡ Zero → (not b || false) ≡ true
constant_into false e = refl
constant_into true e = cc

module _ (a : ℕ → Bool) where
  gates_hold : (gs : List Gate) → Satisfies a (flat_map gate_clauses gs) → AllByRecursion (Holds (truths a)) gs
  gates_hold [] s = tt
  gates_hold (g ∷ gs) s = (gate_holds a g (s.0, (s.1.0, (s.1.1.0, tt))), gates_hold gs s.1.1.1)

  pub gates_satisfied : (gs : List Gate) → AllByRecursion (Holds (truths a)) gs → Satisfies a (flat_map gate_clauses gs)
  gates_satisfied [] h = tt
  gates_satisfied (g ∷ gs) h =
      let s = gate_satisfied a g h.0 in (s.0, (s.1.0, (s.1.1.0, gates_satisfied gs h.1)))

pub clauses_are_steps : ClausesAreSteps
clauses_are_steps c a = (
  λ s. record {
    constant = constant_from (a 0) s.0;
    inputs = refl;
    latches = refl;
    gates = λ g g_in.
        All-contains (Holds (truths a)) c.gates g
        (All-from_recursion (Holds (truths a)) c.gates (gates_hold a c.gates s.1)) g_in;
  },
  λ is. (
    constant_into (a 0) is.constant,
    gates_satisfied a c.gates
        (recursion_from_All (Holds (truths a)) c.gates
        (All-weaker (Contains c.gates) (Holds (truths a)) is.gates c.gates (All-contains_itself c.gates))),
  ),
)
