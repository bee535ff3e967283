-- The text of a circuit's clauses, put part by part.
use Rattle.std.proofs.Common.{◌≤◌, ◌∷◌, ◌++◌, ℕ, List, [], All, arith, map}
use Rattle.std.specs.List.{AllByRecursion}
use Rattle.std.proofs.lemmas.List.Elements.{All-from_recursion}
use Rattle.aig_circuit.specs.declared.circuit.Circuit.{Circuit}
use Rattle.aig_circuit.specs.declared.circuit.Gate.{Gate}
use Rattle.aig_circuit.specs.declared.circuit.TheConstants.{LARGEST}
use Rattle.aig_circuit.specs.Wellformed.{IsVariableUpTo, IsWellFormed, defined_variables}
use Rattle.aig_circuit.proofs.Checking.{all_weaker, back}
use Rattle.aig_meaning.specs.Meaning.{latch_variables}

abbrev Fits : ℕ → Type 0
Fits v = v ≤ LARGEST

each_gate : (gs : List Gate) → AllByRecursion Fits (map (λ (g : Gate). g.var) gs)
    → AllByRecursion (λ (g : Gate). Fits g.var) gs
each_gate [] fit = tt
each_gate (g ∷ gs) fit = (fit.0, each_gate gs fit.1)

-- each gate's variable has a literal
pub gates_fit : (c : Circuit) → IsWellFormed c → All (λ (g : Gate). g.var ≤ LARGEST) c.gates
gates_fit c good =
    let fit : AllByRecursion Fits (defined_variables c) =
    all_weaker (IsVariableUpTo c.max_var) Fits (λ v r. omega (arith, r.1, good.limits.max_var)) (defined_variables c)
    good.in_range in
    All-from_recursion (λ (g : Gate). Fits g.var) c.gates
    (each_gate c.gates (back Fits (c.inputs ++ latch_variables c) (map (λ (g : Gate). g.var) c.gates) fit))
