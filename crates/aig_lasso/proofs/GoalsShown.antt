-- The goals of a justice property stand among the literals of all of them, and a circuit that shows them as its bad
-- states is well formed.
use Rattle.std.proofs.Common.{◌≡◌, ◌<◌, ◌≤◌, ◌++◌, ◌∙◌, ◌∷◌, ℕ, zero, suc, List, [], ap, arith, drop, get_or, length}
use Rattle.std.proofs.Common.{refl, subst, sym, take}
use Rattle.std.specs.List.{AllByRecursion, concat, flat_map, sum}
use Rattle.std.proofs.lemmas.List.{drop-drop, take-append-drop}
use Rattle.std.proofs.lemmas.List.Sums.{sum_by-cons}
use Rattle.aig_circuit.specs.declared.circuit.Circuit.{Circuit}
use Rattle.aig_circuit.specs.Justice.{literals_of_each}
use Rattle.aig_circuit.specs.Wellformed.{IsKnown, IsWellFormed, defined_variables, largest_index, literal_lists}
use Rattle.aig_circuit.specs.Wellformed.{operands}
use Rattle.aig_circuit.proofs.Checking.{back, front, joined}
use Rattle.aig_meaning.specs.Meaning.{next_literals}
use Rattle.aig_lasso.specs.Goals.{goals_of, own_goals, with_goals}

-- where the literals of one property stand
pub own_at : (sizes literals : List ℕ) (n : ℕ) → n < length sizes
    → get_or (literals_of_each sizes literals) n [] ≡ take (get_or sizes n 0) (drop (sum (take n sizes)) literals)
own_at [] literals n low = absurd (omega (arith, low))
own_at (s ∷ ss) literals zero low = refl
own_at (s ∷ ss) literals (suc n) low =
    own_at ss (drop s literals) n (omega (arith, low))
    ∙ ap (take (get_or ss n 0))
    (drop-drop (sum (take n ss)) s literals
    ∙ ap (λ (k : ℕ). drop k literals) (sym (sum_by-cons (λ (x : ℕ). x) s (take n ss))))

-- what holds of the literals of all properties holds of those of each
own_hold : (P : ℕ → Type 0) (sizes literals : List ℕ) (n : ℕ) → AllByRecursion P literals
    → AllByRecursion P (get_or (literals_of_each sizes literals) n [])
own_hold P [] literals n hold = tt
own_hold P (s ∷ ss) literals zero hold =
    front P (take s literals) (drop s literals) (subst (AllByRecursion P) (sym (take-append-drop s literals)) hold)
own_hold P (s ∷ ss) literals (suc n) hold =
    own_hold P ss (drop s literals) n
    (back P (take s literals) (drop s literals) (subst (AllByRecursion P) (sym (take-append-drop s literals)) hold))

pub goals_are_well_formed : (c : Circuit) (property : ℕ) → length (goals_of property c) ≤ largest_index → IsWellFormed c
    → IsWellFormed (with_goals property c)
goals_are_well_formed c property few good =
    let P = IsKnown (defined_variables c) in
    let own = own_goals property c in
    let from_literals = concat (c.justice.literals ∷ c.fairness ∷ []) in
    let from_bad = concat (c.bad ∷ c.constraints ∷ c.justice.literals ∷ c.fairness ∷ []) in
    let gates = flat_map operands c.gates in
    let lists = concat (literal_lists c) in
    let nexts = next_literals c in
    let used = front P (nexts ++ lists) gates good.known in
    let in_lists = back P nexts lists used in
    let behind_outputs = back P c.outputs from_bad in_lists in
    let behind_bad = back P c.bad (c.constraints ++ from_literals) behind_outputs in
    let constraints = front P c.constraints from_literals behind_bad in
    let behind_constraints = back P c.constraints from_literals behind_bad in
    let literals = front P c.justice.literals (c.fairness ++ []) behind_constraints in
    let fairness = front P c.fairness [] (back P c.justice.literals (c.fairness ++ []) behind_constraints) in
    let goals = joined P own c.fairness (own_hold P c.justice.sizes c.justice.literals property literals) fairness in
    record {
      limits = record {
        max_var = good.limits.max_var;
        inputs = good.limits.inputs;
        latches = good.limits.latches;
        literals = (good.limits.literals.0, (few, (good.limits.literals.1.1.0, (omega arith, (omega arith, tt)))));
        justice = omega arith;
        sizes = refl;
        gates = good.limits.gates;
      };
      in_range = good.in_range;
      once = good.once;
      known = joined P (nexts ++ (c.outputs ++ (goals_of property c ++ (c.constraints ++ [])))) gates
          (joined P nexts (c.outputs ++ (goals_of property c ++ (c.constraints ++ []))) (front P nexts lists used)
          (joined P c.outputs (goals_of property c ++ (c.constraints ++ [])) (front P c.outputs from_bad in_lists)
          (joined P (goals_of property c) (c.constraints ++ []) goals
          (joined P c.constraints [] constraints tt))))
          (back P (nexts ++ lists) gates good.known);
      symbols = record { positions = tt; apart = tt; lines = tt };
      ranked = good.ranked;
    }
