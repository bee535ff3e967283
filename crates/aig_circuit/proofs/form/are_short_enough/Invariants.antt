use Rattle.std.proofs.Common.{◌↔◌, ◌≤◌, List, ℕ, drop, length, map}
use Rattle.std.specs.List.{AllByRecursion}
use Rattle.aig_circuit.specs.declared.circuit.TheConstants.{LARGEST}
use Rattle.aig_circuit.proofs.form.are_short_enough.Given as goal

abbrev pub invariant-loop-list : goal.invariant-loop-list
invariant-loop-list l =
    AllByRecursion (λ (ls : List ℕ). length ls ≤ LARGEST) (map (λ ls. ls.now) (drop l.list-index l.lists))
    ↔ AllByRecursion (λ (ls : List ℕ). length ls ≤ LARGEST) (map (λ ls. ls.now) l.lists)
