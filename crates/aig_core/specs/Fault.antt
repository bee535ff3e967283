-- The first structural fault of a circuit: a redefinition before an undefined literal, and that before a cycle (this
-- project's profile).
use Rattle.std.specs.Prelude.{◌≡◌, ◌==◌, ◌||◌, ◌⊎◌, ℕ, List, [], ◌∷◌, Bool, Option, None, Some, if◌then◌else◌}
use Rattle.std.specs.Option.{option_map, option_or}
use Rattle.std.specs.Ordering.{nat_cmp}
use Rattle.std.specs.FinSet as set
use Rattle.aig_circuit.specs.declared.circuit.Circuit.{Circuit}
use Rattle.aig_fault.specs.Stopping.{refusal}
use Rattle.aig_fault.specs.declared.fault.Place.TheVariants.{Whole}
use Rattle.aig_fault.specs.declared.kind.Kind.TheVariants.{Redefined, Undefined, Cyclic}
use Rattle.aig_fault.specs.declared.stopped.Stopped.{Stopped}
use Rattle.aig_fault.specs.declared.stopped.Stopped.TheVariants.{OutOfMemory}
use Rattle.aig_circuit.specs.Literal.{variable_of}
use Rattle.aig_circuit.specs.Wellformed.{defined_variables, used_literals}
use Rattle.aig_topo.specs.Order.{first_cyclic}

-- the first number that the set has, or that stands before in the list
abbrev pub first_repeat : set.FinSet nat_cmp → List ℕ → Option ℕ
first_repeat seen [] = None
first_repeat seen (x ∷ xs) = if set.contains seen x then Some x else first_repeat (set.insert seen x) xs

-- the set and all of the list
abbrev pub with_all : set.FinSet nat_cmp → List ℕ → set.FinSet nat_cmp
with_all seen [] = seen
with_all seen (x ∷ xs) = with_all (set.insert seen x) xs

-- a constant, or a literal over one of the variables
abbrev pub is_known : set.FinSet nat_cmp → ℕ → Bool
is_known variables literal = (variable_of literal == 0) || set.contains variables (variable_of literal)

-- the first literal that is no constant and over none of the variables
abbrev pub first_unknown : set.FinSet nat_cmp → List ℕ → Option ℕ
first_unknown variables [] = None
first_unknown variables (x ∷ xs) = if is_known variables x then first_unknown variables xs else Some x

-- a variable that is defined twice, a literal that is used and not defined, and a gate that depends on a cycle, by its
-- literal
abbrev pub redefined : ℕ → Stopped
redefined variable = refusal Redefined Whole variable

abbrev pub undefined : ℕ → Stopped
undefined literal = refusal Undefined Whole literal

abbrev pub cyclic : ℕ → Stopped
cyclic literal = refusal Cyclic Whole literal

-- the first redefinition, where these variables were defined before
abbrev pub first_redefinition : set.FinSet nat_cmp → List ℕ → Option Stopped
first_redefinition seen variables = option_map redefined (first_repeat seen variables)

-- the first undefined literal, where these variables are defined
abbrev pub first_undefined : set.FinSet nat_cmp → List ℕ → Option Stopped
first_undefined variables literals = option_map undefined (first_unknown variables literals)

-- the first redefinition, or else the first undefined literal, or else the first gate that depends on a cycle
abbrev pub first_structural_fault : Circuit → Option Stopped
first_structural_fault c =
    option_or (first_redefinition set.empty (defined_variables c))
    (option_or (first_undefined (with_all set.empty (defined_variables c)) (used_literals c))
    (option_map cyclic (first_cyclic c.gates)))

-- a fault that is reported is this one, unless memory was refused
abbrev pub IsFault : Stopped → Option Stopped → Type 0
IsFault reported first = (reported ≡ OutOfMemory) ⊎ (first ≡ Some reported)
