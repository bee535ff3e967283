-- Invariants of a circuit as lists of cubes (the usual form; PDR finds them so): a cube asks some latches to be 0 or 1,
-- and the invariant says that the state never meets one. What is to be shown of an invariant is the bad states of one
-- circuit in one frame (this project's profile): from any state that meets no cube, while the constraints hold, no bad
-- state is reached, and no cube is met next.
use Rattle.std.specs.Prelude.{◌+◌, ◌||◌, ℕ, List, [], ◌∷◌, ◌++◌, Bool, false, true, length, map}
use Rattle.aig_circuit.specs.declared.circuit.Circuit.{Circuit}
use Rattle.aig_circuit.specs.declared.circuit.Latch.{Latch}
use Rattle.aig_circuit.specs.declared.circuit.Reset.{Reset}
use Rattle.aig_circuit.specs.declared.circuit.Reset.TheVariants as resets
use Rattle.aig_circuit.specs.declared.value.Val.{Val}
use Rattle.aig_circuit.specs.declared.value.Val.TheVariants.{Zero, One, X}
use Rattle.aig_circuit.specs.Literal.{literal_of, negation_of}
use Rattle.aig_circuit.specs.Values.{value_not}
use Rattle.aig_meaning.specs.Meaning.{latch_variables, next_literals}
use Rattle.aig_unroll.specs.SideBySide.{and_all}
use Rattle.aig_unroll.specs.Unrolled.{chain_behind, chained}

-- a cube: for each latch the value that it asks for, or x where it asks for none
abbrev pub Cube : Type 0
Cube = List Val

-- values that are 1 where these are what a cube asks for
abbrev pub asked_values : Cube → List Val → List Val
asked_values [] xs = []
asked_values (v ∷ vs) [] = []
asked_values (Zero ∷ vs) (x ∷ xs) = value_not x ∷ asked_values vs xs
asked_values (One ∷ vs) (x ∷ xs) = x ∷ asked_values vs xs
asked_values (X ∷ vs) (x ∷ xs) = asked_values vs xs

-- whether a state meets a cube: 1 where it does, 0 where it does not, x where that is not known
abbrev pub meets : List Val → Cube → Val
meets state cube = and_all One (asked_values cube state)

-- the literals that are 1 where what stands for the latches has the values that a cube asks for
abbrev pub asked_literals : Cube → List ℕ → List ℕ
asked_literals [] literals = []
asked_literals (v ∷ vs) [] = []
asked_literals (Zero ∷ vs) (l ∷ ls) = negation_of l ∷ asked_literals vs ls
asked_literals (One ∷ vs) (l ∷ ls) = l ∷ asked_literals vs ls
asked_literals (X ∷ vs) (l ∷ ls) = asked_literals vs ls

-- a latch that starts so is not at the value that is asked for
abbrev pub starts_apart : Reset → Val → Bool
starts_apart resets.Zero One = true
starts_apart resets.One Zero = true
starts_apart reset v = false

-- no first state meets the cube, since it asks a latch for another value than it starts at
abbrev pub is_off_start : List Reset → Cube → Bool
is_off_start [] cube = false
is_off_start (r ∷ rs) [] = false
is_off_start (r ∷ rs) (v ∷ vs) = starts_apart r v || is_off_start rs vs

-- the circuit with gates after its own that chain these literals, and the literal that is 1 where all of them are
abbrev pub with_conjunction : List ℕ → Circuit → Circuit
with_conjunction literals c = record c {
  max_var = c.max_var + length literals;
  gates = c.gates ++ chained (c.max_var + 1) 1 literals;
}

abbrev pub conjunction : List ℕ → Circuit → ℕ
conjunction literals c = chain_behind (c.max_var + 1) 1 literals

abbrev pub state_literals : Circuit → List ℕ
state_literals c = map literal_of (latch_variables c)

-- the circuit with gates for what a cube asks of the state and of the next one
abbrev pub with_now : Cube → Circuit → Circuit
with_now cube c = with_conjunction (asked_literals cube (state_literals c)) c

-- The circuit with one constraint more, that the state does not meet the cube, and one bad state more, that the next
-- one does.
abbrev pub with_cube : Cube → Circuit → Circuit
with_cube cube c = record (with_conjunction (asked_literals cube (next_literals c)) (with_now cube c)) {
  constraints = c.constraints ++ negation_of (conjunction (asked_literals cube (state_literals c)) c) ∷ [];
  bad = c.bad ++ conjunction (asked_literals cube (next_literals c)) (with_now cube c) ∷ [];
}

abbrev pub with_cubes : List Cube → Circuit → Circuit
with_cubes [] c = c
with_cubes (q ∷ qs) c = with_cubes qs (with_cube q c)

-- the latch, which may start at 0 or at 1
abbrev pub freed : Latch → Latch
freed l = record l { reset = resets.Uninit }

-- the same from any state that meets no cube
abbrev pub with_invariant : List Cube → Circuit → Circuit
with_invariant cubes c = record (with_cubes cubes c) { latches = map freed c.latches }
