-- The miter of two circuits (this project's profile): the plain one, where uninitialised latches of both start alike:
-- the first of one circuit as the first of the other, and so on, as far as both have some. For that it has one latch
-- more, which is 0 in the first step and 1 in each later one, and a constraint for each pair, which asks that the two
-- are equal in the first step. Where there is no pair it has none of these, so that circuits without latches have a
-- miter without.
use Rattle.std.specs.Prelude.{◌+◌, ◌*◌, ◌==◌, ℕ, List, [], ◌∷◌, ◌++◌, length, map, min, if◌then◌else◌}
use Rattle.aig_circuit.specs.declared.circuit.Circuit.{Circuit}
use Rattle.aig_circuit.specs.declared.circuit.Gate.{Gate}
use Rattle.aig_circuit.specs.declared.circuit.Latch.{Latch}
use Rattle.aig_circuit.specs.declared.circuit.Reset.{Reset}
use Rattle.aig_circuit.specs.declared.circuit.Reset.TheVariants as resets
use Rattle.aig_circuit.specs.declared.value.Val.{Val}
use Rattle.aig_circuit.specs.declared.value.Val.TheVariants.{Zero, One}
use Rattle.aig_circuit.specs.Literal.{literal_of, negation_of}
use Rattle.aig_circuit.specs.Values.{value_and, value_not}
use Rattle.aig_meaning.specs.Meaning.{Row}
use Rattle.aig_miter.specs.Both.{differ, joined_row, joined_rows}
use Rattle.aig_unroll.specs.Unrolled.{gate_of, resets_of}
use Rattle.aig_miter.specs.Miter.{differences, differing, moved, plain_miter}

-- ---- the circuit

-- what there is of uninitialised latches, of what there is of all
abbrev pub free_only : {T : Type 0} → List Reset → List T → List T
free_only [] xs = []
free_only (r ∷ rs) [] = []
free_only (resets.Zero ∷ rs) (x ∷ xs) = free_only rs xs
free_only (resets.One ∷ rs) (x ∷ xs) = free_only rs xs
free_only (resets.Uninit ∷ rs) (x ∷ xs) = x ∷ free_only rs xs

-- the literals of uninitialised latches
abbrev pub free_among : List Latch → List ℕ
free_among ls = map literal_of (free_only (map (λ (l : Latch). l.reset) ls) (map (λ (l : Latch). l.var) ls))

abbrev pub free_literals : Circuit → List ℕ
free_literals c = free_among c.latches

-- how many uninitialised latches of one circuit start as one of the other
abbrev pub pairs : Circuit → Circuit → ℕ
pairs a b = min (length (free_literals a)) (length (free_literals b))

-- a gate for each literal, of this one and of it, their variables from this one on
abbrev pub gates_with : ℕ → ℕ → List ℕ → List Gate
gates_with v literal [] = []
gates_with v literal (x ∷ xs) = gate_of v literal x ∷ gates_with (v + 1) literal xs

-- the negations of so many gates
abbrev pub negations : ℕ → List ℕ → List ℕ
negations v [] = []
negations v (x ∷ xs) = negation_of (literal_of v) ∷ negations (v + 1) xs

-- the circuit with the constraints that these literals are equal, place by place, in the first step
abbrev pub with_equal_starts : List ℕ → List ℕ → Circuit → Circuit
with_equal_starts xs ys m =
    let later = m.max_var + 1 in
    let unequal = differences (later + 1) xs ys in
    let first = later + 1 + 3 * length unequal in
    record m {
      max_var = later + 4 * length unequal;
      latches = m.latches ++ record { var = later; next = 1; reset = resets.Zero } ∷ [];
      gates = m.gates ++ (differing (later + 1) xs ys ++ gates_with first (negation_of (literal_of later)) unequal);
      constraints = m.constraints ++ negations first unequal;
    }

abbrev pub started_miter : Circuit → Circuit → Circuit
started_miter a b = with_equal_starts (free_literals a) (free_literals (moved a b)) (plain_miter a b)

abbrev pub miter : Circuit → Circuit → Circuit
miter a b = if pairs a b == 0 then plain_miter a b else started_miter a b

-- ---- its rows, where there is a pair

-- in the first step, that they differ; 0 in later ones
abbrev pub unequal_now : Val → Val → Val
unequal_now later x = value_and (value_not later) x

-- where uninitialised latches of both differ in a state
abbrev pub unequal : Circuit → Circuit → Row → Row → List Val
unequal a b r s = differ (free_only (resets_of a) r.state) (free_only (resets_of b) s.state)

-- the row where the latch that tells later steps has this value
abbrev pub started_row : Circuit → Circuit → Val → Row → Row → Row
started_row a b later r s = record {
  state = (r.state ++ s.state) ++ later ∷ [];
  inputs = r.inputs;
  outputs = [];
  next = (r.next ++ s.next) ++ One ∷ [];
  bad = (joined_row r s).bad;
  constraints = r.constraints ++ map (λ (x : Val). value_not (unequal_now later x)) (unequal a b r s);
}

abbrev pub started_rows : Circuit → Circuit → Val → List Row → List Row → List Row
started_rows a b later [] ss = []
started_rows a b later (r ∷ rs) [] = []
started_rows a b later (r ∷ rs) (s ∷ ss) = started_row a b later r s ∷ started_rows a b One rs ss

-- ---- its runs

-- its first state where the circuits start in these
abbrev pub first_of_both : Circuit → Circuit → List Val → List Val → List Val
first_of_both a b first second = if pairs a b == 0 then first ++ second else (first ++ second) ++ Zero ∷ []

-- its rows where the circuits have these
abbrev pub rows_of_both : Circuit → Circuit → List Row → List Row → List Row
rows_of_both a b rs ss = if pairs a b == 0 then joined_rows rs ss else started_rows a b Zero rs ss
