-- A circuit in binary order can be run, by a table of values, and what runs means the same.
use Rattle.std.proofs.Common.{◌≡◌, ◌++◌, ◌∷◌, ◌∙◌, ◌+◌, ◌<◌, ◌≤◌, List, [], map, refl, sym, ap, rules, ℕ, zero, suc}
use Rattle.std.proofs.Common.{length, get_or, ap₂, arith, drop, drop-cons, set}
use Rattle.std.specs.List.{Contains, range_with_len, All}
use Rattle.std.proofs.lemmas.Simd.{map-map}
use Rattle.std.proofs.lemmas.List.{get_or-set_same, get_or-set_other, length-set, length-map}
use Rattle.aig_circuit.specs.declared.circuit.Circuit.{Circuit}
use Rattle.aig_circuit.specs.declared.circuit.Latch.{Latch}
use Rattle.aig_circuit.specs.declared.value.Val.{Val}
use Rattle.aig_circuit.specs.declared.circuit.Gate.{Gate}
use Rattle.aig_circuit.specs.declared.value.Val.TheVariants.{Zero}
use Rattle.aig_circuit.specs.Literal.{variable_of}
use Rattle.aig_circuit.specs.Values.{value_and}
use Rattle.aig_circuit.specs.Wellformed.{IsKnown, IsWellFormed, defined_variables}
use Rattle.aig_circuit.proofs.Checking.{known_in_range}
use Rattle.aig_circuit.proofs.Alike.{gates_alike}
use Rattle.aig_checked.specs.BinaryOrder.{AreOrderedGates, IsInBinaryOrder}
use Rattle.aig_meaning.specs.Meaning.{MeansTheSame, Row, Holds, literal_value, IsReadOff, IsStepAssignment}
use Rattle.aig_meaning.specs.Meaning.{latch_variables}
use Rattle.aig_meaning.specs.Trace.{reset_state, reset_value, state_after}
use Rattle.aig_meaning.proofs.Related.{same_literal, AreDefined, known_next, known_outputs, known_bad}
use Rattle.aig_meaning.proofs.Related.{known_constraints}
use Rattle.aig_step.specs.declared.evaluate.Pair.{Pair}
use Rattle.aig_step.specs.Parts.Tables.{AreOverLower, evaluated, gates_from, placed, read_from, IsLiteralBelow}
use Rattle.aig_step.specs.Parts.Tables.{IsPairBelow, pair_of}
use Rattle.aig_step.specs.Parts.Machines.{CanRun, circuit_of, first_gate, parts_of}

pub same_reset_state : (c d : Circuit) → MeansTheSame c d → reset_state d ≡ reset_state c
same_reset_state c d same = by_resets d ∙ ap (map reset_value) same.resets ∙ sym (by_resets c) where
  by_resets : (e : Circuit) → reset_state e ≡ map reset_value (map (λ (l : Latch). l.reset) e.latches)
  by_resets e = sym (map-map reset_value (λ (l : Latch). l.reset) e.latches)

pub state_after_last : (state : List Val) (rows : List Row) (row : Row)
    → state_after state (rows ++ row ∷ []) ≡ row.next
state_after_last state [] row = refl
state_after_last state (r ∷ rs) row = state_after_last r.next rs row

-- What stands in a table after values were placed and gates evaluated.
pub placed_length : (at : ℕ) (xs values : List Val) → length (placed at xs values) ≡ length values
placed_length at [] values = refl
placed_length at (x ∷ xs) values = placed_length (at + 1) xs (set values at x) ∙ length-set values at x

-- one more value is put after the others
pub placed_behind : (at : ℕ) (xs : List Val) (x : Val) (values : List Val)
    → placed at (xs ++ x ∷ []) values ≡ set (placed at xs values) (at + length xs) x
placed_behind at [] x values =
    let same : at ≡ at + 0 = omega arith in ap (λ n. set values n x) same
placed_behind at (y ∷ ys) x values =
    let same : at + 1 + length ys ≡ at + length (y ∷ ys) = omega arith in
    placed_behind (at + 1) ys x (set values at y) ∙ ap (λ n. set (placed (at + 1) ys (set values at y)) n x) same

-- the next value is put where those before it were
pub placed_on : (at k : ℕ) (given : List Val) (x : Val) (values all : List Val) → k < length given
    → x ≡ get_or given k x → placed at (drop k given) values ≡ all
    → placed (at + 1) (drop (k + 1) given) (set values at x) ≡ all
placed_on at k given x values all below is before = search (rules, drop-cons)

-- lower places stay
placed_below : (at : ℕ) (xs values : List Val) (w : ℕ) → w < at
    → read_from (placed at xs values) w ≡ read_from values w
placed_below at [] values w low = refl
placed_below at (x ∷ xs) values w low =
    placed_below (at + 1) xs (set values at x) w (omega (arith, low))
    ∙ get_or-set_other values at w x Zero (λ e. omega (arith, low, e))

-- The values are read from their places, and by each function that agrees with the table there.
placed_read : (f : ℕ → Val) (at : ℕ) (xs values : List Val) → at + length xs ≤ length values
    → ((w : ℕ) → at ≤ w → w < at + length xs → f w ≡ read_from (placed at xs values) w)
    → map f (range_with_len at (length xs)) ≡ xs
placed_read f at [] values room agrees = refl
placed_read f at (x ∷ xs) values room agrees =
    ap₂ (λ y ys. y ∷ ys)
    (agrees at (omega arith) (omega arith)
    ∙ placed_below (at + 1) xs (set values at x) at (omega arith)
    ∙ get_or-set_same values at x Zero (omega (arith, room)))
    (placed_read f (at + 1) xs (set values at x) (omega (arith, room, length-set values at x))
    (λ w low high. agrees w (omega (arith, low)) (omega (arith, high))))

-- the value of a gate with these operands
abbrev value_by : List Val → Pair → Val
value_by values p = value_and (literal_value (read_from values) p.left) (literal_value (read_from values) p.right)

pub evaluated_length : (v : ℕ) (pairs : List Pair) (values : List Val)
    → length (evaluated v pairs values) ≡ length values
evaluated_length v [] values = refl
evaluated_length v (p ∷ ps) values =
    evaluated_length (v + 1) ps (set values v (value_by values p)) ∙ length-set values v (value_by values p)

evaluated_below : (v : ℕ) (pairs : List Pair) (values : List Val) (w : ℕ) → w < v
    → read_from (evaluated v pairs values) w ≡ read_from values w
evaluated_below v [] values w low = refl
evaluated_below v (p ∷ ps) values w low =
    evaluated_below (v + 1) ps (set values v (value_by values p)) w (omega (arith, low))
    ∙ get_or-set_other values v w (value_by values p) Zero (λ e. omega (arith, low, e))

-- the first gate holds once all are evaluated: its value was put, and neither that nor its operands' values change
first_holds : (v : ℕ) (p : Pair) (ps : List Pair) (values : List Val) → v < length values
    → variable_of p.left < v → variable_of p.right < v
    → Holds (read_from (evaluated v (p ∷ ps) values)) (record { var = v; left = p.left; right = p.right })
first_holds v p ps values below left right = search (rules, evaluated_below, get_or-set_same, same_literal)

each_holds : (v : ℕ) (pairs : List Pair) (values : List Val) → v + length pairs ≤ length values
    → AreOverLower v pairs → (i : ℕ) (g : Gate) → i < length (gates_from v pairs)
    → get_or (gates_from v pairs) i g ≡ g → Holds (read_from (evaluated v pairs values)) g
each_holds v [] values room lower i g below is = absurd (omega (arith, below))
each_holds v (p ∷ ps) values room lower zero g below is = search (rules, first_holds)
each_holds v (p ∷ ps) values room lower (suc i) g below is =
    each_holds (v + 1) ps (set values v (value_by values p))
    (omega (arith, room, length-set values v (value_by values p))) lower.2 i g (omega (arith, below)) is

all_hold : (v : ℕ) (pairs : List Pair) (values : List Val) → v + length pairs ≤ length values
    → AreOverLower v pairs → (g : Gate) → Contains (gates_from v pairs) g
    → Holds (read_from (evaluated v pairs values)) g
all_hold v pairs values room lower g g_in = each_holds v pairs values room lower g_in.0 g g_in.1 g_in.2

-- A circuit in binary order can be run, and what runs means the same.

-- gates in order are over lower variables
over_lower : (v : ℕ) (gates : List Gate) → AreOrderedGates v gates → AreOverLower v (map pair_of gates)
over_lower v [] ordered = tt
over_lower v (g ∷ gs) ordered = search (rules, over_lower (suc v) gs ordered.3)

-- and are those with their operands
gates_again : (v : ℕ) (gates : List Gate) → AreOrderedGates v gates → gates_from v (map pair_of gates) ≡ gates
gates_again v [] ordered = refl
gates_again v (g ∷ gs) ordered =
    let next : v + 1 ≡ suc v = omega arith in
    ap₂ (λ (h : Gate) hs. h ∷ hs) (gates_alike (sym ordered.0) refl refl)
    (ap (λ n. gates_from n (map pair_of gs)) next ∙ gates_again (suc v) gs ordered.3)

-- operands over lower variables are below the size of a table with room for the gates
pub pairs_below : (v size : ℕ) (pairs : List Pair) → v + length pairs ≤ size → AreOverLower v pairs
    → All (IsPairBelow size) pairs
pairs_below v size [] room lower k d below = absurd (omega (arith, below))
pairs_below v size (p ∷ ps) room lower zero d below = search rules
pairs_below v size (p ∷ ps) room lower (suc k) d below =
    pairs_below (v + 1) size ps (omega (arith, room)) lower.2 k d (omega (arith, below))

module _ (c : Circuit) (formed : IsWellFormed c) where
  one_below : (literal : ℕ) → IsKnown (defined_variables c) literal → IsLiteralBelow (1 + c.max_var) literal
  one_below literal known =
      omega (arith, known_in_range c.max_var (defined_variables c) formed.in_range literal known)

  all_below : (literals : List ℕ) → AreDefined c literals → All (IsLiteralBelow (1 + c.max_var)) literals
  all_below [] known k d below = absurd (omega (arith, below))
  all_below (x ∷ xs) known zero d below = one_below x known.0
  all_below (x ∷ xs) known (suc k) d below = all_below xs known.1 k d (omega (arith, below))

  next_below : (latches : List Latch) → AreDefined c (map (λ (l : Latch). l.next) latches)
      → All (λ (l : Latch). IsLiteralBelow (1 + c.max_var) l.next) latches
  next_below [] known k d below = absurd (omega (arith, below))
  next_below (x ∷ xs) known zero d below = one_below x.next known.0
  next_below (x ∷ xs) known (suc k) d below = next_below xs known.1 k d (omega (arith, below))

  pub can_run : IsInBinaryOrder c → CanRun (parts_of c) (map pair_of c.gates)
  can_run ordered =
      search (
        rules,
        over_lower,
        length-map,
        all_below,
        known_outputs,
        next_below,
        known_next,
        known_bad,
        known_constraints,
      )

-- the circuit with these gates, without what no row shows
abbrev bare : Circuit → List Gate → Circuit
bare c gates = record (parts_of c) { gates = gates }

-- no row shows what it lacks
shown_without : (c : Circuit) (row : Row) (a : ℕ → Val) → IsReadOff c row a → IsReadOff (bare c c.gates) row a
shown_without c row a is = search rules

shown_with : (c : Circuit) (row : Row) (a : ℕ → Val) → IsReadOff (bare c c.gates) row a → IsReadOff c row a
shown_with c row a is = search rules

bare_means_the_same : (c : Circuit) → MeansTheSame c (bare c c.gates)
bare_means_the_same c = search (rules, shown_without, shown_with)

pub kept_means_the_same : (c : Circuit) → IsInBinaryOrder c
    → MeansTheSame c (circuit_of (parts_of c) (map pair_of c.gates))
kept_means_the_same c ordered = search (rules, gates_again, bare_means_the_same)

-- what a step puts into the table: the constant, the inputs, the state and the gates
abbrev pub filled : Circuit → List Pair → List Val → List Val → List Val → List Val
filled parts pairs given state values =
    evaluated (first_gate parts) pairs (placed (1 + length given) state (placed 1 given (set values 0 Zero)))

module _ (parts : Circuit) (pairs : List Pair) (can : CanRun parts pairs) (given state values : List Val)
    (each_input : length given ≡ length parts.inputs) (each_latch : length state ≡ length parts.latches)
    (room : length values ≡ 1 + parts.max_var) where
  abbrev begun : List Val
  begun = set values 0 Zero

  abbrev with_inputs : List Val
  with_inputs = placed 1 given begun

  abbrev with_state : List Val
  with_state = placed (1 + length given) state with_inputs

  abbrev after : ℕ → Val
  after = read_from (filled parts pairs given state values)

  begun_length : length begun ≡ length values
  begun_length = length-set values 0 Zero

  inputs_length : length with_inputs ≡ length values
  inputs_length = placed_length 1 given begun ∙ begun_length

  state_length : length with_state ≡ length values
  state_length = placed_length (1 + length given) state with_inputs ∙ inputs_length

  before_gates : (w : ℕ) → w < 1 + length given + length state → after w ≡ read_from with_state w
  before_gates w low =
      evaluated_below (first_gate parts) pairs with_state w (omega (arith, low, each_input, each_latch))

  before_state : (w : ℕ) → w < 1 + length given → after w ≡ read_from with_inputs w
  before_state w low =
      before_gates w (omega (arith, low)) ∙ placed_below (1 + length given) state with_inputs w low

  constant_read : after 0 ≡ Zero
  constant_read = search (rules, before_state, placed_below, get_or-set_same)

  inputs_read : map after parts.inputs ≡ given
  inputs_read = search (rules, placed_read, begun_length, before_state)

  latches_read : map after (latch_variables parts) ≡ state
  latches_read = search (rules, placed_read, inputs_length, before_gates)

  pub is_filled : IsStepAssignment (circuit_of parts pairs) state given after
  is_filled = search (rules, constant_read, inputs_read, latches_read, all_hold, state_length)
