-- A circuit grows by chains of gates, by literals and by cubes, and stays well formed.
use Rattle.std.proofs.Common.{◌≡◌, ◌<◌, ◌≤◌, ◌+◌, ◌++◌, ◌∙◌, ◌∷◌, ℕ, List, [], ap, ap₂, arith, inl, inr}
use Rattle.std.proofs.Common.{append_assoc, append-nil, length, length-append, map, refl, subst, suc, sym, All, Bool}
use Rattle.std.proofs.Common.{Err, drop, drop-cons, false, get_or, if◌then◌else◌, min, set, take, true, Ok, Result}
use Rattle.std.proofs.Common.{zero}
use Rattle.std.specs.List.{AllByRecursion, concat, flat_map}
use Rattle.std.proofs.lemmas.Bool.{cases_lt}
use Rattle.std.proofs.lemmas.List.{length-map}
use Rattle.std.specs.Prelude.{IfErr}
use Rattle.std.proofs.Math.ListN.{drop_of_length-le}
use Rattle.std.proofs.lemmas.List.Elements.{All-from_recursion}
use Rattle.aig_fault.specs.declared.stopped.Stopped.{Stopped}
use Rattle.aig_io.specs.Runs.{AtEnd}
use Rattle.aig_circuit.specs.declared.circuit.Circuit.{Circuit}
use Rattle.aig_circuit.specs.declared.circuit.Gate.{Gate}
use Rattle.aig_circuit.specs.declared.circuit.Kind.{Kind}
use Rattle.aig_circuit.specs.declared.circuit.Latch.{Latch}
use Rattle.aig_circuit.specs.declared.circuit.TheConstants.{LARGEST}
use Rattle.aig_circuit.specs.declared.value.Val.TheVariants.{Zero, One, X}
use Rattle.aig_circuit.specs.declared.value.Val.{Val}
use Rattle.aig_circuit.specs.declared.circuit.Kind.TheVariants as kinds
use Rattle.aig_circuit.specs.Literal.{literal_of, negation_of, variable_of}
use Rattle.aig_circuit.specs.Wellformed.{AreDistinct, IsAmong, IsKnown, IsVariableUpTo, IsWellFormed, count_of}
use Rattle.aig_circuit.specs.Wellformed.{defined_variables, largest_index, literal_lists, operands, used_literals}
use Rattle.aig_circuit.proofs.Checking.{all_weaker, back, front, joined}
use Rattle.aig_topo.proofs.Ordering.Counted.{among_first}
use Rattle.aig_topo.proofs.Ordering.Cyclic.{among_last}
use Rattle.aig_meaning.specs.Meaning.{latch_variables, next_literals}
use Rattle.aig_meaning.proofs.Related.{AreDefined, IsDefined, known_next}
use Rattle.aig_lines.specs.Lines.{Line, line}
use Rattle.aig_unroll.specs.Unrolled.{chain_behind, chained}
use Rattle.aig_unroll.proofs.Growing.{all_fit, gate_formed, gate_known, known_still, negation_known, with_gate}
use Rattle.aig_invariant.specs.declared.growth.Latches.{Latches}
use Rattle.aig_invariant.specs.Invariant.{Cube, asked_literals, conjunction, freed, state_literals, with_conjunction}
use Rattle.aig_invariant.specs.Invariant.{with_cube, with_cubes, with_now, with_invariant}
use Rattle.aig_invariant.specs.InvariantText.{is_passed}
use Rattle.aig_invariant.specs.Outcome.{HasCubes, IsOverfull, NotInvariant}
use Rattle.aig_invariant.specs.Parts.Growing.{AreTheLatches, IsRefused, with_line}
use Rattle.aig_invariant.specs.Parts.Rows.{cube_at, cubes_at, value_or_x}

-- ---- chains

-- the circuit with gates that chain these literals after a chain so far
abbrev pub with_chain : ℕ → List ℕ → Circuit → Circuit
with_chain chain literals c = record c {
  max_var = c.max_var + length literals;
  gates = c.gates ++ chained (c.max_var + 1) chain literals;
}

abbrev pub chain_of : ℕ → List ℕ → Circuit → ℕ
chain_of chain literals c = chain_behind (c.max_var + 1) chain literals

-- one gate after the other
pub gate_by_gate : (chain x : ℕ) (xs : List ℕ) (c : Circuit)
    → with_chain (literal_of (c.max_var + 1)) xs (with_gate chain x c) ≡ with_chain chain (x ∷ xs) c
gate_by_gate chain x xs c =
    let many : c.max_var + 1 + length xs ≡ c.max_var + suc (length xs) = omega arith in
    ap₂ (λ (n : ℕ) (gs : List Gate). record c { max_var = n; gates = gs }) many
    (append_assoc c.gates _ (chained (c.max_var + 1 + 1) (literal_of (c.max_var + 1)) xs))

pub no_gate : (chain : ℕ) (c : Circuit) → with_chain chain [] c ≡ c
no_gate chain c =
    let many : c.max_var + 0 ≡ c.max_var = omega arith in
    ap₂ (λ (n : ℕ) (gs : List Gate). record c { max_var = n; gates = gs }) many (append-nil c.gates)

all_known_still : (c d : Circuit) → ((l : ℕ) → IsDefined c l → IsDefined d l) → (ls : List ℕ) → AreDefined c ls
    → AreDefined d ls
all_known_still c d still [] known = tt
all_known_still c d still (l ∷ ls) known = (still l known.0, all_known_still c d still ls known.1)

-- what stands of a circuit that grew: it is well formed, what was known still is, and so is this literal
pub record IsGrown (c d : Circuit) (chain : ℕ) : Type 0 where
  pub formed : IsWellFormed d
  pub still : (l : ℕ) → IsDefined c l → IsDefined d l
  pub known : IsDefined d chain

pub chain_grown : (chain : ℕ) (xs : List ℕ) (c : Circuit) → IsWellFormed c → c.max_var + length xs ≤ largest_index
    → IsDefined c chain → AreDefined c xs → IsGrown c (with_chain chain xs c) (chain_of chain xs c)
chain_grown chain [] c good room chain_known known =
    subst (λ (d : Circuit). IsGrown c d chain) (sym (no_gate chain c))
    (record { formed = good; still = λ l is. is; known = chain_known })
chain_grown chain (x ∷ xs) c good room chain_known known =
    let one : c.max_var + 1 ≤ largest_index = omega (arith, room) in
    let next = with_gate chain x c in
    let still = known_still c good chain x one chain_known known.0 in
    let rest = chain_grown (literal_of (c.max_var + 1)) xs next
    (gate_formed c good chain x one chain_known known.0)
    (omega (arith, room))
    (gate_known c good chain x one chain_known known.0)
    (all_known_still c next still xs known.1) in
    subst (λ (d : Circuit). IsGrown c d (chain_of chain (x ∷ xs) c)) (gate_by_gate chain x xs c)
    (record { formed = rest.formed; still = λ l is. rest.still l (still l is); known = rest.known })

-- ---- literals

pub asked_known : (vs : List ℕ) (cube : Cube) (ls : List ℕ) → AllByRecursion (IsKnown vs) ls
    → AllByRecursion (IsKnown vs) (asked_literals cube ls)
asked_known vs [] ls known = tt
asked_known vs (v ∷ cube) [] known = tt
asked_known vs (Zero ∷ cube) (l ∷ ls) known = (negation_known vs l known.0, asked_known vs cube ls known.1)
asked_known vs (One ∷ cube) (l ∷ ls) known = (known.0, asked_known vs cube ls known.1)
asked_known vs (X ∷ cube) (l ∷ ls) known = asked_known vs cube ls known.1

known_variables : (vs : List ℕ) (ls : List Latch)
    → ((v : ℕ) → IsAmong v (map (λ (l : Latch). l.var) ls) → IsAmong v vs)
    → AllByRecursion (IsKnown vs) (map literal_of (map (λ (l : Latch). l.var) ls))
known_variables vs [] there = tt
known_variables vs (l ∷ ls) there =
    let same : variable_of (literal_of l.var) ≡ l.var = omega arith in (
      inr (rw same (there l.var (inl refl))),
      known_variables vs ls (λ v a. there v (inr a)),
    )

pub state_known : (c : Circuit) → AreDefined c (state_literals c)
state_known c =
    let gates = map (λ (g : Gate). g.var) c.gates in
    known_variables (defined_variables c) c.latches
    (λ v a. among_first v (c.inputs ++ latch_variables c) gates (among_last c.inputs (latch_variables c) v a))

-- ---- one constraint more, and one bad state more

abbrev pub with_constraint : ℕ → Circuit → Circuit
with_constraint l c = record c { constraints = c.constraints ++ l ∷ [] }

abbrev pub with_bad : ℕ → Circuit → Circuit
with_bad l c = record c { bad = c.bad ++ l ∷ [] }

module _ (c : Circuit) (good : IsWellFormed c) (l : ℕ) (known : IsDefined c l) where
  abbrev P : ℕ → Type 0
  P = IsDefined c

  nexts_and_lists : AreDefined c (next_literals c ++ concat (literal_lists c))
  nexts_and_lists = front P (next_literals c ++ concat (literal_lists c)) (flat_map operands c.gates) good.known

  in_lists : AreDefined c (concat (literal_lists c))
  in_lists = back P (next_literals c) (concat (literal_lists c)) nexts_and_lists

  behind_outputs : AreDefined c (concat (c.bad ∷ c.constraints ∷ c.justice.literals ∷ c.fairness ∷ []))
  behind_outputs = back P c.outputs (concat (c.bad ∷ c.constraints ∷ c.justice.literals ∷ c.fairness ∷ [])) in_lists

  behind_bad : AreDefined c (concat (c.constraints ∷ c.justice.literals ∷ c.fairness ∷ []))
  behind_bad = back P c.bad (concat (c.constraints ∷ c.justice.literals ∷ c.fairness ∷ [])) behind_outputs

  behind_constraints : AreDefined c (concat (c.justice.literals ∷ c.fairness ∷ []))
  behind_constraints = back P c.constraints (concat (c.justice.literals ∷ c.fairness ∷ [])) behind_bad

  -- the literals of circuits that differ in the lists
  with_lists : (lists : List ℕ) → AreDefined c lists
      → AreDefined c (next_literals c ++ lists ++ flat_map operands c.gates)
  with_lists lists all =
      joined P (next_literals c ++ lists) (flat_map operands c.gates)
      (joined P (next_literals c) lists (front P (next_literals c) (concat (literal_lists c)) nexts_and_lists) all)
      (back P (next_literals c ++ concat (literal_lists c)) (flat_map operands c.gates) good.known)

  pub constraint_formed : length c.constraints < largest_index → IsWellFormed (with_constraint l c)
  constraint_formed room = record {
    limits = record {
      max_var = good.limits.max_var;
      inputs = good.limits.inputs;
      latches = good.limits.latches;
      literals = (good.limits.literals.0, (good.limits.literals.1.0, (fits, good.limits.literals.1.1.1)));
      justice = good.limits.justice;
      sizes = good.limits.sizes;
      gates = good.limits.gates;
    };
    in_range = good.in_range;
    once = good.once;
    known = with_lists (concat (literal_lists (with_constraint l c)))
        (joined P c.outputs _ (front P c.outputs _ in_lists)
        (joined P c.bad _ (front P c.bad _ behind_outputs)
        (joined P (c.constraints ++ l ∷ []) _
        (joined P c.constraints (l ∷ []) (front P c.constraints _ behind_bad) (known, tt)) behind_constraints)));
    symbols = record {
      positions = all_fit c (with_constraint l c) counts c.symbols good.symbols.positions;
      apart = good.symbols.apart;
      lines = good.symbols.lines;
    };
    ranked = good.ranked;
  } where
    fits : length (c.constraints ++ l ∷ []) ≤ largest_index
    fits = omega (arith, length-append c.constraints (l ∷ []), room)

    counts : (kind : Kind) → count_of c kind ≤ count_of (with_constraint l c) kind
    counts kinds.Input = omega arith
    counts kinds.Latch = omega arith
    counts kinds.Output = omega arith
    counts kinds.Bad = omega arith
    counts kinds.Constraint = omega (arith, length-append c.constraints (l ∷ []))
    counts kinds.Justice = omega arith
    counts kinds.Fairness = omega arith

  pub bad_formed : length c.bad < largest_index → IsWellFormed (with_bad l c)
  bad_formed room = record {
    limits = record {
      max_var = good.limits.max_var;
      inputs = good.limits.inputs;
      latches = good.limits.latches;
      literals = (good.limits.literals.0, (fits, good.limits.literals.1.1));
      justice = good.limits.justice;
      sizes = good.limits.sizes;
      gates = good.limits.gates;
    };
    in_range = good.in_range;
    once = good.once;
    known = with_lists (concat (literal_lists (with_bad l c)))
        (joined P c.outputs _ (front P c.outputs _ in_lists)
        (joined P (c.bad ++ l ∷ []) _
        (joined P c.bad (l ∷ []) (front P c.bad _ behind_outputs) (known, tt)) behind_bad));
    symbols = record {
      positions = all_fit c (with_bad l c) counts c.symbols good.symbols.positions;
      apart = good.symbols.apart;
      lines = good.symbols.lines;
    };
    ranked = good.ranked;
  } where
    fits : length (c.bad ++ l ∷ []) ≤ largest_index
    fits = omega (arith, length-append c.bad (l ∷ []), room)

    counts : (kind : Kind) → count_of c kind ≤ count_of (with_bad l c) kind
    counts kinds.Input = omega arith
    counts kinds.Latch = omega arith
    counts kinds.Output = omega arith
    counts kinds.Bad = omega (arith, length-append c.bad (l ∷ []))
    counts kinds.Constraint = omega arith
    counts kinds.Justice = omega arith
    counts kinds.Fairness = omega arith

-- ---- a cube

-- the numbers of a circuit with a cube
abbrev pub asked_now : Cube → Circuit → List ℕ
asked_now cube c = asked_literals cube (state_literals c)

abbrev pub asked_next : Cube → Circuit → List ℕ
asked_next cube c = asked_literals cube (next_literals c)

pub cube_formed : (cube : Cube) (c : Circuit) → IsWellFormed c
    → c.max_var + length (asked_now cube c) + length (asked_next cube c) ≤ largest_index
    → length c.constraints < largest_index → length c.bad < largest_index → IsWellFormed (with_cube cube c)
cube_formed cube c good room constraints bad =
    let now = with_now cube c in
    let chain = conjunction (asked_now cube c) c in
    let first : IsGrown c now chain =
    chain_grown 1 (asked_now cube c) c good (omega (arith, room)) (inl refl)
    (asked_known (defined_variables c) cube (state_literals c) (state_known c)) in
    let listed = with_constraint (negation_of chain) now in
    let formed : IsWellFormed listed =
    constraint_formed now first.formed (negation_of chain) (negation_known (defined_variables now) chain first.known)
    constraints in
    let chain_next = conjunction (asked_next cube c) now in
    let second : IsGrown listed (with_conjunction (asked_next cube c) listed) chain_next =
    chain_grown 1 (asked_next cube c) listed formed room (inl refl)
    (asked_known (defined_variables listed) cube (next_literals listed) (known_next listed formed)) in
    bad_formed (with_conjunction (asked_next cube c) listed) second.formed chain_next second.known bad

-- ---- cubes

pub fuller : (cubes : List Cube) (c : Circuit) → IsOverfull c → IsOverfull (with_cubes cubes c)
fuller [] c full = full
fuller (q ∷ qs) c full = fuller qs (with_cube q c) (one full) where
  one : IsOverfull c → IsOverfull (with_cube q c)
  one (inl indices) = inl (omega (arith, indices))
  one (inr (inl constraints)) = inr (inl (omega (arith, constraints, length-append c.constraints)))
  one (inr (inr bad)) = inr (inr (omega (arith, bad, length-append c.bad)))

pub latches_stay : (cubes : List Cube) (c : Circuit) → (with_cubes cubes c).latches ≡ c.latches
latches_stay [] c = refl
latches_stay (q ∷ qs) c = latches_stay qs (with_cube q c)

-- ---- latches that may start at either

free_variables : (ls : List Latch) → map (λ (l : Latch). l.var) (map freed ls) ≡ map (λ (l : Latch). l.var) ls
free_variables [] = refl
free_variables (l ∷ ls) = ap (λ vs. l.var ∷ vs) (free_variables ls)

free_nexts : (ls : List Latch) → map (λ (l : Latch). l.next) (map freed ls) ≡ map (λ (l : Latch). l.next) ls
free_nexts [] = refl
free_nexts (l ∷ ls) = ap (λ vs. l.next ∷ vs) (free_nexts ls)

abbrev pub with_free_latches : Circuit → Circuit
with_free_latches c = record c { latches = map freed c.latches }

pub free_formed : (c : Circuit) → IsWellFormed c → IsWellFormed (with_free_latches c)
free_formed c good = record {
  limits = record {
    max_var = good.limits.max_var;
    inputs = good.limits.inputs;
    latches = subst (λ n. n ≤ largest_index) (sym many) good.limits.latches;
    literals = good.limits.literals;
    justice = good.limits.justice;
    sizes = good.limits.sizes;
    gates = good.limits.gates;
  };
  in_range = subst (AllByRecursion (IsVariableUpTo c.max_var)) (sym defined) good.in_range;
  once = subst AreDistinct (sym defined) good.once;
  known = subst (λ ls. AllByRecursion (IsKnown (defined_variables (with_free_latches c))) ls) (sym used)
      (subst (λ vs. AllByRecursion (IsKnown vs) (used_literals c)) (sym defined) good.known);
  symbols = record {
    positions = all_fit c (with_free_latches c) counts c.symbols good.symbols.positions;
    apart = good.symbols.apart;
    lines = good.symbols.lines;
  };
  ranked = good.ranked;
} where
  many : length (map freed c.latches) ≡ length c.latches
  many = length-map c.latches freed

  defined : defined_variables (with_free_latches c) ≡ defined_variables c
  defined = ap (λ vs. c.inputs ++ vs ++ map (λ (g : Gate). g.var) c.gates) (free_variables c.latches)

  used : used_literals (with_free_latches c) ≡ used_literals c
  used = ap (λ ns. ns ++ concat (literal_lists c) ++ flat_map operands c.gates) (free_nexts c.latches)

  counts : (kind : Kind) → count_of c kind ≤ count_of (with_free_latches c) kind
  counts kinds.Input = omega arith
  counts kinds.Latch = omega (arith, many)
  counts kinds.Output = omega arith
  counts kinds.Bad = omega arith
  counts kinds.Constraint = omega arith
  counts kinds.Justice = omega arith
  counts kinds.Fairness = omega arith

freed_next : (i : ℕ) (ls : List Latch) (d : Latch) → i < length ls
    → set (map freed (take i ls) ++ drop i ls) i (freed (get_or (map freed (take i ls) ++ drop i ls) i d))
    ≡ map freed (take (suc i) ls) ++ drop (suc i) ls
freed_next i [] d below = absurd (omega arith)
freed_next zero (l ∷ ls) d below = refl
freed_next (suc i) (l ∷ ls) d below = ap (λ xs. freed l ∷ xs) (freed_next i ls d (omega arith))

pub next_freed : (i : ℕ) (ls now : List Latch) (d : Latch) → i < length ls
    → now ≡ map freed (take i ls) ++ drop i ls
    → set now i (freed (get_or now i d)) ≡ map freed (take (i + 1) ls) ++ drop (i + 1) ls
next_freed i ls now d below is =
    let next : i + 1 ≡ suc i = omega arith in rw (is, next) (freed_next i ls d below)

-- ---- what is asked, value by value

no_literal : (cube : Cube) → asked_literals cube [] ≡ []
no_literal [] = refl
no_literal (v ∷ cube) = refl

pub asked_at_end : (i : ℕ) (row ls : List ℕ) → min (length row) (length ls) ≤ i
    → asked_literals (map value_or_x (drop i row)) (drop i ls) ≡ []
asked_at_end i row ls over = elim (cases_lt i (length row)) [
  | inl more ↦
      let short : length ls ≤ i = omega arith in
      let none : drop i ls ≡ [] = drop_of_length-le ls short in rw none (no_literal (map value_or_x (drop i row)))
  | inr short ↦ let none : drop i row ≡ [] = drop_of_length-le row short in rw none refl
]

first_asked : (v : Val) (l : ℕ) (vs : Cube) (ls : List ℕ)
    → asked_literals (v ∷ vs) (l ∷ ls) ≡ asked_literals (v ∷ []) (l ∷ []) ++ asked_literals vs ls
first_asked Zero l vs ls = refl
first_asked One l vs ls = refl
first_asked X l vs ls = refl

pub asked_next_on : (i : ℕ) (row ls : List ℕ) → i < length row → i < length ls
    → asked_literals (map value_or_x (drop i row)) (drop i ls)
    ≡ asked_literals (value_or_x (get_or row i 0) ∷ []) (get_or ls i 0 ∷ [])
    ++ asked_literals (map value_or_x (drop (i + 1) row)) (drop (i + 1) ls)
asked_next_on i row ls of_row of_ls =
    let next : i + 1 ≡ suc i = omega arith in
    rw (next, drop-cons row i 0 of_row, drop-cons ls i 0 of_ls)
    (first_asked (value_or_x (get_or row i 0)) (get_or ls i 0) (map value_or_x (drop (suc i) row)) (drop (suc i) ls))

-- ---- lines

pub refused_on : (Holds More : Type 0) (stopped : Stopped) → (Holds → More) → IsRefused Holds stopped
    → IsRefused More stopped
refused_on Holds More stopped on (inl memory) = inl memory
refused_on Holds More stopped on (inr large) = inr (large.0, on large.1)

by_passed : (passed : Bool) (cube : Cube) (cubes : List Cube) (c : Circuit)
    → with_cubes (if passed then cubes else cube ∷ cubes) c ≡ with_cubes cubes (if passed then c else with_cube cube c)
by_passed true cube cubes c = refl
by_passed false cube cubes c = refl

pub by_line : (text : List ℕ) (ended : Bool) (ls : List Line) (c : Circuit)
    → with_cubes (cubes_at (line text ended ∷ ls)) c ≡ with_cubes (cubes_at ls) (with_line text c)
by_line text ended ls c = by_passed (is_passed text) (cube_at text) (cubes_at ls) c

pub line_fuller : (text : List ℕ) (ended : Bool) (ls all : List Line) (c d : Circuit)
    → all ≡ line text ended ∷ ls → with_cubes (cubes_at all) c ≡ d → IsOverfull (with_line text c) → IsOverfull d
line_fuller text ended ls all c d first is full =
    subst IsOverfull
    (sym (by_line text ended ls c) ∙ ap (λ (xs : List Line). with_cubes (cubes_at xs) c) (sym first) ∙ is)
    (fuller (cubes_at ls) (with_line text c) full)

line_latches : (passed : Bool) (cube : Cube) (c : Circuit)
    → (if passed then c else with_cube cube c).latches ≡ c.latches
line_latches true cube c = refl
line_latches false cube c = refl

pub latches_behind_line : (latches : Latches) (text : List ℕ) (c d : Circuit) → d ≡ with_line text c
    → AreTheLatches latches c → AreTheLatches latches d
latches_behind_line latches text c d is these =
    let same : d.latches ≡ c.latches =
    ap (λ (x : Circuit). x.latches) is ∙ line_latches (is_passed text) (cube_at text) c in (
      these.0 ∙ ap (λ (ls : List Latch). map literal_of (map (λ (l : Latch). l.var) ls)) (sym same),
      these.1 ∙ ap (λ (ls : List Latch). map (λ (l : Latch). l.next) ls) (sym same),
    )

-- ---- the latches of a circuit

pub literals_of : (ls : List Latch)
    → map (λ (l : Latch). literal_of l.var) ls ≡ map literal_of (map (λ (l : Latch). l.var) ls)
literals_of [] = refl
literals_of (l ∷ ls) = ap (λ xs. literal_of l.var ∷ xs) (literals_of ls)

low_variables : (ls : List Latch) → AllByRecursion (λ v. v ≤ LARGEST) (map (λ (l : Latch). l.var) ls)
    → AllByRecursion (λ (l : Latch). l.var ≤ LARGEST) ls
low_variables [] low = tt
low_variables (l ∷ ls) low = (low.0, low_variables ls low.1)

pub low_latches : (c : Circuit) → IsWellFormed c → All (λ (l : Latch). l.var ≤ LARGEST) c.latches
low_latches c good =
    let Low : ℕ → Type 0 = λ v. v ≤ LARGEST in
    let all : AllByRecursion Low (defined_variables c) =
    all_weaker (IsVariableUpTo c.max_var) Low (λ v range. omega (arith, range.1, good.limits.max_var))
    (defined_variables c) good.in_range in
    All-from_recursion (λ (l : Latch). l.var ≤ LARGEST) c.latches
    (low_variables c.latches (back Low c.inputs (latch_variables c)
    (front Low (c.inputs ++ latch_variables c) (map (λ (g : Gate). g.var) c.gates) all)))

-- ---- what comes of it

pub of_growth : (c : Circuit) (bytes : List ℕ) (cubes : List Cube) (stopped : Stopped)
    → HasCubes c bytes cubes → IsRefused (IsOverfull (with_cubes cubes c)) stopped
    → NotInvariant c stopped bytes AtEnd
of_growth c bytes cubes stopped has (inl memory) = rw memory tt
of_growth c bytes cubes stopped has (inr (large, full)) = rw large (refl, inr (refl, cubes, has, full))

pub freed_growth : (cubes : List Cube) (c g d : Circuit) → g ≡ with_cubes cubes c → d ≡ with_free_latches g
    → d ≡ with_invariant cubes c
freed_growth cubes c g d grown freed_is =
    freed_is ∙ ap with_free_latches grown
    ∙ ap (λ (ls : List Latch). record (with_cubes cubes c) { latches = map freed ls }) (latches_stay cubes c)

pub err_on : {A : Type 0} (r : Result A Stopped) (P Q : Stopped → Type 0)
    → ((stopped : Stopped) → P stopped → Q stopped) → IfErr r P → IfErr r Q
err_on (Ok x) P Q on is = tt
err_on (Err stopped) P Q on is = on stopped is
