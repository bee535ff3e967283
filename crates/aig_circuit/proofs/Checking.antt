-- What the checks of a circuit's sections tell, item by item, and what a well-formed circuit keeps to.
use Rattle.std.proofs.Common.{◌≡◌, ◌∷◌, ◌++◌, ◌+◌, ◌<◌, ◌==◌, ◌≢◌, ◌≤◌, ◌*◌, ◌⊎◌, ◌||◌, ℕ, List, [], refl, flat_map}
use Rattle.std.proofs.Common.{Bool, map, arith, sym, ap₂, Decides, not, eqb, true, false, subst, inl, inr, ⊎_elim}
use Rattle.std.proofs.Common.{length, length-append, All, map-id}
use Rattle.std.specs.List.{concat, AllByRecursion, list_any, IsDistinct}
use Rattle.std.proofs.lemmas.List.{length-map}
use Rattle.std.proofs.lemmas.List.Concat.{flat_map_single}
use Rattle.std.proofs.lemmas.Bool.Decides.{Decides-eqb, Decides-or, Decides-not, Decides-like, Decides-at, eqb_tells}
use Rattle.std.proofs.lemmas.List.Elements.{All-from_recursion, recursion_from_All}
use Rattle.std.proofs.lemmas.Map.Keys.{IsDistinct-cons}
use Rattle.std.proofs.lemmas.Map.Steps.{length-le_from_distinct_below}
use Rattle.aig_circuit.specs.declared.circuit.Latch.{Latch}
use Rattle.aig_circuit.specs.declared.circuit.Gate.{Gate}
use Rattle.aig_circuit.specs.declared.circuit.Circuit.{Circuit}
use Rattle.aig_circuit.specs.Wellformed.{defined_variables, literal_lists, used_literals, operands, IsAmong}
use Rattle.aig_circuit.specs.Wellformed.{IsWithinLimits, IsVariableUpTo, HasGoodSymbols, NameTheSame, NameApart}
use Rattle.aig_circuit.specs.Wellformed.{AreDistinct, IsKnown, IsWellFormed}
use Rattle.aig_circuit.specs.declared.circuit.Symbol.{Symbol}
use Rattle.aig_circuit.specs.Form.{IsInForm, IsLiteralUpTo, AreInRange, HasEntriesInRange}
use Rattle.aig_circuit.specs.Parts.SymbolOrder.{start_of, place_of, IsRisingFrom}
use Rattle.aig_circuit.specs.Literal.{variable_of}

-- what the loops over the sections go through
abbrev pub defined_inputs : List ℕ → List ℕ
defined_inputs = flat_map (λ (v : ℕ). v ∷ [])

abbrev pub defined_latches : List Latch → List ℕ
defined_latches = flat_map (λ (l : Latch). l.var ∷ [])

abbrev pub defined_gates : List Gate → List ℕ
defined_gates = flat_map (λ (g : Gate). g.var ∷ [])

abbrev pub used_nexts : List Latch → List ℕ
used_nexts = flat_map (λ (l : Latch). l.next ∷ [])

pub defined_is : (c : Circuit) → (defined_inputs c.inputs ++ defined_latches c.latches) ++ defined_gates c.gates
    ≡ defined_variables c
defined_is c = rw (
  flat_map_single (λ (v : ℕ). v) c.inputs,
  map-id c.inputs,
  flat_map_single (λ (l : Latch). l.var) c.latches,
  flat_map_single (λ (g : Gate). g.var) c.gates,
) refl

pub used_is : (c : Circuit) → (used_nexts c.latches ++ concat (literal_lists c)) ++ flat_map operands c.gates
    ≡ used_literals c
used_is c = rw (flat_map_single (λ (l : Latch). l.next) c.latches) refl

-- Facts on each item of a section, joined to facts on the circuit's lists, and symbols in order.

-- a fact on each item of two lists, and on each of the two joined
module _ {X : Type 0} (P : X → Type 0) where
  pub joined : (xs ys : List X) → AllByRecursion P xs → AllByRecursion P ys → AllByRecursion P (xs ++ ys)
  joined [] ys g h = h
  joined (x ∷ xs) ys g h = (g.0, joined xs ys g.1 h)

  pub front : (xs ys : List X) → AllByRecursion P (xs ++ ys) → AllByRecursion P xs
  front [] ys h = tt
  front (x ∷ xs) ys h = (h.0, front xs ys h.1)

  pub back : (xs ys : List X) → AllByRecursion P (xs ++ ys) → AllByRecursion P ys
  back [] ys h = h
  back (x ∷ xs) ys h = back xs ys h.1

-- a fact on each number of each list, and on each of all of them joined
module _ (P : ℕ → Type 0) where
  pub joined_all : (xss : List (List ℕ)) → AllByRecursion (AllByRecursion P) xss → AllByRecursion P (concat xss)
  joined_all [] h = tt
  joined_all (xs ∷ xss) h = joined P xs (concat xss) h.0 (joined_all xss h.1)

  pub each_of : (xss : List (List ℕ)) → AllByRecursion P (concat xss) → AllByRecursion (AllByRecursion P) xss
  each_of [] h = tt
  each_of (xs ∷ xss) h = (front P xs (concat xss) h, each_of xss (back P xs (concat xss) h))

-- what the entries of a section define and use is in range, one by one and in a row
module _ {X : Type 0} (max_var : ℕ) (defined used : X → List ℕ) where
  in_a_row : (xs : List X) → AllByRecursion (λ x. AreInRange max_var (defined x) (used x)) xs
      → AreInRange max_var (flat_map defined xs) (flat_map used xs)
  in_a_row [] h = (tt, tt)
  in_a_row (x ∷ xs) h =
      let later : AreInRange max_var (flat_map defined xs) (flat_map used xs) = in_a_row xs h.1 in
      (joined _ (defined x) (flat_map defined xs) h.0.0 later.0, joined _ (used x) (flat_map used xs) h.0.1 later.1)

  one_by_one : (xs : List X) → AreInRange max_var (flat_map defined xs) (flat_map used xs)
      → AllByRecursion (λ x. AreInRange max_var (defined x) (used x)) xs
  one_by_one [] h = tt
  one_by_one (x ∷ xs) h = (
    (front _ (defined x) (flat_map defined xs) h.0, front _ (used x) (flat_map used xs) h.1),
    one_by_one xs (back _ (defined x) (flat_map defined xs) h.0, back _ (used x) (flat_map used xs) h.1),
  )

  entries_to : (xs : List X) → All (λ x. AreInRange max_var (defined x) (used x)) xs
      → AreInRange max_var (flat_map defined xs) (flat_map used xs)
  entries_to xs h = in_a_row xs (recursion_from_All _ xs h)

  pub entries_from : (xs : List X) → AreInRange max_var (flat_map defined xs) (flat_map used xs)
      → All (λ x. AreInRange max_var (defined x) (used x)) xs
  entries_from xs h = All-from_recursion _ xs (one_by_one xs h)

-- entries that define nothing, and entries that use nothing
none_of : {X : Type 0} (P : ℕ → Type 0) (xs : List X) → AllByRecursion P (flat_map (λ (_ : X). []) xs)
none_of P [] = tt
none_of P (x ∷ xs) = none_of P xs

module _ (c : Circuit) where
  abbrev Defines : ℕ → Type 0
  Defines = IsVariableUpTo c.max_var

  abbrev Uses : ℕ → Type 0
  Uses = IsLiteralUpTo c.max_var

  abbrev inputs : List ℕ
  inputs = defined_inputs c.inputs

  abbrev latches : List ℕ
  latches = defined_latches c.latches

  abbrev nexts : List ℕ
  nexts = used_nexts c.latches

  abbrev listed : List ℕ
  listed = concat (literal_lists c)

  pub by_parts : IsWithinLimits c → HasEntriesInRange c → HasGoodSymbols c → IsInForm c
  by_parts limits entries symbols =
      let latch_entries : AreInRange c.max_var latches nexts =
      entries_to c.max_var (λ (l : Latch). l.var ∷ []) (λ (l : Latch). l.next ∷ []) c.latches entries.latches in
      let gate_entries : AreInRange c.max_var (defined_gates c.gates) (flat_map operands c.gates) =
      entries_to c.max_var (λ (g : Gate). g.var ∷ []) operands c.gates entries.gates in
      let first_inputs : AllByRecursion Defines inputs =
      (entries_to c.max_var (λ (v : ℕ). v ∷ []) (λ _. []) c.inputs entries.inputs).0 in
      let all_listed : AllByRecursion Uses listed = joined_all Uses (literal_lists c) entries.literals in
      record {
        limits = limits;
        variables = rw (← defined_is c)
            (joined Defines (inputs ++ latches) (defined_gates c.gates)
            (joined Defines inputs latches first_inputs latch_entries.0) gate_entries.0);
        literals = rw (← used_is c)
            (joined Uses (nexts ++ listed) (flat_map operands c.gates)
            (joined Uses nexts listed latch_entries.1 all_listed) gate_entries.1);
        symbols = symbols;
      }

  pub in_range : IsInForm c → HasEntriesInRange c
  in_range form =
      let variables : AllByRecursion Defines ((inputs ++ latches) ++ defined_gates c.gates) =
      rw (← defined_is c) at form.variables in
      let literals : AllByRecursion Uses ((nexts ++ listed) ++ flat_map operands c.gates) =
      rw (← used_is c) at form.literals in
      let sequential = front Defines (inputs ++ latches) (defined_gates c.gates) variables in
      let without_gates = front Uses (nexts ++ listed) (flat_map operands c.gates) literals in
      record {
        inputs = entries_from c.max_var (λ (v : ℕ). v ∷ []) (λ _. []) c.inputs
            (front Defines inputs latches sequential, none_of Uses c.inputs);
        latches = entries_from c.max_var (λ (l : Latch). l.var ∷ []) (λ (l : Latch). l.next ∷ []) c.latches
            (back Defines inputs latches sequential, front Uses nexts listed without_gates);
        literals = each_of Uses (literal_lists c) (back Uses nexts listed without_gates);
        gates = entries_from c.max_var (λ (g : Gate). g.var ∷ []) operands c.gates (
          back Defines (inputs ++ latches) (defined_gates c.gates) variables,
          back Uses (nexts ++ listed) (flat_map operands c.gates) literals,
        );
      }

-- whether a number stands in a list
pub among_decides : (n : ℕ) (xs : List ℕ) → Decides (list_any (λ x. x == n) xs) (IsAmong n xs)
among_decides n [] = (λ e. cc, λ k. absurd k)
among_decides n (x ∷ xs) =
    Decides-or _ _ (Decides-like _ (λ e. sym e) (λ e. sym e) (Decides-eqb x n)) (among_decides n xs)

pub none_among : (n : ℕ) (xs : List ℕ) (r : Bool) → r ≡ list_any (λ x. x == n) xs → Decides (not r) (¬ IsAmong n xs)
none_among n xs r e = Decides-not r (Decides-at r _ e (among_decides n xs))

-- symbols in order name nothing twice
same_place : (s t : Symbol) → NameTheSame s t → place_of s ≡ place_of t
same_place s t h = ap₂ (λ k (p : ℕ). start_of k + p) h.0 h.1

apart_from : (s : Symbol) (least : ℕ) (ss : List Symbol) → place_of s < least → IsRisingFrom least (map place_of ss)
    → AllByRecursion (λ t. ¬ NameTheSame s t) ss
apart_from s least [] below h = tt
apart_from s least (t ∷ ss) below h = (
  λ e. let same = same_place s t e in omega (arith, same, h.0),
  apart_from s (place_of t + 1) ss (omega (arith, h.0)) h.1,
)

pub rising_apart : (least : ℕ) (ss : List Symbol) → IsRisingFrom least (map place_of ss) → NameApart ss
rising_apart least [] h = tt
rising_apart least (s ∷ ss) h =
    (apart_from s (place_of s + 1) ss (omega arith) h.1, rising_apart (place_of s + 1) ss h.1)

-- What a well-formed circuit keeps to: its largest index bounds its literals and the number of its definitions.

-- what holds of all holds of each
pub each : (P : ℕ → Type 0) (xs : List ℕ) → AllByRecursion P xs → (x : ℕ) → IsAmong x xs → P x
each P [] all x a = absurd a
each P (y ∷ ys) all x a = ⊎_elim (λ (e : x ≡ y). subst P (sym e) all.0) (each P ys all.1 x) a

-- what follows for each follows for all
pub all_weaker : (P Q : ℕ → Type 0) → ((x : ℕ) → P x → Q x) → (xs : List ℕ) → AllByRecursion P xs → AllByRecursion Q xs
all_weaker P Q weaker [] all = tt
all_weaker P Q weaker (x ∷ xs) all = (weaker x all.0, all_weaker P Q weaker xs all.1)

-- a list that has a number, by a test, has it
pub among_from_test : (x : ℕ) (xs : List ℕ) → list_any (eqb x) xs ≡ true → IsAmong x xs
among_from_test x [] h = cc
among_from_test x (y ∷ ys) h =
    elim (eqb x y) as (λ b. eqb x y ≡ b → (b || list_any (eqb x) ys) ≡ true → (x ≡ y) ⊎ IsAmong x ys) [
      | true ↦ λ e _. inl ((Decides-eqb x y).0 e)
      | false ↦ λ _ e. inr (among_from_test x ys e)
    ] refl h

-- a number that does not stand in a list differs from each by the test
differs : (x : ℕ) (xs : List ℕ) → ¬ IsAmong x xs → AllByRecursion (λ y. eqb x y ≡ false) xs
differs x [] h = tt
differs x (y ∷ ys) h = (
  ⊎_elim (λ (t : (eqb x y ≡ true) × (x ≡ y)). absurd (h (inl t.1))) (λ (f : (eqb x y ≡ false) × (x ≢ y)). f.0)
      (eqb_tells x y),
  differs x ys (λ a. h (inr a)),
)

pub distinct_by_test : (xs : List ℕ) → AreDistinct xs → IsDistinct eqb xs
unfolding IsDistinct
distinct_by_test [] d = tt
distinct_by_test (x ∷ xs) d = IsDistinct-cons eqb x xs (differs x xs d.0) (distinct_by_test xs d.1)

-- distinct numbers below n are at most n
pub at_most_below : (n : ℕ) (xs : List ℕ) → AreDistinct xs → AllByRecursion (λ x. x < n) xs → length xs ≤ n
at_most_below n xs d all =
    length-le_from_distinct_below xs n (distinct_by_test xs d)
    (λ q h. each (λ x. x < n) xs all q (among_from_test q xs h))

-- distinct numbers from 1 to n are at most n
pub at_most : (n : ℕ) (xs : List ℕ) → AreDistinct xs → AllByRecursion (IsVariableUpTo n) xs → length xs ≤ n
at_most n xs d all =
    let no_zero : ¬ IsAmong 0 xs = λ a. let r : IsVariableUpTo n 0 = each (IsVariableUpTo n) xs all 0 a in
    omega (arith, r.0) in
    let longer : length (0 ∷ xs) ≤ n + 1 =
    at_most_below (n + 1) (0 ∷ xs) (no_zero, d)
    (omega arith, all_weaker (IsVariableUpTo n) (λ x. x < n + 1) (λ x r. omega (arith, r.1)) xs all) in
    omega (arith, longer)

defined_length : (c : Circuit) → length (defined_variables c) ≡ length c.inputs + length c.latches + length c.gates
defined_length c = simp (length-append, length-map)

-- there are at most as many definitions as the largest index
pub definitions_fit : (c : Circuit) → IsWellFormed c → length c.inputs + length c.latches + length c.gates ≤ c.max_var
definitions_fit c w = omega (arith, defined_length c, at_most c.max_var (defined_variables c) w.once w.in_range)

pub known_in_range : (n : ℕ) (vars : List ℕ) → AllByRecursion (IsVariableUpTo n) vars → (lit : ℕ) → IsKnown vars lit
    → lit ≤ 2 * n + 1
known_in_range n vars all lit k =
    ⊎_elim (λ (e : variable_of lit ≡ 0). omega arith)
    (λ (a : IsAmong (variable_of lit) vars). let r : IsVariableUpTo n (variable_of lit) =
    each (IsVariableUpTo n) vars all (variable_of lit) a in omega (arith, r.1)) k

-- a well-formed circuit is in form
pub well_formed_in_form : (c : Circuit) → IsWellFormed c → IsInForm c
well_formed_in_form c w = record {
  limits = w.limits;
  variables = w.in_range;
  literals = all_weaker (IsKnown (defined_variables c)) (λ l. l ≤ 2 * c.max_var + 1)
      (known_in_range c.max_var (defined_variables c) w.in_range) (used_literals c) w.known;
  symbols = w.symbols;
}
