-- What a block tells of the gate at a position, and where the variables of gates that were placed stand.
use Rattle.std.proofs.Common.{◌≡◌, ◌≢◌, ◌<◌, ◌∷◌, ◌∙◌, ◌≤◌, ◌+◌, ◌++◌, ◌==◌, if◌then◌else◌, ℕ, List, false, get_or}
use Rattle.std.proofs.Common.{rules, zero, suc, [], Some, None, true, length, map, set, replicate, refl, sym, subst}
use Rattle.std.proofs.Common.{inr, ⊎_elim, arith, eqb, zero-add, get_or-set_same, get_or-set_other, Option, eqb-true}
use Rattle.std.proofs.Common.{length-set, ne_eqb}
use Rattle.std.specs.List.{AllByRecursion, range_with_len}
use Rattle.std.proofs.lemmas.Bool.Decides.{eqb_tells}
use Rattle.std.proofs.lemmas.Grind.{same_number_lists, common_steps}
use Rattle.std.proofs.lemmas.List.{length-replicate}
use Rattle.std.proofs.lemmas.List.FromFn.{get_or-map-range_with_len, length-map-range_with_len}
use Rattle.aig_circuit.specs.declared.circuit.Gate.{Gate}
use Rattle.aig_circuit.specs.Wellformed.{IsAmong, AreDistinct, IsVariableUpTo}
use Rattle.aig_circuit.proofs.Checking.{all_weaker, joined}
use Rattle.aig_image.specs.Reordered.{exchanged_if, no_gate}
use Rattle.aig_image.specs.Relabelled.{FitIntoLiterals}
use Rattle.aig_image.specs.Renumbering.{source_variable}
use Rattle.aig_map.specs.declared.map_block.MappedGate.{MappedGate}
use Rattle.aig_map.specs.Parts.Placed.{with_gates, table_of}
use Rattle.aig_map.specs.Undone.{places_recorded, variable_at_place, source_variables}
use Rattle.aig_map.specs.declared.map_block.MapBlock.{MapBlock}
use Rattle.aig_map.specs.MapReading.{IsWithinBounds}

abbrev pub none_recorded : MappedGate
none_recorded = record { var = 0; place = 0; exchanged = false }

abbrev pub recorded_at : List MappedGate → ℕ → MappedGate
recorded_at gates i = get_or gates i none_recorded

-- the gate at a place, with its operands in the order that they had
abbrev pub gate_had : List Gate → MappedGate → Gate
gate_had gates m = exchanged_if m.exchanged (get_or gates m.place no_gate)

-- Variables of gates that were placed one by one stand where their gates' places say.

-- what goes on only where a number is 0, and gives something, went on
only_at_zero : (v : ℕ) (next : Option (List ℕ)) (table : List ℕ)
    → (if v == 0 then next else None) ≡ Some table → (v ≡ 0) × (next ≡ Some table)
only_at_zero v next table is = search (rules, eqb-true)

at_zero : {X : Type 0} (v : ℕ) (x y : X) → v ≡ 0 → (if v == 0 then x else y) ≡ x
at_zero v x y free = subst (λ w. (if w == 0 then x else y) ≡ x) (sym free) refl

elsewhere : (v x y : ℕ) → 1 ≤ v → (if v == 0 then x else y) ≡ y
elsewhere v x y some = let differs : v ≢ 0 = omega (arith, some) in rw (ne_eqb v 0 differs) refl

or_zero : (v : ℕ) → v ≡ (if v == 0 then 0 else v)
or_zero v = grind (arith, common_steps)

-- the variable of a place is that of the first gate if it has this place, and otherwise that of a later gate
module _ (g : MappedGate) (gates : List MappedGate) (p : ℕ) where
  pub variable_here : eqb g.place p ≡ true → variable_at_place (g ∷ gates) p ≡ g.var
  variable_here here = rw here refl

  variable_later : eqb g.place p ≡ false → variable_at_place (g ∷ gates) p ≡ variable_at_place gates p
  variable_later other = rw other refl

-- a table with one more gate
abbrev put : List ℕ → MappedGate → List ℕ
put placed g = set placed g.place g.var

put_here : (placed : List ℕ) (g : MappedGate) → g.place < length placed → get_or (put placed g) g.place 0 ≡ g.var
put_here placed g there = get_or-set_same placed g.place g.var 0 there

put_elsewhere : (placed : List ℕ) (g : MappedGate) (p : ℕ) → p ≢ g.place → get_or (put placed g) p 0 ≡ get_or placed p 0
put_elsewhere placed g p other = get_or-set_other placed g.place p g.var 0 other

-- the variable of a place: the one that the table has, or that of the gate that is still to be put there
abbrev expected : List ℕ → List MappedGate → ℕ → ℕ
expected placed gates p = if get_or placed p 0 == 0 then variable_at_place gates p else get_or placed p 0

-- no gate's place has a variable yet
abbrev AreFree : List ℕ → List MappedGate → Type 0
AreFree placed gates = (p : ℕ) → IsAmong p (places_recorded gates) → get_or placed p 0 ≡ 0

-- gates of distinct free places are placed
all_placed : (placed : List ℕ) (gates : List MappedGate)
    → AreDistinct (places_recorded gates) → AreFree placed gates → with_gates placed gates ≢ None
all_placed placed [] once free is = let bad : ⊥ = cc in bad
all_placed placed (g ∷ gates) once free is =
    let other : (p : ℕ) → IsAmong p (places_recorded gates) → p ≢ g.place =
    λ p i e. once.0 (subst (λ q. IsAmong q (places_recorded gates)) e i) in
    all_placed (put placed g) gates once.1 (λ p i. put_elsewhere placed g p (other p i) ∙ free p (inr i))
    (search (rules, at_zero))

module _ (most count : ℕ) where
  -- what a block tells of a gate is within bounds
  abbrev pub IsGood : MappedGate → Type 0
  IsGood g = IsVariableUpTo most g.var × (g.place < count)

  -- gates that were placed have each its place, which was free
  placed_once : (placed : List ℕ) (gates : List MappedGate) (table : List ℕ)
      → length placed ≡ count → AllByRecursion IsGood gates → with_gates placed gates ≡ Some table
      → AreDistinct (places_recorded gates) × AreFree placed gates
  placed_once placed [] table many good is = (tt, λ p a. absurd a)
  placed_once placed (g ∷ gates) table many good is =
      let here = only_at_zero (get_or placed g.place 0) (with_gates (put placed g) gates) table is in
      let long : length (put placed g) ≡ count = length-set placed g.place g.var ∙ many in
      let later = placed_once (put placed g) gates table long good.1 here.1 in
      let new : get_or (put placed g) g.place 0 ≡ g.var = put_here placed g (omega (arith, many, good.0.1)) in
      let apart : ¬ IsAmong g.place (places_recorded gates) = λ a. omega (arith, later.1 g.place a, new, good.0.0.0) in
      let other : (p : ℕ) → IsAmong p (places_recorded gates) → p ≢ g.place =
      λ p i e. apart (subst (λ q. IsAmong q (places_recorded gates)) e i) in search (rules, put_elsewhere)

  -- what is expected stays while gates are placed
  expected_next : (placed : List ℕ) (g : MappedGate) (gates : List MappedGate)
      → length placed ≡ count → IsGood g → get_or placed g.place 0 ≡ 0
      → (p : ℕ) → expected (put placed g) gates p ≡ expected placed (g ∷ gates) p
  expected_next placed g gates many good free p =
      search (rules, put_here, elsewhere, at_zero, variable_here, put_elsewhere, variable_later, eqb_tells)

  -- at the end each place has the variable that was expected
  table_has : (placed : List ℕ) (gates : List MappedGate) (table : List ℕ)
      → length placed ≡ count → AllByRecursion IsGood gates → with_gates placed gates ≡ Some table
      → (length table ≡ count) × ((p : ℕ) → get_or table p 0 ≡ expected placed gates p)
  table_has placed [] table many good is = search (rules, or_zero)
  table_has placed (g ∷ gates) table many good is =
      let here = only_at_zero (get_or placed g.place 0) (with_gates (put placed g) gates) table is in
      let long : length (put placed g) ≡ count = length-set placed g.place g.var ∙ many in
      let later = table_has (put placed g) gates table long good.1 here.1 in
      (later.0, λ p. later.1 p ∙ expected_next placed g gates many good.0 here.0 p)

zeros : (n p : ℕ) → ◌≡◌ {A = ℕ} (get_or (replicate n 0) p 0) 0
zeros zero p = refl
zeros (suc n) zero = refl
zeros (suc n) (suc p) = zeros n p

-- all gates of a block, in a table of zeros
module _ (most : ℕ) (gates : List MappedGate) (good : AllByRecursion (IsGood most (length gates)) gates) where
  abbrev none : List ℕ
  none = replicate (length gates) 0

  long : length none ≡ length gates
  long = length-replicate (length gates) 0

  -- the table has the variables by place
  pub table_is : (table : List ℕ) → table_of gates ≡ Some table
      → table ≡ map (variable_at_place gates) (range_with_len 0 (length gates))
  table_is table is =
      search (
        rules,
        table_has,
        long,
        length-map-range_with_len,
        same_number_lists,
        at_zero,
        zeros,
        get_or-map-range_with_len,
        zero-add,
      )

  -- where there is a table, the places are distinct
  pub places_once : (table : List ℕ) → table_of gates ≡ Some table → AreDistinct (places_recorded gates)
  places_once table is = (placed_once most (length gates) none gates table long good is).0

  -- where there is none, they are not
  pub place_twice : table_of gates ≡ None → ¬ AreDistinct (places_recorded gates)
  place_twice is once = all_placed none gates once (λ p _. zeros (length gates) p) is

module _ (most count : ℕ) where
  -- the variable of a place is not above the largest one
  place_fits : (gates : List MappedGate) → AllByRecursion (IsGood most count) gates
      → (p : ℕ) → variable_at_place gates p ≤ most
  place_fits [] good p = omega arith
  place_fits (g ∷ gates) good p =
      ⊎_elim (search (rules, variable_here))
      (search (rules, variable_later, place_fits gates good.1 p))
      (eqb_tells g.place p)

  -- nor are those of places in a row
  places_fit : (gates : List MappedGate) → AllByRecursion (IsGood most count) gates
      → (a n : ℕ) → AllByRecursion (λ v. v ≤ most) (map (variable_at_place gates) (range_with_len a n))
  places_fit gates good a zero = tt
  places_fit gates good a (suc n) = (place_fits gates good a, places_fit gates good (a + 1) n)

  -- each place is that of one of so many gates
  pub places_there : (gates : List MappedGate) → AllByRecursion (IsGood most count) gates
      → (n : ℕ) → count ≡ n → AllByRecursion (λ (g : MappedGate). g.place < n) gates
  places_there [] good n is = tt
  places_there (g ∷ gates) good n is = (omega (arith, good.0.1, is), places_there gates good.1 n is)

-- where all are at most so large, the item at an index is
at_most_at : (most : ℕ) (vs : List ℕ) → AllByRecursion (λ v. v ≤ most) vs → (i : ℕ) → get_or vs i 0 ≤ most
at_most_at most [] all i = omega arith
at_most_at most (v ∷ vs) all zero = all.0
at_most_at most (v ∷ vs) all (suc i) = at_most_at most vs all.1 i

-- and the variable that had a number
variable_fits : (most : ℕ) (vs : List ℕ) → AllByRecursion (λ v. v ≤ most) vs
    → (number : ℕ) → source_variable vs number ≤ most
variable_fits most vs all number = search (rules, at_most_at)

pub they_fit : (b : MapBlock) → IsWithinBounds b → FitIntoLiterals (source_variable (source_variables b))
they_fit b bounds number =
    let top : ℕ → Type 0 = λ v. v ≤ b.max_var in
    let inputs = all_weaker (IsVariableUpTo b.max_var) top (λ v is. is.1) b.inputs bounds.inputs in
    let latches = all_weaker (IsVariableUpTo b.max_var) top (λ v is. is.1) b.latches bounds.latches in
    let gates = places_fit b.max_var (length b.gates) b.gates bounds.gates 0 (length b.gates) in
    let all = joined top (b.inputs ++ b.latches) _ (joined top b.inputs b.latches inputs latches) gates in
    let fits = variable_fits b.max_var (source_variables b) all number in
    omega (arith, fits, bounds.max_var)
