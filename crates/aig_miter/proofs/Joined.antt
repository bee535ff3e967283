-- A row of the miter shows a row of each of its circuits.
use Rattle.std.proofs.Common.{◌≡◌, ◌++◌, ◌∙◌, ℕ, List, [], ◌∷◌, ap, ap₂, length, map, refl, rules, sym}
use Rattle.std.specs.List.{AllByRecursion}
use Rattle.std.proofs.lemmas.List.{length-map, map-append}
use Rattle.std.proofs.lemmas.List.Elements.{All-contains, All-from_recursion}
use Rattle.aig_circuit.specs.declared.circuit.Circuit.{Circuit}
use Rattle.aig_circuit.specs.declared.circuit.Gate.{Gate}
use Rattle.aig_circuit.specs.declared.circuit.Latch.{Latch}
use Rattle.aig_circuit.specs.declared.value.Val.{Val}
use Rattle.aig_circuit.specs.Literal.{negation_of}
use Rattle.aig_circuit.specs.Values.{value_not}
use Rattle.aig_circuit.proofs.Checking.{back, front}
use Rattle.aig_image.specs.Relabelled.{relabelled_gate, relabelled_latch, relabelled_literal}
use Rattle.aig_image.proofs.Relabelling.Relabelled.{map_twice}
use Rattle.aig_meaning.specs.Meaning.{Holds, IsRow, IsStepAssignment, Row}
use Rattle.aig_meaning.specs.Meaning.{latch_variables, literal_value, next_literals}
use Rattle.aig_meaning.proofs.Traces.{row_shown, same_row}
use Rattle.aig_miter.specs.Both.{differ, joined_row, seen}
use Rattle.aig_miter.specs.Parts.Comparable.{AreComparable}
use Rattle.aig_miter.specs.Miter.{compared, differences, differing, first_compared, plain_miter, moved, shifted, tied}
use Rattle.aig_miter.proofs.Values.{differences_shown, each_gate, negation_values, tied_show}

-- ---- a circuit by other variables, its gates one by one

module _ (f : ℕ → ℕ) (a : ℕ → Val) where
  abbrev read : ℕ → Val
  read v = a (f v)

  pub same_value : (l : ℕ) → literal_value a (relabelled_literal f l) ≡ literal_value read l
  same_value l = search rules

  pub same_values : (ls : List ℕ)
      → map (literal_value a) (map (relabelled_literal f) ls) ≡ map (literal_value read) ls
  same_values ls = map_twice (relabelled_literal f) (literal_value a) (literal_value read) same_value ls

  pub same_state : (ls : List Latch)
      → map a (map (λ (l : Latch). l.var) (map (relabelled_latch f) ls)) ≡ map read (map (λ (l : Latch). l.var) ls)
  same_state [] = refl
  same_state (l ∷ ls) = ap (λ (xs : List Val). read l.var ∷ xs) (same_state ls)

  pub same_next : (ls : List Latch)
      → map (literal_value a) (map (λ (l : Latch). l.next) (map (relabelled_latch f) ls))
      ≡ map (literal_value read) (map (λ (l : Latch). l.next) ls)
  same_next [] = refl
  same_next (l ∷ ls) = ap₂ (λ (x : Val) (xs : List Val). x ∷ xs) (same_value l.next) (same_next ls)

  pub same_inputs : (vs : List ℕ) → map a (map f vs) ≡ map read vs
  same_inputs [] = refl
  same_inputs (v ∷ vs) = ap (λ (xs : List Val). read v ∷ xs) (same_inputs vs)

  gate_holds : (g : Gate) → Holds a (relabelled_gate f g) → Holds read g
  gate_holds g holds = search (rules, same_value)

  gates_hold : (gs : List Gate) → AllByRecursion (Holds a) (map (relabelled_gate f) gs)
      → AllByRecursion (Holds read) gs
  gates_hold [] hold = tt
  gates_hold (g ∷ gs) hold = (gate_holds g hold.0, gates_hold gs hold.1)

-- ---- the miter

module _ (c d : Circuit) (fit : AreComparable c d) (a : ℕ → Val) (state given : List Val)
    (is : IsStepAssignment (plain_miter c d) state given a) where
  abbrev there : ℕ → ℕ
  there = shifted c.max_var

  abbrev e : Circuit
  e = moved c d

  -- values of the second circuit's variables
  abbrev b : ℕ → Val
  b v = a (there v)

  abbrev r : Row
  r = row_shown c a

  abbrev s : Row
  s = row_shown d b

  abbrev comparing : List Gate
  comparing = differing (first_compared c d) (compared c) (compared e)

  all_hold : AllByRecursion (Holds a) (plain_miter c d).gates
  all_hold = each_gate (Holds a) (plain_miter c d).gates is.gates

  first_hold : AllByRecursion (Holds a) c.gates
  first_hold = front (Holds a) c.gates (tied c.inputs e.inputs ++ (e.gates ++ comparing)) all_hold

  behind_hold : AllByRecursion (Holds a) (tied c.inputs e.inputs ++ (e.gates ++ comparing))
  behind_hold = back (Holds a) c.gates (tied c.inputs e.inputs ++ (e.gates ++ comparing)) all_hold

  ties_hold : AllByRecursion (Holds a) (tied c.inputs e.inputs)
  ties_hold = front (Holds a) (tied c.inputs e.inputs) (e.gates ++ comparing) behind_hold

  rest_hold : AllByRecursion (Holds a) (e.gates ++ comparing)
  rest_hold = back (Holds a) (tied c.inputs e.inputs) (e.gates ++ comparing) behind_hold

  second_hold : AllByRecursion (Holds a) e.gates
  second_hold = front (Holds a) e.gates comparing rest_hold

  comparing_hold : AllByRecursion (Holds a) comparing
  comparing_hold = back (Holds a) e.gates comparing rest_hold

  pub is_first : IsRow c r
  is_first = (
    a,
    record {
      assigned = record {
        constant = is.constant;
        inputs = refl;
        latches = refl;
        gates = λ g g_in. All-contains (Holds a) c.gates g (All-from_recursion (Holds a) c.gates first_hold) g_in;
      };
      outputs_shown = refl;
      next_shown = refl;
      bad_shown = refl;
      constraints_shown = refl;
    },
  )

  pub is_second : IsRow d s
  is_second = (
    b,
    record {
      assigned = record {
        constant = is.constant;
        inputs = refl;
        latches = refl;
        gates = λ g g_in.
            All-contains (Holds b) d.gates g
            (All-from_recursion (Holds b) d.gates (gates_hold there a d.gates second_hold)) g_in;
      };
      outputs_shown = refl;
      next_shown = refl;
      bad_shown = refl;
      constraints_shown = refl;
    },
  )

  as_many : length e.inputs ≡ length c.inputs
  as_many = length-map d.inputs there ∙ fit.inputs

  pub same_given : s.inputs ≡ r.inputs
  same_given = sym (same_inputs there a d.inputs) ∙ tied_show a is.constant c.inputs e.inputs as_many ties_hold

  pub state_is : state ≡ r.state ++ s.state
  state_is =
      sym is.latches
      ∙ ap (map a) (map-append (λ (l : Latch). l.var) c.latches e.latches)
      ∙ map-append a (latch_variables c) (latch_variables e)
      ∙ ap (λ (xs : List Val). r.state ++ xs) (same_state there a d.latches)

  pub next_is : map (literal_value a) (next_literals (plain_miter c d)) ≡ r.next ++ s.next
  next_is =
      ap (map (literal_value a)) (map-append (λ (l : Latch). l.next) c.latches e.latches)
      ∙ map-append (literal_value a) (next_literals c) (next_literals e)
      ∙ ap (λ (xs : List Val). r.next ++ xs) (same_next there a d.latches)

  seen_first : map (literal_value a) (compared c) ≡ seen r
  seen_first = map-append (literal_value a) c.outputs c.bad

  seen_second : map (literal_value a) (compared e) ≡ seen s
  seen_second =
      map-append (literal_value a) e.outputs e.bad
      ∙ ap₂ (λ (xs ys : List Val). xs ++ ys) (same_values there a d.outputs) (same_values there a d.bad)

  pub bad_is : map (literal_value a) (plain_miter c d).bad ≡ (joined_row r s).bad
  bad_is =
      map-append (literal_value a) (differences (first_compared c d) (compared c) (compared e))
      (map negation_of e.constraints)
      ∙ ap₂ (λ (xs ys : List Val). xs ++ ys)
      (differences_shown a (first_compared c d) (compared c) (compared e) comparing_hold
      ∙ ap₂ differ seen_first seen_second)
      (negation_values a e.constraints ∙ ap (map value_not) (same_values there a d.constraints))

-- each row of the plain miter shows a row of each circuit, of the same inputs
pub plain_shows_both : (c d : Circuit) (row : Row) → AreComparable c d → IsRow (plain_miter c d) row
    → (r s : Row) × IsRow c r × IsRow d s × (s.inputs ≡ r.inputs) × (row ≡ joined_row r s)
plain_shows_both c d row fit (a, shown) =
    let is = shown.assigned in
    let r = row_shown c a in
    let s = row_shown d (λ v. a (shifted c.max_var v)) in (
      r,
      s,
      is_first c d fit a row.state row.inputs is,
      is_second c d fit a row.state row.inputs is,
      same_given c d fit a row.state row.inputs is,
      same_row row (joined_row r s) (state_is c d fit a row.state row.inputs is) (sym is.inputs) shown.outputs_shown
          (shown.next_shown ∙ next_is c d fit a row.state row.inputs is)
          (shown.bad_shown ∙ bad_is c d fit a row.state row.inputs is) shown.constraints_shown,
    )
