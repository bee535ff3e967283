-- What is written: the numbers of a row, and the parts of a text.
use Rattle.std.proofs.Common.{◌≡◌, ◌≢◌, ◌<◌, ◌≤◌, ◌-◌, ◌&&◌, ◌∷◌, ◌++◌, ◌∙◌, rules, ℕ, zero, suc, Bool, true, false}
use Rattle.std.proofs.Common.{cond, List, [], length, take, get_or, eqb, refl, ap, arith, append_assoc, append-nil}
use Rattle.std.proofs.Common.{codes, flat_map, length-take, eqb-true, eq-eqb, ne_eqb}
use Rattle.std.specs.List.{AllByRecursion}
use Rattle.std.proofs.lemmas.Grind.{common_steps}
use Rattle.std.proofs.lemmas.Bool.{and_parts}
use Rattle.std.proofs.lemmas.List.Concat.{flat_map-append}
use Rattle.std.proofs.lemmas.List.Folds.{flat_map-map}
use Rattle.aig_circuit.specs.declared.circuit.Circuit.{Circuit}
use Rattle.aig_rows.specs.Spelling.{zeros}
use Rattle.aig_rows.specs.Rows.{input_row, latch_row, literal_row, size_row, gate_row}
use Rattle.aig_rows.proofs.Grammar.NumberLines.{and_no}
use Rattle.aig_text.specs.AsciiText.{number_before, shortened, spaced_number, more_numbers_text, numbers_text, row_text}
use Rattle.aig_text.specs.AsciiText.{line_text}
use Rattle.aig_text.specs.Sections.{rows_of, literal_rows_of}

-- numbers of which the last ones may be left out, where they are 0
pub record LeavesOut (ns written : List ℕ) : Type 0 where
  pub left_out : ℕ
  pub are : ns ≡ written ++ zeros left_out

-- one number more in front
before_zeros : (n : ℕ) (count : ℕ) (drops : Bool) → (drops ≡ true → n ≡ 0)
    → LeavesOut (n ∷ zeros count) (cond drops [] (n ∷ []))
before_zeros n count true is =
    record { left_out = suc count; are = ap (λ (k : ℕ). k ∷ zeros count) (is refl) }
before_zeros n count false is = record { left_out = count; are = refl }

one_before : (least n : ℕ) (ns written : List ℕ) → LeavesOut ns written
    → LeavesOut (n ∷ ns) (number_before least n written)
one_before least n ns [] h = search (rules, before_zeros, eqb-true, and_parts)
one_before least n ns (m ∷ ms) h = record { left_out = h.left_out; are = ap (λ (ks : List ℕ). n ∷ ks) h.are }

pub leaves_out : (least : ℕ) (ns : List ℕ) → LeavesOut ns (shortened least ns)
leaves_out least [] = record { left_out = 0; are = refl }
leaves_out least (n ∷ ns) = one_before least n ns (shortened (least - 1) ns) (leaves_out (least - 1) ns)

-- enough numbers are left
one_or_none : (least n : ℕ) (drops : Bool) → (drops ≡ true → least ≡ 0) → least ≤ 1
    → least ≤ length (cond drops [] (n ∷ []))
one_or_none least n true none small = let is : least ≡ 0 = none refl in omega arith
one_or_none least n false none small = omega arith

enough_before : (least n : ℕ) (written : List ℕ) → least - 1 ≤ length written
    → least ≤ length (number_before least n written)
enough_before least n [] h = search (rules, one_or_none, eqb-true, and_parts)
enough_before least n (m ∷ ms) h = omega arith

pub enough_are_left : (least : ℕ) (ns : List ℕ) → least ≤ length ns → least ≤ length (shortened least ns)
enough_are_left least [] h = h
enough_are_left least (n ∷ ns) h =
    enough_before least n (shortened (least - 1) ns) (enough_are_left (least - 1) ns (omega arith))

-- what holds of all holds of those that are left
left_of_one : (P : ℕ → Type 0) (n : ℕ) (drops : Bool) → P n → AllByRecursion P (cond drops [] (n ∷ []))
left_of_one P n true p = tt
left_of_one P n false p = (p, tt)

all_before : (P : ℕ → Type 0) (least n : ℕ) (written : List ℕ) → P n → AllByRecursion P written
    → AllByRecursion P (number_before least n written)
all_before P least n [] p all = left_of_one P n (eqb least 0 && eqb n 0) p
all_before P least n (m ∷ ms) p all = (p, all)

pub all_left : (P : ℕ → Type 0) (least : ℕ) (ns : List ℕ) → AllByRecursion P ns → AllByRecursion P (shortened least ns)
all_left P least [] all = tt
all_left P least (n ∷ ns) all =
    all_before P least n (shortened (least - 1) ns) all.0 (all_left P (least - 1) ns all.1)

-- a zero after as many as have to be there is left out
zero_is_left_out : (least end : ℕ) (ns : List ℕ) → least ≤ end → end < length ns → get_or ns end 0 ≡ 0
    → shortened least (take (suc end) ns) ≡ shortened least (take end ns)
zero_is_left_out least end [] low high is = absurd (omega arith)
zero_is_left_out least zero (n ∷ ns) low high is = rw (eq-eqb least 0 (omega arith), eq-eqb n 0 is) refl
zero_is_left_out least (suc end) (n ∷ ns) low high is =
    ap (number_before least n) (zero_is_left_out (least - 1) end ns (omega arith) (omega arith) is)

-- nothing is left out of numbers that all have to be there, and none where the last one is not 0
needed_before : (least n : ℕ) (ns : List ℕ) → 0 < least → number_before least n ns ≡ n ∷ ns
needed_before least n [] some = rw (ne_eqb least 0 (λ e. omega arith)) refl
needed_before least n (m ∷ ms) some = refl

needed_are_left : (least : ℕ) (ns : List ℕ) → length ns ≤ least → shortened least ns ≡ ns
needed_are_left least [] h = refl
needed_are_left least (n ∷ ns) h =
    ap (number_before least n) (needed_are_left (least - 1) ns (omega arith)) ∙ needed_before least n ns (omega arith)

last_is_left : (least end : ℕ) (ns : List ℕ) → end < length ns → get_or ns end 0 ≢ 0
    → shortened least (take (suc end) ns) ≡ take (suc end) ns
last_is_left least zero (n ∷ ns) high is = rw (ne_eqb n 0 is, and_no (eqb least 0)) refl
last_is_left least (suc end) (n ∷ m ∷ ns) high is =
    ap (number_before least n) (last_is_left (least - 1) end (m ∷ ns) (omega arith) is)
last_is_left least end xs high is = absurd (omega arith)

-- the same at an end that is moved to the front
pub one_less : (least end : ℕ) (ns : List ℕ) → least < end → end ≤ length ns → get_or ns (end - 1) 0 ≡ 0
    → shortened least (take (end - 1) ns) ≡ shortened least (take end ns)
one_less least end ns low high is = grind (arith, common_steps, zero_is_left_out)

pub no_less : (least end : ℕ) (ns : List ℕ) → least < end → end ≤ length ns → get_or ns (end - 1) 0 ≢ 0
    → shortened least (take end ns) ≡ take end ns
no_less least end ns low high is = search (rules, last_is_left)

pub all_needed : (least end : ℕ) (ns : List ℕ) → end ≤ least → shortened least (take end ns) ≡ take end ns
all_needed least end ns low = needed_are_left least (take end ns) (simp length-take (omega arith))

pub ruleset shortening = (one_less, no_less, all_needed)

-- The parts of a text, one after another.

-- numbers after spaces, and the line feed
pub more_text : (ns : List ℕ) → flat_map spaced_number ns ++ codes "\n" ≡ more_numbers_text ns
more_text [] = refl
more_text (n ∷ ns) = search (rules, append_assoc, more_text ns)

-- the lines of the sections between latches and gates, section by section
pub literal_sections_text : (c : Circuit)
    → flat_map (λ n. numbers_text (literal_row n)) c.outputs
    ++ (flat_map (λ n. numbers_text (literal_row n)) c.bad
    ++ (flat_map (λ n. numbers_text (literal_row n)) c.constraints
    ++ (flat_map (λ n. numbers_text (size_row n)) c.justice.sizes
    ++ (flat_map (λ n. numbers_text (literal_row n)) c.justice.literals
    ++ flat_map (λ n. numbers_text (literal_row n)) c.fairness))))
    ≡ flat_map line_text (literal_rows_of c)
literal_sections_text c = simp (flat_map-append, flat_map-map, append-nil)

-- the lines of all sections
pub sections_text : (c : Circuit)
    → flat_map (λ x. numbers_text (input_row x)) c.inputs
    ++ (flat_map (λ x. row_text 1 (latch_row x)) c.latches
    ++ (flat_map line_text (literal_rows_of c)
    ++ flat_map (λ x. numbers_text (gate_row x)) c.gates))
    ≡ flat_map line_text (rows_of c)
sections_text c = simp (flat_map-append, flat_map-map, append-nil, append_assoc)
