-- The rows of an invariant's file, and its lines one after the other.
use Rattle.std.proofs.Common.{◌≡◌, ◌≢◌, ◌<◌, ◌≤◌, ◌+◌, ◌-◌, ◌++◌, ◌∙◌, ◌∷◌, ◌&&◌, ◌||◌, ◌==◌, ℕ, List, [], Bool, true}
use Rattle.std.proofs.Common.{false, Option, None, Some, Result, Ok, Err, ap, arith, codes, drop, inl, inr, length, map}
use Rattle.std.proofs.Common.{if◌then◌else◌, refl, rules, subst, suc, sym, take, drop-cons, get_or, min}
use Rattle.std.proofs.Math.ListN.{drop_of_length-le}
use Rattle.std.specs.Prelude.{option_and_then, option_map}
use Rattle.std.specs.Str.{bytes_eq}
use Rattle.std.proofs.lemmas.Bool.{cases_lt}
use Rattle.std.proofs.lemmas.List.{length-append, length-drop, take-append-drop, length-map}
use Rattle.std.proofs.lemmas.Slice.Eq.{bytes_eq-Decides}
use Rattle.aig_circuit.specs.declared.circuit.Latch.{Latch}
use Rattle.aig_circuit.specs.declared.circuit.Reset.{Reset}
use Rattle.aig_circuit.specs.declared.value.Val.{Val}
use Rattle.aig_circuit.specs.declared.value.Val.TheVariants.{Zero, One, X}
use Rattle.aig_fault.specs.declared.fault.Fault.{Fault}
use Rattle.aig_fault.specs.declared.kind.Kind.TheVariants.{BadInvariant, MetAtStart, NotEachLatch}
use Rattle.aig_lines.specs.Lines.{Line, line}
use Rattle.aig_invariant.specs.Invariant.{is_off_start, starts_apart, Cube}
use Rattle.aig_invariant.specs.InvariantText.{asked_value, cube_in, cubes_from, fault_in, is_passed, joined, row_says}
use Rattle.aig_invariant.specs.Parts.Rows.{IsRightLine, IsWrongLine, are_values, cube_at, cubes_at, is_row, is_value}
use Rattle.aig_invariant.specs.Parts.Rows.{row_of, value_or_x}

-- ---- rows

abbrev one_end : List ℕ
one_end = codes " 1"

-- what is longer or shorter is not the end of a row
not_end : (bs : List ℕ) → length bs ≢ 2 → bytes_eq bs one_end ≡ false
not_end bs other = elim (bytes_eq bs one_end) as (λ t. bytes_eq bs one_end ≡ t → t ≡ false) [
  | true ↦ λ is. absurd (other (ap length ((bytes_eq-Decides bs one_end).0 is)))
  | false ↦ λ is. refl
] refl

-- one character after which this comes
abbrev behind_character : ℕ → Option Cube → Option Cube
behind_character b rest = option_and_then (λ (v : Val). option_map (λ (vs : Cube). v ∷ vs) rest) (asked_value b)

by_tests : (zero_there one_there none_there : Bool) (rest : Option Cube)
    → option_and_then (λ (v : Val). option_map (λ (vs : Cube). v ∷ vs) rest)
    (if zero_there then Some Zero else if one_there then Some One else if none_there then Some X else None)
    ≡ (if zero_there || (one_there || none_there)
    then option_map (λ (vs : Cube). (if zero_there then Zero else if one_there then One else X) ∷ vs) rest else None)
by_tests true u w rest = refl
by_tests false true w rest = refl
by_tests false false true rest = refl
by_tests false false false rest = refl

one_value : (b : ℕ) (rest : Option Cube)
    → behind_character b rest
    ≡ (if is_value b then option_map (λ (vs : Cube). value_or_x b ∷ vs) rest else None)
one_value b rest = by_tests (b == 48) (b == 49) (b == 45) rest

abbrev no_cube : Option Cube
no_cube = None

none_either : (t : Bool) → (if t then no_cube else no_cube) ≡ no_cube
none_either true = refl
none_either false = refl

none_behind : (b : ℕ) → behind_character b None ≡ None
none_behind b = one_value b None ∙ none_either (is_value b)

first_of : (b : ℕ) (bs : List ℕ) → length (b ∷ bs) ≢ 2 → cube_in (b ∷ bs) ≡ behind_character b (cube_in bs)
first_of b bs other = rw (not_end (b ∷ bs) other) refl

none_of_one : (b : ℕ) → cube_in (b ∷ []) ≡ None
none_of_one b = first_of b [] (λ e. absurd (omega (arith, e))) ∙ none_behind b

-- a test for the end, a test of the character, and one of the others
by_three : (end first others : Bool) (v : Val) (cube : Cube)
    → (if first then option_map (λ (vs : Cube). v ∷ vs) (if end && others then Some cube else None) else None)
    ≡ (if end && (first && others) then Some (v ∷ cube) else None)
by_three true true true v cube = refl
by_three true true false v cube = refl
by_three true false others v cube = refl
by_three false true others v cube = refl
by_three false false others v cube = refl

by_end : (end : Bool) (otherwise : Option Cube) → otherwise ≡ None
    → (if end then Some [] else otherwise) ≡ (if end && true then Some [] else None)
by_end true otherwise none = refl
by_end false otherwise none = none

-- a row and its end
row_and_end : (row : List ℕ) (x y : ℕ) → cube_in (row ++ x ∷ y ∷ [])
    ≡ (if bytes_eq (x ∷ y ∷ []) one_end && are_values row then Some (map value_or_x row) else None)
row_and_end [] x y =
    by_end (bytes_eq (x ∷ y ∷ []) one_end) (behind_character x (cube_in (y ∷ [])))
    (ap (behind_character x) (none_of_one y) ∙ none_behind x)
row_and_end (b ∷ row) x y =
    first_of b (row ++ x ∷ y ∷ []) (λ e. absurd (omega (arith, e, length-append row (x ∷ y ∷ []))))
    ∙ one_value b (cube_in (row ++ x ∷ y ∷ []))
    ∙ ap (λ (c : Option Cube). if is_value b then option_map (λ (vs : Cube). value_or_x b ∷ vs) c else None)
    (row_and_end row x y)
    ∙ by_three (bytes_eq (x ∷ y ∷ []) one_end) (is_value b) (are_values row) (value_or_x b) (map value_or_x row)

abbrev by_row : List ℕ → List ℕ → Option Cube
by_row row end = if bytes_eq end one_end && are_values row then Some (map value_or_x row) else None

with_end : (row end : List ℕ) → length end ≡ 2 → cube_in (row ++ end) ≡ by_row row end
with_end row [] two = absurd (omega (arith, two))
with_end row (x ∷ []) two = absurd (omega (arith, two))
with_end row (x ∷ y ∷ []) two = row_and_end row x y
with_end row (x ∷ y ∷ z ∷ zs) two = absurd (omega (arith, two))

short_row : (text : List ℕ) → length text < 2 → cube_in text ≡ by_row [] text
short_row [] short = refl
short_row (b ∷ []) short =
    let false_then : bytes_eq (b ∷ []) one_end ≡ false = not_end (b ∷ []) (λ e. absurd (omega (arith, e))) in
    rw false_then (none_behind b)
short_row (b ∷ c ∷ text) short = absurd (omega (arith, short))

pub row_is : (text : List ℕ) → cube_in text ≡ (if is_row text then Some (cube_at text) else None)
row_is text = elim (cases_lt (length text) 2) [
  | inl short ↦
      let none : length text - 2 ≡ 0 = omega arith in
      rw none (short_row text short)
  | inr long ↦
      let n = length text - 2 in
      let two : length (drop n text) ≡ 2 = omega (arith, length-drop n text, long) in
      subst (λ (t : List ℕ). cube_in t ≡ by_row (take n text) (drop n text)) (take-append-drop n text)
      (with_end (take n text) (drop n text) two)
]

-- ---- lines

-- what is said of these lines is said of those
pub record Leads (starts : List Reset) (n : ℕ) (ls : List Line) (m : ℕ) (ms : List Line) : Type 0 where
  pub ok : cubes_from starts m ms ≡ Ok (cubes_at ms) → cubes_from starts n ls ≡ Ok (cubes_at ls)
  pub err : (fault : Fault) → cubes_from starts m ms ≡ Err fault → cubes_from starts n ls ≡ Err fault

pub leads_on : {starts : List Reset} {n m k : ℕ} {ls ms ks : List Line} → Leads starts n ls m ms
    → Leads starts m ms k ks → Leads starts n ls k ks
leads_on a b = record { ok = λ e. a.ok (b.ok e); err = λ fault e. a.err fault (b.err fault e) }

-- by the test whether a line is passed over
abbrev from_line : Bool → Result Cube Fault → Result (List Cube) Fault
    → Result (List Cube) Fault
from_line passed said rest = if passed then rest else joined said rest

abbrev with_its : Bool → Cube → List Cube → List Cube
with_its passed cube rest = if passed then rest else cube ∷ rest

line_ok : (passed : Bool) (said : Result Cube Fault) (cube : Cube) (cubes : List Cube)
    → (passed ≡ false → said ≡ Ok cube) → from_line passed said (Ok cubes) ≡ Ok (with_its passed cube cubes)
line_ok true said cube cubes right = refl
line_ok false said cube cubes right = rw (right refl) refl

line_err : (passed : Bool) (said : Result Cube Fault) (cube : Cube) (fault : Fault)
    → (passed ≡ false → said ≡ Ok cube) → from_line passed said (Err fault) ≡ Err fault
line_err true said cube fault right = refl
line_err false said cube fault right = rw (right refl) refl

pub right_line : (starts : List Reset) (n : ℕ) (text : List ℕ) (ended : Bool) (ls : List Line)
    → IsRightLine starts n text → Leads starts n (line text ended ∷ ls) (n + 1) ls
right_line starts n text ended ls right = record {
  ok = λ e.
      ap (from_line (is_passed text) (row_says starts n (cube_in text))) e
      ∙ line_ok (is_passed text) (row_says starts n (cube_in text)) (cube_at text) (cubes_at ls) right;
  err = λ fault e.
      ap (from_line (is_passed text) (row_says starts n (cube_in text))) e
      ∙ line_err (is_passed text) (row_says starts n (cube_in text)) (cube_at text) fault right;
}

pub wrong_line : (starts : List Reset) (n : ℕ) (text : List ℕ) (ended : Bool) (ls : List Line) (fault : Fault)
    → IsWrongLine starts n text fault → cubes_from starts n (line text ended ∷ ls) ≡ Err fault
wrong_line starts n text ended ls fault wrong = rw (wrong.0, wrong.1) refl

-- ---- off the start

abbrev off : List Latch → List ℕ → Bool
off ls row = is_off_start (map (λ (l : Latch). l.reset) ls) (map value_or_x row)

none_asked : (rs : List Reset) → is_off_start rs [] ≡ false
none_asked [] = refl
none_asked (r ∷ rs) = refl

pub off_at_end : (i : ℕ) (ls : List Latch) (row : List ℕ) → min (length ls) (length row) ≤ i
    → off (drop i ls) (drop i row) ≡ false
off_at_end i ls row over = elim (cases_lt i (length ls)) [
  | inl more ↦
      let short : length row ≤ i = omega arith in
      let none : drop i row ≡ [] = drop_of_length-le row short in
      rw none (none_asked (map (λ (l : Latch). l.reset) (drop i ls)))
  | inr short ↦ let none : drop i ls ≡ [] = drop_of_length-le ls short in rw none refl
]

pub off_next : (i : ℕ) (ls : List Latch) (row : List ℕ) (d : Latch) → i < length ls → i < length row
    → off (drop i ls) (drop i row)
    ≡ (starts_apart (get_or ls i d).reset (value_or_x (get_or row i 0)) || off (drop (i + 1) ls) (drop (i + 1) row))
off_next i ls row d of_latches of_row =
    let next : i + 1 ≡ suc i = omega arith in rw (next, drop-cons ls i d of_latches, drop-cons row i 0 of_row) refl

-- ---- what is said of a row

pub says_bad : (starts : List Reset) (n : ℕ) (text : List ℕ) → is_row text ≡ false
    → row_says starts n (cube_in text) ≡ Err (fault_in BadInvariant n)
says_bad starts n text bad = rw (row_is text, bad) refl

many : (text : List ℕ) → length (cube_at text) ≡ length (row_of text)
many text = length-map (row_of text) value_or_x

differs : (m n : ℕ) → m ≢ n → (m == n) ≡ false
differs m n apart = search (rules, apart)

same_number : (m n : ℕ) → m ≡ n → (m == n) ≡ true
same_number m n same = search (rules, same)

pub says_other : (starts : List Reset) (n : ℕ) (text : List ℕ) → is_row text ≡ true
    → length (row_of text) ≢ length starts → row_says starts n (cube_in text) ≡ Err (fault_in NotEachLatch n)
says_other starts n text is apart =
    let false_then : (length (cube_at text) == length starts) ≡ false =
    differs (length (cube_at text)) (length starts) (λ e. apart (sym (many text) ∙ e)) in
    rw (row_is text, is, false_then) refl

pub says_off : (starts : List Reset) (n : ℕ) (text : List ℕ) (off_start : Bool) → is_row text ≡ true
    → length (row_of text) ≡ length starts → off_start ≡ is_off_start starts (cube_at text)
    → row_says starts n (cube_in text) ≡ (if off_start then Ok (cube_at text) else Err (fault_in MetAtStart n))
says_off starts n text off_start is same off_is =
    let fits : (length (cube_at text) == length starts) ≡ true =
    same_number (length (cube_at text)) (length starts) (many text ∙ same) in
    rw (row_is text, is, fits, off_is) refl
