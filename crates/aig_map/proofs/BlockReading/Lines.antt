-- The lines of a map block: the text of each is read as what it tells, and what is read is the text of what it tells.
use Rattle.std.proofs.Common.{◌≡◌, ◌<◌, ◌≤◌, ◌^◌, ◌+◌, ◌-◌, ◌&&◌, ◌∷◌, ◌++◌, ◌∙◌, ◌==◌, rules, ℕ, zero, suc, Bool, true}
use Rattle.std.proofs.Common.{false, eqb, arith, append_assoc, List, [], length, get_or, drop, Option, Some, refl, sym}
use Rattle.std.proofs.Common.{ap, subst, map, None, Ok, Result, Err, append-nil, decimal, nat_lt, nat_le, Decides}
use Rattle.std.proofs.Common.{flat_map, leb-true, le-leb}
use Rattle.std.specs.List.{AllByRecursion}
use Rattle.std.proofs.lemmas.Bool.Decides.{Decides-and}
use Rattle.std.proofs.lemmas.Fmt.{decimal_digit}
use Rattle.std.proofs.lemmas.Option.{cond_some}
use Rattle.aig_circuit.specs.declared.circuit.TheConstants.{LARGEST}
use Rattle.aig_circuit.specs.Wellformed.{IsVariableUpTo}
use Rattle.aig_rows.specs.CanonicalNumber.{canonical_before}
use Rattle.aig_rows.proofs.Canonical.{canonical_is_read, canonical_reads}
use Rattle.aig_rows.proofs.Grammar.NumberLines.{some_then}
use Rattle.aig_rows.proofs.Steps.{both_ok}
use Rattle.aig_text.specs.AsciiText.{numbers_text}
use Rattle.aig_map.specs.declared.map_block.MappedGate.{MappedGate}
use Rattle.aig_map.specs.MapBlock.{one_if, variable_row, mapped_row}
use Rattle.aig_map.specs.MapSpelling.{number_at, last_number_at, is_variable, variable_at, gate_at}
use Rattle.aig_fault.specs.declared.fault.Fault.{Fault}
use Rattle.aig_map.specs.MapReading.{◌>>=◌, or_else, entries_at}
use Rattle.aig_map.specs.MapReading.{bad_line}

-- the line of these numbers, and what follows it
abbrev pub line : List ℕ → List ℕ → List ℕ
line ns rest = numbers_text ns ++ rest

-- numbers that are recorded apart from others
abbrev IsSmall : ℕ → Type 0
IsSmall n = n < 2 ^ 33

-- a number with others after it in its line, and the last one of a line, are read
pub number_is_read : (n m : ℕ) (ns rest : List ℕ) → IsSmall n
    → number_at (line (n ∷ m ∷ ns) rest) ≡ Some (n, line (m ∷ ns) rest)
number_is_read n m ns rest small = search (rules, append_assoc, canonical_is_read)

pub last_is_read : (n : ℕ) (rest : List ℕ) → IsSmall n → last_number_at (line (n ∷ []) rest) ≡ Some (n, rest)
last_is_read n rest small = search (rules, append_assoc, canonical_is_read)

-- so one of two digits is, by its own byte and the line feed after it
pub flag_is_read : (bytes : List ℕ) → 1 < length bytes → get_or bytes 1 0 ≡ 10 → 48 ≤ get_or bytes 0 0
    → get_or bytes 0 0 ≤ 49 → last_number_at bytes ≡ Some (get_or bytes 0 0 - 48, drop 2 bytes)
flag_is_read [] long ends low high = absurd (omega (arith, long))
flag_is_read (a ∷ []) long ends low high = absurd (omega (arith, long))
flag_is_read (a ∷ b ∷ rest) long ends low high =
    let digit : 48 + (a - 48) ≡ a = omega (arith, low) in
    let spelled = decimal_digit (a - 48) (omega (arith, high)) ∙ ap (λ (d : ℕ). d ∷ []) digit in
    ap (λ (e : ℕ). canonical_before 10 (a ∷ e ∷ rest)) ends
    ∙ ap (λ (digits : List ℕ). canonical_before 10 (digits ++ 10 ∷ rest)) (sym spelled)
    ∙ canonical_is_read (a - 48) 10 rest (omega (arith, high)) refl

-- and where they are read, they stand there
pub number_reads : (n m : ℕ) (ns bytes after rest : List ℕ) → IsSmall n → number_at bytes ≡ Some (n, after)
    → after ≡ line (m ∷ ns) rest → bytes ≡ line (n ∷ m ∷ ns) rest
number_reads n m ns bytes after rest small h others = search (rules, canonical_reads, append_assoc)

pub last_reads : (n : ℕ) (bytes rest : List ℕ) → IsSmall n → last_number_at bytes ≡ Some (n, rest)
    → bytes ≡ line (n ∷ []) rest
last_reads n bytes rest small h =
    canonical_reads n 10 bytes rest small h ∙ sym (append_assoc (decimal n) (10 ∷ []) rest)

-- the number of a flag, and back
pub one_if_recorded : (t : Bool) → eqb (one_if t) 1 ≡ t
one_if_recorded true = refl
one_if_recorded false = refl

pub one_if_small : (t : Bool) → one_if t ≤ 1
one_if_small true = omega arith
one_if_small false = omega arith

pub bit_recorded : (n : ℕ) → n ≤ 1 → one_if (eqb n 1) ≡ n
bit_recorded zero low = refl
bit_recorded (suc zero) low = refl
bit_recorded (suc (suc n)) low = absurd (omega arith)

-- a line that tells x, which is good, and what follows it
abbrev pub IsLineOf : {T : Type 0} → (T → List ℕ) → (T → Type 0) → List ℕ → T × List ℕ → Type 0
IsLineOf row Good bytes x = Good x.0 × (bytes ≡ line (row x.0) x.1)

-- a line is read exactly where it is the text of something good, which it tells
pub record IsExact {T : Type 0} (entry : List ℕ → Option (T × List ℕ)) (row : T → List ℕ) (Good : T → Type 0)
    : Type 0 where
  pub is_read : (x : T) (rest : List ℕ) → Good x → entry (line (row x) rest) ≡ Some (x, rest)
  pub reads : (bytes : List ℕ) (x : T × List ℕ) → entry bytes ≡ Some x → IsLineOf row Good bytes x

-- the tests of a variable, and of the numbers of a gate
pub at_most : (a b : ℕ) → Decides (nat_le a b) (a ≤ b)
at_most a b = (leb-true a b, le-leb a b)

variable_test : (m v : ℕ) → Decides (is_variable m v) (IsVariableUpTo m v)
variable_test m v = Decides-and (nat_le 1 v) (nat_le v m) (at_most 1 v) (at_most v m)

gate_test : (m count v place flag : ℕ)
    → Decides (is_variable m v && (nat_lt place count && nat_le flag 1))
    (IsVariableUpTo m v × ((place < count) × (flag ≤ 1)))
gate_test m count v place flag = search (rules, variable_test, at_most)

module _ (m : ℕ) (few : m ≤ LARGEST) where
  variable_is_read : (v : ℕ) (rest : List ℕ) → IsVariableUpTo m v
      → variable_at m (line (variable_row v) rest) ≡ Some (v, rest)
  unfolding variable_at
  variable_is_read v rest good = rw (last_is_read v rest (omega (arith, good.1, few)), (variable_test m v).1 good) refl

  variable_reads : (bytes : List ℕ) (x : ℕ × List ℕ) → variable_at m bytes ≡ Some x
      → IsLineOf variable_row (IsVariableUpTo m) bytes x
  unfolding variable_at
  variable_reads bytes x h = search (rules, some_then, cond_some, variable_test, last_reads)

  -- the lines of inputs and latches
  pub variables_are_exact : IsExact (variable_at m) variable_row (IsVariableUpTo m)
  variables_are_exact = record { is_read = variable_is_read; reads = variable_reads }

  -- what the line of a gate may tell, where there are so many
  module _ (count : ℕ) (fit : count ≤ LARGEST) where
    abbrev pub IsGoodGate : MappedGate → Type 0
    IsGoodGate g = IsVariableUpTo m g.var × (g.place < count)

    gate_is_read : (g : MappedGate) (rest : List ℕ) → IsGoodGate g
        → gate_at m count (line (mapped_row g) rest) ≡ Some (g, rest)
    unfolding gate_at
    gate_is_read g rest good =
        let flag : ℕ = one_if g.exchanged in
        let bit : flag ≤ 1 = one_if_small g.exchanged in
        rw (
          number_is_read g.var g.place (flag ∷ []) rest (omega (arith, good.0.1, few)),
          number_is_read g.place flag [] rest (omega (arith, good.1, fit)),
          last_is_read flag rest (omega (arith, bit)),
          (gate_test m count g.var g.place flag).1 (good.0, (good.1, bit)),
          one_if_recorded g.exchanged,
        ) refl

    gate_reads : (bytes : List ℕ) (x : MappedGate × List ℕ) → gate_at m count bytes ≡ Some x
        → IsLineOf mapped_row IsGoodGate bytes x
    unfolding gate_at
    gate_reads bytes x h =
        let a = some_then (number_at bytes) _ _ h in
        let b = some_then (number_at a.0.1) _ _ a.2 in
        let d = some_then (last_number_at b.0.1) _ _ b.2 in
        let t = cond_some _ _ x d.2 in
        let good : IsVariableUpTo m a.0.0 × ((b.0.0 < count) × (d.0.0 ≤ 1)) =
        (gate_test m count a.0.0 b.0.0 d.0.0).0 t.0 in
        let low : b.0.0 < count = good.1.0 in
        let bit : d.0.0 ≤ 1 = good.1.1 in
        let last : b.0.1 ≡ line (d.0.0 ∷ []) d.0.1 = last_reads d.0.0 b.0.1 d.0.1 (omega (arith, bit)) d.1 in
        let place : a.0.1 ≡ line (b.0.0 ∷ d.0.0 ∷ []) d.0.1 =
        number_reads b.0.0 d.0.0 [] a.0.1 b.0.1 d.0.1 (omega (arith, low, fit)) b.1 last in
        let text : bytes ≡ line (a.0.0 ∷ b.0.0 ∷ d.0.0 ∷ []) d.0.1 =
        number_reads a.0.0 b.0.0 (d.0.0 ∷ []) bytes a.0.1 d.0.1 (omega (arith, good.0.1, few)) a.1 place in
        let flag : line (a.0.0 ∷ b.0.0 ∷ d.0.0 ∷ []) d.0.1 ≡ line (a.0.0 ∷ b.0.0 ∷ one_if (d.0.0 == 1) ∷ []) d.0.1 =
        λ j. line (a.0.0 ∷ b.0.0 ∷ sym (bit_recorded d.0.0 bit) j ∷ []) d.0.1 in
        subst (IsLineOf mapped_row IsGoodGate bytes) t.1 ((good.0, low), text ∙ flag)

    -- the lines of gates
    pub gates_are_exact : IsExact (gate_at m count) mapped_row IsGoodGate
    gates_are_exact = record { is_read = gate_is_read; reads = gate_reads }

-- So many lines of a map block: their text is read as what they tell, and what is read is their text.

-- what is there where no fault is
pub there : {A : Type 0} (fault : Fault) (x : Option A) (y : A) → or_else fault x ≡ Ok y → x ≡ Some y
there fault None y h = cc
there fault (Some x) y h = cc

-- the lines of such things, and what follows them
abbrev pub lines : {T : Type 0} → (T → List ℕ) → List T → List ℕ → List ℕ
lines row xs rest = flat_map numbers_text (map row xs) ++ rest

-- lines that tell so many good things, and what follows them
pub record AreLinesOf {T : Type 0} (row : T → List ℕ) (Good : T → Type 0) (count : ℕ) (bytes : List ℕ)
    (r : List T × List ℕ) : Type 0 where
  pub long : length r.0 ≡ count
  pub good : AllByRecursion Good r.0
  pub text : bytes ≡ lines row r.0 r.1

module _ {T : Type 0} {entry : List ℕ → Option (T × List ℕ)} {row : T → List ℕ} {Good : T → Type 0}
    (exact : IsExact entry row Good) where
  first_line : (x : T) (xs : List T) (rest : List ℕ) → lines row (x ∷ xs) rest ≡ line (row x) (lines row xs rest)
  first_line x xs rest = append_assoc (numbers_text (row x)) (flat_map numbers_text (map row xs)) rest

  pub entries_are_read : (xs : List T) (number : ℕ) (rest : List ℕ) → AllByRecursion Good xs
      → entries_at entry number (length xs) (lines row xs rest) ≡ Ok (xs, rest)
  unfolding entries_at
  entries_are_read [] number rest good = refl
  entries_are_read (x ∷ xs) number rest good =
      let first = ap entry (first_line x xs rest) ∙ exact.is_read x (lines row xs rest) good.0 in
      rw (first, entries_are_read xs (number + 1) rest good.1) refl

  pub entries_read : (count number : ℕ) (bytes : List ℕ) (r : List T × List ℕ)
      → entries_at entry number count bytes ≡ Ok r → AreLinesOf row Good count bytes r
  unfolding entries_at
  entries_read zero number bytes r h = search rules
  entries_read (suc count) number bytes r h =
      let a = both_ok _ _ _ h in
      let b = both_ok _ _ _ a.2 in
      let is : (a.0.0 ∷ b.0.0, b.0.1) ≡ r = cc in
      let first : IsLineOf row Good bytes a.0 = exact.reads bytes a.0 (there _ (entry bytes) a.0 a.1) in
      let others : AreLinesOf row Good count a.0.1 b.0 = entries_read count (number + 1) a.0.1 b.0 b.1 in
      subst (AreLinesOf row Good (suc count) bytes) is (
      record {
        long = ap suc others.long;
        good = (first.0, others.good);
        text = first.1 ∙ ap (line (row a.0.0)) others.text ∙ sym (first_line a.0.0 b.0.0 b.0.1);
      }
      )

-- what so many lines tell, and what follows them
abbrev pub Read : Type 0 → Type 0
Read T = Result (List T × List ℕ) Fault

module _ {T : Type 0} where
  -- what is read after what was found before
  abbrev pub behind_found : List T → Read T → Read T
  behind_found found (Ok x) = Ok (found ++ x.0, x.1)
  behind_found found (Err e) = Err e

  -- an entry goes after what was found, or before what comes
  found_first : (found : List T) (x : T) (r : Read T)
      → behind_found (found ++ x ∷ []) r
      ≡ behind_found found (◌>>=◌ {B = List T × List ℕ} r (λ y. Ok (x ∷ y.0, y.1)))
  found_first found x (Ok y) = ap (λ (xs : List T). Ok (xs, y.1)) (append_assoc found (x ∷ []) y.0)
  found_first found x (Err e) = refl

  module _ (entry : List ℕ → Option (T × List ℕ)) (i count line : ℕ) (bytes : List ℕ) (found : List T) where
    -- what is read from here on, after what was found
    abbrev from_here : Read T
    from_here = behind_found found (entries_at entry (line + i) (count - i) bytes)

    -- one more line
    pub entries_more : (after : List ℕ) (x : T) → i < count → entry bytes ≡ Some (x, after)
        → behind_found (found ++ x ∷ []) (entries_at entry (line + (i + 1)) (count - (i + 1)) after) ≡ from_here
    unfolding entries_at
    entries_more after x l h =
        let one : count - i ≡ suc (count - (i + 1)) = omega arith in
        let next : line + (i + 1) ≡ line + i + 1 = omega arith in
        rw (one, h, next) (found_first found x (entries_at entry (line + i + 1) (count - (i + 1)) after))

    -- a line that is not of its form
    pub entries_wrong : (whole : Read T) → i < count → entry bytes ≡ None → from_here ≡ whole
        → whole ≡ Err (bad_line (line + i))
    unfolding entries_at
    entries_wrong whole l h is =
        let one : count - i ≡ suc (count - (i + 1)) = omega arith in
        sym is ∙ rw (one, h) refl

    -- no line is left
    pub entries_done : (whole : Read T) → count ≤ i → from_here ≡ whole → whole ≡ Ok (found, bytes)
    unfolding entries_at
    entries_done whole l is =
        let none : count - i ≡ 0 = omega arith in
        sym is ∙ rw none (ap (λ (xs : List T). Ok (xs, bytes)) (append-nil found))
