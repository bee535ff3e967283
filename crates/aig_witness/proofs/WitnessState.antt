-- Telling the lines of a witness file is saying what they say, and one that is too long is not due.
use Rattle.std.proofs.Common.{◌≡◌, ◌≢◌, ◌+◌, ◌-◌, ◌*◌, ◌<◌, ◌≤◌, ◌==◌, ◌&&◌, ◌∷◌, ◌∙◌, if◌then◌else◌, rules, ℕ, zero}
use Rattle.std.proofs.Common.{suc, List, [], Bool, true, false, length, Option, Some, None, refl, sym, ap, arith, take}
use Rattle.std.proofs.Common.{drop, codes, bytes_eq, fold, not, nat_le, nat_lt, option_map, Result, Ok, Err, subst}
use Rattle.std.specs.List.{list_all}
use Rattle.std.proofs.lemmas.Bool.{eqb-false, false_from_ne_true, leb-true, ltb-true, cases_lt, le-leb, lt-leb}
use Rattle.std.proofs.lemmas.Slice.Eq.{bytes_eq-Decides}
use Rattle.std.proofs.lemmas.List.{take-append-drop}
use Rattle.std.proofs.lemmas.List.Sums.{fold-append}
use Rattle.aig_circuit.specs.declared.circuit.TheConstants.{LARGEST}
use Rattle.aig_circuit.specs.declared.circuit.Circuit.{Circuit}
use Rattle.aig_lines.specs.Lines.{Line}
use Rattle.aig_lines.specs.Feeders.{Feeder, HasFoldedLines}
use Rattle.aig_lines.specs.Feeding.{Folded, Turn, checked_line, fold_lines, folded_to}
use Rattle.aig_lines.specs.Texts.{judged_lines, text_of}
use Rattle.aig_rows.specs.Spelling.{is_digit, value_of}
use Rattle.aig_step.proofs.LineValues.{too_long_text}
use Rattle.aig_witness.specs.Witness.{Nothing, Property, Said, Shape, Steps, Version, Whole, begun_at, is_canonical}
use Rattle.aig_witness.specs.Witness.{number_below, property_by, said_with, with_entry, first_bad_line}
use Rattle.aig_witness.specs.Witness.{said_behind, said_by, shape_of, witness_of, wrong_line}
use Rattle.aig_witness.specs.Parts.Witnessing.{digits_below, longest_line, HasWitnessState, WitnessState, NotDue}
use Rattle.aig_witness.specs.Parts.Witnessing.{TookDue}
use Rattle.aig_witness.specs.Parts.Witnessing.{Witnessing, said_turn, witness_state, witness_step}
use Rattle.aig_witness.proofs.Witnessing.{no_first_state, both as two}

abbrev spell : ℕ → ℕ → ℕ
spell v b = 10 * v + (b - 48)

-- m with so many zeros after it
tens : ℕ → ℕ → ℕ
tens m zero = m
tens m (suc k) = tens (10 * m) k

tens_grow : (m k : ℕ) → m ≤ tens m k
unfolding tens
tens_grow m zero = omega arith
tens_grow m (suc k) = omega (arith, tens_grow (10 * m) k)

-- digits after a number
spelled_behind : (m n : ℕ) (ds : List ℕ) → m ≤ n → tens m (length ds) ≤ fold spell n ds
unfolding tens
spelled_behind m n [] low = low
spelled_behind m n (d ∷ ds) low = spelled_behind (10 * m) (10 * n + (d - 48)) ds (omega arith)

spell_grows : (n : ℕ) (ds : List ℕ) → n ≤ fold spell n ds
spell_grows n [] = omega arith
spell_grows n (d ∷ ds) = omega (arith, spell_grows (10 * n + (d - 48)) ds)

-- digits after others do not make the number smaller
pub spelled_front : (text : List ℕ) (i : ℕ) → value_of (take i text) ≤ value_of text
spelled_front text i =
    let whole : value_of text ≡ fold spell (value_of (take i text)) (drop i text) =
    ap (fold spell 0) (sym (take-append-drop i text)) ∙ fold-append spell 0 (take i text) (drop i text) in
    omega (arith, whole, spell_grows (value_of (take i text)) (drop i text))

-- a number that is too large is none
by_order : (low : Bool) (n : ℕ) → (low ≡ true → ⊥) → (if low then Some n else None) ≡ None
by_order true n never = absurd (never refl)
by_order false n never = refl

too_high : (digits : Bool) (n bound : ℕ) → bound ≤ n → (if digits && nat_lt n bound then Some n else None) ≡ None
too_high true n bound high = by_order (nat_lt n bound) n (λ low. absurd (omega (arith, ltb-true n bound low, high)))
too_high false n bound high = refl

pub digits_high : (bound : ℕ) (text : List ℕ) → bound ≤ value_of text → digits_below bound text ≡ None
digits_high bound text high = too_high (list_all is_digit text) (value_of text) bound high

-- a canonical number of many digits is large
tens_on : (m j k : ℕ) → tens m (j + k) ≡ tens (tens m j) k
unfolding tens
tens_on m zero k = let same : 0 + k ≡ k = omega arith in ap (tens m) same
tens_on m (suc j) k = let same : suc j + k ≡ suc (j + k) = omega arith in ap (tens m) same ∙ tens_on (10 * m) j k

three : (a b d : Bool) → (a && b && d) ≡ true → (b ≡ true) × (d ≡ true)
three true true true is = (refl, refl)
three true true false is = cc
three true false d is = cc
three false b d is = cc

not_padding : (digit padding : Bool) → digit ≡ true → not (digit && padding) ≡ true → padding ≡ false
not_padding true true is unpadded = cc
not_padding true false is unpadded = refl
not_padding false padding is unpadded = cc

canonical_first : (a b : ℕ) (bs : List ℕ) → is_canonical (a ∷ b ∷ bs) ≡ true → 1 ≤ a - 48
canonical_first a b bs is = search (rules, three, nat_lt, two, eqb-false, not_padding, leb-true, nat_le)

-- twelve digits or more
canonical_large : (text : List ℕ) → 11 < length text → is_canonical text ≡ true → 100000000000 ≤ value_of text
unfolding tens
canonical_large [] long is = absurd (omega arith)
canonical_large (a ∷ []) long is = absurd (omega arith)
canonical_large (a ∷ b ∷ bs) long is =
    let more = length (b ∷ bs) - 11 in
    let count : length (b ∷ bs) ≡ 11 + more = omega (arith, long) in
    omega (
      arith,
      spelled_behind 1 (10 * 0 + (a - 48)) (b ∷ bs) (omega (arith, canonical_first a b bs is)),
      ap (tens 1) count,
      tens_on 1 11 more,
      tens_grow (tens 1 11) more,
    )

not_below : (canonical : Bool) (n bound : ℕ) → (canonical ≡ true → bound ≤ n)
    → (if canonical && nat_lt n bound then Some n else None) ≡ None
not_below true n bound high = too_high true n bound (high refl)
not_below false n bound high = refl

number_long : (bound : ℕ) (text : List ℕ) → bound ≤ LARGEST → 11 < length text → number_below bound text ≡ None
number_long bound text few long = search (rules, not_below, canonical_large)

none_either : (begins : Bool) (o : Option ℕ) → o ≡ None → (if begins then o else None) ≡ None
none_either true o none = none
none_either false o none = refl

property_long : (letter count : ℕ) (text : List ℕ) → count ≤ LARGEST → 12 < length text
    → property_by letter count text ≡ None
property_long letter count [] few long = refl
property_long letter count (b ∷ bs) few long =
    none_either (b == letter) (number_below count bs) (number_long count bs few (omega (arith, long)))

other_text : (text word : List ℕ) → length text ≢ length word → bytes_eq text word ≡ false
other_text text word other =
    false_from_ne_true (bytes_eq text word) (λ e. other (ap length ((bytes_eq-Decides text word).0 e)))

-- a text that is too long is not due, whichever line is
pub long_due : (shape : Shape) (said : Said) (text : List ℕ) → shape.properties ≤ LARGEST
    → longest_line shape < length text → said_with shape said text ≡ None
long_due shape Nothing text few long =
    ap (λ (b : Bool). if b then Some Version else None) (other_text text (codes "1") (omega (arith, long)))
long_due shape Version text few long =
    ap (option_map Property) (property_long shape.letter shape.properties text few (omega (arith, long)))
long_due shape (Property p) text few long =
    ap (option_map (begun_at p)) (no_first_state shape.resets text (omega (arith, long)))
long_due shape (Steps claim) text few long =
    ap (option_map (with_entry claim)) (too_long_text shape.inputs text (omega (arith, long)))
long_due shape (Whole claim) text few long = refl

-- Telling the lines of a witness file is saying what they say.

-- a line was taken, or it is not due
module _ (w v : Witnessing) (h : WitnessState) (text : List ℕ) (at : HasWitnessState w h) where
  said_here : (o : Option Said) → said_with (shape_of w.circuit) h.said text ≡ o
      → witness_step h text ≡ said_turn h.circuit h.said o
  said_here o is =
      ap (said_turn h.circuit h.said) (ap (λ (d : Circuit). said_with (shape_of d) h.said text) (sym at.0) ∙ is)

  pub step_taken : (good : Bool) → (good ≡ true → TookDue w v h.said text) → (good ≡ false → NotDue w v h.said text)
      → HasWitnessState v (witness_step h text).state × (good ≡ (witness_step h text).goes_on)
  step_taken true took other = search (rules, said_here)
  step_taken false took other =
      let none = other refl in rw (said_here None none.none) ((none.circuit ∙ at.0, none.stands), refl)

-- a line that is too long is not due
checked_is : (h : WitnessState) (text : List ℕ) → length h.circuit.bad ≤ LARGEST
    → checked_line witness_step (longest_line (shape_of h.circuit)) h text ≡ witness_step h text
checked_is h text few = search (rules, cases_lt, lt-leb, long_due, le-leb)

-- what was folded is what is said, after lines up to this number
abbrev pub IsSaid : {S : Type 0} → (Said → S) → ℕ → Result Said ℕ → Folded S → Type 0
IsSaid state next (Ok said) t = t ≡ folded_to (state said) next false
IsSaid state next (Err number) t = (t.number ≡ number) × (t.refused ≡ true)

-- where what was folded is what the lines say of a file of this shape
module _ {T S : Type 0} (IsAt : T → S → Type 0) (state : Said → S) (shape : Shape) (bytes : List ℕ) (over : Bool)
    (f : Feeder) (w : T) where
  abbrev count : ℕ
  count = length (judged_lines bytes over)

  -- no line is wrong of those that are judged
  pub record IsRight : Type 0 where
    pub said : Said
    pub says : witness_of shape bytes over ≡ Ok said
    pub has_state : IsAt w (state said)
    pub number : f.number ≡ 1 + count

  wrong_by : (r : Result Said ℕ) (t : Folded S) → IsSaid state (1 + count) r t → t.refused ≡ true
      → wrong_line count over r ≡ Some t.number
  wrong_by (Ok said) t is refused = let none = ap (λ (u : Folded S). u.refused) is in cc
  wrong_by (Err number) t is refused = ap (λ (n : ℕ). Some n) (sym is.0)

  right_by : (r : Result Said ℕ) (t : Folded S) → witness_of shape bytes over ≡ r → IsSaid state (1 + count) r t
      → HasFoldedLines IsAt f w t → f.refused ≡ false → IsRight
  right_by (Ok said) t says is has going = record {
    said = said;
    says = says;
    has_state = subst (λ (u : Folded S). IsAt w u.state) is has.taker;
    number = has.number ∙ ap (λ (u : Folded S). u.number) is;
  }
  right_by (Err number) t says is has going =
      let one : f.refused ≡ true = has.refused ∙ is.1 in cc

  module _ (t : Folded S) (is : IsSaid state (1 + count) (witness_of shape bytes over) t)
      (stands : HasFoldedLines IsAt f w t) where
    -- one was refused, which is the first that is wrong
    pub one_wrong : f.refused ≡ true → first_bad_line shape bytes over ≡ Some f.number
    one_wrong refused =
        wrong_by (witness_of shape bytes over) t is (sym stands.refused ∙ refused)
        ∙ ap (λ (n : ℕ). Some n) (sym stands.number)

    -- none was refused
    pub none_wrong : f.refused ≡ false → IsRight
    none_wrong going = right_by (witness_of shape bytes over) t refl is stands going

module _ (c : Circuit) (few : length c.bad ≤ LARGEST) where
  abbrev limit : ℕ
  limit = longest_line (shape_of c)

  said_rest : (o : Option Said) (said : Said) (number next : ℕ) (ls : List Line)
      → ((s : Said) → IsSaid (witness_state c) next (said_by (shape_of c) (suc number) s ls)
      (fold_lines witness_step limit (witness_state c s) (suc number) ls))
      → (let t = said_turn c said o in
      IsSaid (witness_state c) next (said_behind number o (λ s. said_by (shape_of c) (suc number) s ls))
      (if t.goes_on then fold_lines witness_step limit t.state (suc number) ls else folded_to t.state number true))
  said_rest None said number next ls again = (refl, refl)
  said_rest (Some s) said number next ls again = again s

  pub folded_said : (ls : List Line) (said : Said) (number : ℕ)
      → IsSaid (witness_state c) (number + length ls) (said_by (shape_of c) number said ls)
      (fold_lines witness_step limit (witness_state c said) number ls)
  folded_said [] said number =
      let same : number ≡ number + 0 = omega arith in ap (λ (n : ℕ). folded_to (witness_state c said) n false) same
  folded_said (l ∷ ls) said number =
      let on : Turn WitnessState → Folded WitnessState = λ t.
      if t.goes_on then fold_lines witness_step limit t.state (suc number) ls else folded_to t.state number true in
      let next = number + length (l ∷ ls) in
      let same : suc number + length ls ≡ next = omega arith in
      subst (IsSaid (witness_state c) next (said_by (shape_of c) number said (l ∷ ls)))
      (ap on (sym (checked_is (witness_state c said) (text_of l) few)))
      (said_rest (said_with (shape_of c) said (text_of l)) said number next ls
      (λ s. subst (λ (n : ℕ). IsSaid (witness_state c) n (said_by (shape_of c) (suc number) s ls)
      (fold_lines witness_step limit (witness_state c s) (suc number) ls)) same (folded_said ls s (suc number))))
