-- The lines of a stimulus: their bytes, the characters of a step's inputs, and how long each is.
use Rattle.std.proofs.Common.{◌≡◌, ◌+◌, ◌<◌, ◌∷◌, ◌++◌, ◌∙◌, ◌≢◌, ◌==◌, if◌then◌else◌, rules, ℕ, List, [], length, take}
use Rattle.std.proofs.Common.{drop, get_or, sym, ap, append_assoc, add-one, drop-cons, suc, false, max, Option, Some}
use Rattle.std.proofs.Common.{None, codes, option_map, option_and_then, bytes_eq, refl, Bool, true, replicate, arith}
use Rattle.std.proofs.lemmas.List.{take-append-drop, length-map}
use Rattle.std.proofs.lemmas.Bool.{ne_eqb, false_from_ne_true, eqb-true}
use Rattle.std.proofs.lemmas.Slice.Eq.{bytes_eq-Decides}
use Rattle.std.proofs.lemmas.Simd.{length-replicate}
use Rattle.aig_circuit.specs.declared.value.Val.{Val}
use Rattle.aig_circuit.specs.declared.circuit.Circuit.{Circuit}
use Rattle.aig_circuit.specs.declared.value.Val.TheVariants.{Zero, One, X}
use Rattle.aig_circuit.specs.Wellformed.{IsWellFormed}
use Rattle.aig_meaning.specs.Meaning.{IsRow, IsStepAssignment, MeansTheSame, Row}
use Rattle.aig_meaning.proofs.Traces.{one_row}
use Rattle.aig_step.specs.Stimulus.{entry_in, value_of, values_of, Step, Stop}
use Rattle.aig_step.specs.TraceText.{character_of, values_text}
use Rattle.aig_step.specs.Parts.Lines.{line_size, row_read, vector_in}

-- the item at i, what stands before it, and what stands after it
pub parted : {X : Type 0} (xs : List X) (i : ℕ) (d : X) → i < length xs
    → xs ≡ take i xs ++ get_or xs i d ∷ drop (i + 1) xs
parted xs i d low =
    sym (take-append-drop i xs) ∙ ap (λ ys. take i xs ++ ys) (rw add-one (drop-cons xs i d low))

-- the columns of a line, each after those before it
pub columns_joined : (before state inputs outputs next properties : List ℕ)
    → ((((((before ++ state) ++ 32 ∷ inputs) ++ 32 ∷ outputs) ++ 32 ∷ []) ++ next) ++ properties) ++ 10 ∷ []
    ≡ before ++ (state ++ 32 ∷ (inputs ++ 32 ∷ (outputs ++ 32 ∷ (next ++ (properties ++ 10 ∷ [])))))
columns_joined before state inputs outputs next properties = search (rules, append_assoc)

-- What the text of a line says: its characters, its length.

-- characters, one by one
nothing_first : (o : Option Val) → option_and_then (λ v. option_map (λ vs. v ∷ vs) None) o ≡ None
nothing_first (Some v) = refl
nothing_first None = refl

first_and : (o : Option Val) (others longer : Option (List Val)) (vs : List Val) (v : Val)
    → ((us : List Val) → others ≡ Some us → longer ≡ Some (us ++ v ∷ []))
    → option_and_then (λ u. option_map (λ us. u ∷ us) others) o ≡ Some vs
    → option_and_then (λ u. option_map (λ us. u ∷ us) longer) o ≡ Some (vs ++ v ∷ [])
first_and None others longer vs v more is = cc
first_and (Some u) None longer vs v more is = cc
first_and (Some u) (Some us) longer vs v more is = search (rules, option_map)

-- one more character that stands for a value
pub values_on : (front : List ℕ) (b : ℕ) (vs : List Val) (v : Val) → values_of front ≡ Some vs → value_of b ≡ Some v
    → values_of (front ++ b ∷ []) ≡ Some (vs ++ v ∷ [])
values_on [] b vs v are is = search (rules, option_and_then, option_map)
values_on (a ∷ front) b vs v are is =
    first_and (value_of a) (values_of front) (values_of (front ++ b ∷ [])) vs v
    (λ (us : List Val) (e : values_of front ≡ Some us). values_on front b us v e is) are

-- a character that stands for none, whatever comes before and after it
pub no_values : (front rest : List ℕ) (b : ℕ) → value_of b ≡ None → values_of (front ++ b ∷ rest) ≡ None
no_values [] rest b none = ap (option_and_then (λ u. option_map (λ us. u ∷ us) (values_of rest))) none
no_values (a ∷ front) rest b none =
    search (rules, option_and_then, option_map, nothing_first, no_values front rest b none)

first_length : (o : Option Val) (others : Option (List Val)) (vs : List Val) (n : ℕ)
    → ((us : List Val) → others ≡ Some us → length us ≡ n)
    → option_and_then (λ u. option_map (λ us. u ∷ us) others) o ≡ Some vs → length vs ≡ suc n
first_length None others vs n long is = cc
first_length (Some u) None vs n long is = cc
first_length (Some u) (Some us) vs n long is =
    let same : vs ≡ u ∷ us = cc in ap length same ∙ ap suc (long us refl)

-- as many values as characters
pub values_length : (text : List ℕ) (vs : List Val) → values_of text ≡ Some vs → length vs ≡ length text
values_length [] vs is = let none : vs ≡ [] = cc in ap length none
values_length (b ∷ bs) vs is =
    first_length (value_of b) (values_of bs) vs (length bs)
    (λ (us : List Val) (e : values_of bs ≡ Some us). values_length bs us e) is

-- what a text says
no_stop : (text : List ℕ) → text ≢ codes "." → bytes_eq text (codes ".") ≡ false
no_stop text other =
    false_from_ne_true (bytes_eq text (codes ".")) (λ e. other ((bytes_eq-Decides text (codes ".")).0 e))

-- a text with another number of characters than there are inputs says nothing
wrong_length : (inputs : ℕ) (text : List ℕ) → text ≢ codes "." → length text ≢ inputs → entry_in inputs text ≡ None
wrong_length inputs text other wrong = rw (no_stop text other, ne_eqb (length text) inputs wrong) refl

pub too_long_text : (inputs : ℕ) (text : List ℕ) → max inputs 1 < length text → entry_in inputs text ≡ None
too_long_text inputs text long = search (rules, wrong_length)

-- The characters of a step's inputs, and how long its line is.

-- a value that a character stands for has that character
by_tests : (p q r : Bool) (b : ℕ) (v : Val) → (p ≡ true → b ≡ 48) → (q ≡ true → b ≡ 49) → (r ≡ true → b ≡ 120)
    → (if p then Some Zero else if q then Some One else if r then Some X else None) ≡ Some v → character_of v ≡ b
by_tests true q r b v zero one x is =
    let same : v ≡ Zero = cc in ap character_of same ∙ sym (zero refl)
by_tests false true r b v zero one x is =
    let same : v ≡ One = cc in ap character_of same ∙ sym (one refl)
by_tests false false true b v zero one x is =
    let same : v ≡ X = cc in ap character_of same ∙ sym (x refl)
by_tests false false false b v zero one x is = cc

character_back : (b : ℕ) (v : Val) → value_of b ≡ Some v → character_of v ≡ b
character_back b v is =
    by_tests (b == 48) (b == 49) (b == 120) b v (eqb-true b 48) (eqb-true b 49) (eqb-true b 120) is

first_back : (o : Option Val) (others : Option (List Val)) (b : ℕ) (bs : List ℕ) (vs : List Val)
    → ((v : Val) → o ≡ Some v → character_of v ≡ b)
    → ((us : List Val) → others ≡ Some us → values_text us ≡ bs)
    → option_and_then (λ u. option_map (λ us. u ∷ us) others) o ≡ Some vs → values_text vs ≡ b ∷ bs
first_back None others b bs vs first more is = cc
first_back (Some u) None b bs vs first more is = cc
first_back (Some u) (Some us) b bs vs first more is = search rules

-- the characters of the values that characters stand for
pub values_back : (text : List ℕ) (vs : List Val) → values_of text ≡ Some vs → values_text vs ≡ text
values_back [] vs is = let none : vs ≡ [] = cc in ap values_text none
values_back (b ∷ bs) vs is =
    first_back (value_of b) (values_of bs) b bs vs (character_back b)
    (λ (us : List Val) (e : values_of bs ≡ Some us). values_back bs us e) is

-- the values that a text says, by what was tested
by_length : (long : Bool) (o : Option (List Val)) (given : List Val) → (if long then o else None) ≡ Some given
    → o ≡ Some given
by_length true o given is = is
by_length false o given is = cc

has_length : (long : Bool) (o : Option (List Val)) (given : List Val) → (if long then o else None) ≡ Some given
    → long ≡ true
has_length true o given is = refl
has_length false o given is = cc

says_step : (stop long : Bool) (o : Option (List Val)) (given : List Val) → (stop ≡ true → o ≡ None)
    → (if long then o else None) ≡ Some given
    → (if stop then Some Stop else if long then option_map Step o else None) ≡ Some (Step given)
says_step true true o given none is = let no = none refl in cc
says_step true false o given none is = cc
says_step false true o given none is = ap (option_map Step) is
says_step false false o given none is = cc

says_none : (stop long : Bool) (o : Option (List Val)) → (if long then o else None) ≡ None
    → (if stop then Some Stop else if long then option_map Step o else None) ≡ (if stop then Some Stop else None)
says_none true long o is = refl
says_none false true o is = ap (option_map Step) is
says_none false false o is = refl

-- a text that says values is made of their characters, and has as many as there are inputs
pub vector_back : (inputs : ℕ) (text : List ℕ) (given : List Val) → vector_in inputs text ≡ Some given
    → values_text given ≡ text
vector_back inputs text given is =
    values_back text given (by_length (length text == inputs) (values_of text) given is)

pub vector_long : (inputs : ℕ) (text : List ℕ) (given : List Val) → vector_in inputs text ≡ Some given
    → length text ≡ inputs
vector_long inputs text given is =
    eqb-true (length text) inputs (has_length (length text == inputs) (values_of text) given is)

-- it says a step, since the character of a line that ends a run is no value
pub vector_says : (inputs : ℕ) (text : List ℕ) (given : List Val) → vector_in inputs text ≡ Some given
    → entry_in inputs text ≡ Some (Step given)
vector_says inputs text given is = search (rules, says_step, bytes_eq, bytes_eq-Decides)

-- and a text that says no values says no step
pub vector_none : (inputs : ℕ) (text : List ℕ) → vector_in inputs text ≡ None
    → entry_in inputs text ≡ (if bytes_eq text (codes ".") then Some Stop else None)
vector_none inputs text is = says_none (bytes_eq text (codes ".")) (length text == inputs) (values_of text) is

-- circuits with a row in common have lines of the same length
same_lengths : (c d : Circuit) (row : Row) → IsRow c row → IsRow d row → line_size c ≡ line_size d
same_lengths c d row (a, of_c) (b, of_d) = grind (arith, length-map)

-- and so have circuits that mean the same
pub same_size : (c d : Circuit) → IsWellFormed c → MeansTheSame c d → line_size c ≡ line_size d
same_size c d formed means =
    let states = length c.latches in
    let inputs = length c.inputs in
    let there = one_row c (replicate states X) (replicate inputs X) formed (length-replicate states X)
    (length-replicate inputs X) in
    same_lengths c d there.0 there.3 ((means.rows there.0).0 there.3)

-- the values of a step show a row
pub row_is_read : (c : Circuit) (state given : List Val) (a : ℕ → Val) → IsStepAssignment c state given a
    → IsRow c (row_read c state given a)
row_is_read c state given a is = search rules

first_says : (v : Val) (vs : List Val) → values_of (values_text vs) ≡ Some vs
    → values_of (character_of v ∷ values_text vs) ≡ Some (v ∷ vs)
first_says Zero vs is = ap (option_map (λ us. Zero ∷ us)) is
first_says One vs is = ap (option_map (λ us. One ∷ us)) is
first_says X vs is = ap (option_map (λ us. X ∷ us)) is

-- the characters of values say them
pub says_values : (vs : List Val) → values_of (values_text vs) ≡ Some vs
says_values [] = refl
says_values (v ∷ vs) = first_says v vs (says_values vs)
