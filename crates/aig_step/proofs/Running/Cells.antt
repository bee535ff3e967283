-- Tables of values as bytes, and characters that stand for values.
use Rattle.std.proofs.Common.{◌≡◌, ◌∙◌, ◌∷◌, ◌+◌, ◌*◌, ◌%◌, ◌/◌, ◌<◌, ◌==◌, if◌then◌else◌, ◌≤◌, ℕ, zero, suc, List, []}
use Rattle.std.proofs.Common.{Option, None, Some, get_or, option_map, replicate, refl, sym, ap, arith, rules, length}
use Rattle.std.proofs.Common.{ap₂, drop, drop-cons, set}
use Rattle.std.specs.Int.Bits.{bit_and}
use Rattle.std.proofs.lemmas.List.{drop_all, length-replicate}
use Rattle.aig_circuit.specs.declared.value.Val.{Val}
use Rattle.aig_circuit.specs.declared.value.Val.TheVariants.{Zero, One, X}
use Rattle.aig_circuit.specs.Literal.{variable_of}
use Rattle.aig_circuit.specs.Values.{value_and, value_not}
use Rattle.aig_meaning.specs.Meaning.{literal_value}
use Rattle.aig_step.specs.Stimulus.{value_of}
use Rattle.aig_step.specs.Parts.Cells.{bytes_of_values, AreCodes, code_of, value_of_code, values_of_bytes}
use Rattle.aig_step.specs.declared.evaluate.Pair.{Pair}
use Rattle.aig_step.specs.Parts.Tables.{evaluated, read_from}

-- the characters that stand for values, each at the place of its low four bits
abbrev pub standing : List ℕ
standing = 48 ∷ 49 ∷ 0 ∷ 0 ∷ 0 ∷ 0 ∷ 0 ∷ 0 ∷ 120 ∷ 0 ∷ 0 ∷ 0 ∷ 0 ∷ 0 ∷ 0 ∷ 0 ∷ []

abbrev none : List ℕ
none = 0 ∷ 0 ∷ []

-- the bytes of the values that they stand for, each with that of its negation
abbrev pub stood_for : List (List ℕ)
stood_for =
    (0 ∷ 3 ∷ []) ∷ (3 ∷ 0 ∷ []) ∷ none ∷ none ∷ none ∷ none ∷ none ∷ none ∷ (1 ∷ 1 ∷ [])
    ∷ none ∷ none ∷ none ∷ none ∷ none ∷ none ∷ none ∷ []

zero_in : (n k : ℕ) → get_or (replicate {A = ℕ} n 0) k 0 ≡ zero
zero_in zero k = refl
zero_in (suc n) zero = refl
zero_in (suc n) (suc k) = zero_in n k

-- the character 0 is at no place but the first
not_zero : {m : ℕ} (b : ℕ) → 0 ≡ b → bit_and b 15 ≡ suc m → ⊥
not_zero b stands place = omega (arith, ap (λ x. bit_and x 15) stands, place)

abbrev bytes_for : ℕ → Option (List ℕ)
bytes_for b = option_map (λ v. bytes_of_values (v ∷ [])) (value_of b)

-- a character that stands at the place of its low four bits stands for the value of the bytes there
from_place : (m b : ℕ) → get_or standing m 0 ≡ b → bit_and b 15 ≡ m → Some (get_or stood_for m []) ≡ bytes_for b
from_place zero b stands place = ap bytes_for stands
from_place (suc zero) b stands place = ap bytes_for stands
from_place (suc (suc zero)) b stands place = absurd (not_zero b stands place)
from_place (suc (suc (suc zero))) b stands place = absurd (not_zero b stands place)
from_place (suc (suc (suc (suc zero)))) b stands place = absurd (not_zero b stands place)
from_place (suc (suc (suc (suc (suc zero))))) b stands place = absurd (not_zero b stands place)
from_place (suc (suc (suc (suc (suc (suc zero)))))) b stands place = absurd (not_zero b stands place)
from_place (suc (suc (suc (suc (suc (suc (suc zero))))))) b stands place = absurd (not_zero b stands place)
from_place (suc (suc (suc (suc (suc (suc (suc (suc zero)))))))) b stands place = ap bytes_for stands
from_place (suc (suc (suc (suc (suc (suc (suc (suc (suc k))))))))) b stands place =
    absurd (not_zero b (sym (zero_in 7 k) ∙ stands) place)

pub stands_for : (b : ℕ) → get_or standing (bit_and b 15) 0 ≡ b
    → Some (get_or stood_for (bit_and b 15) []) ≡ option_map (λ v. bytes_of_values (v ∷ [])) (value_of b)
stands_for b stands = from_place (bit_and b 15) b stands refl

-- what was found of a character has a value, which it stands for
pub found_value : (o : Option Val) (bytes : List ℕ) → Some bytes ≡ option_map (λ v. bytes_of_values (v ∷ [])) o
    → (v : Val) × (o ≡ Some v) × (bytes ≡ bytes_of_values (v ∷ []))
found_value None bytes is = cc
found_value (Some v) bytes is = (v, refl, cc)

-- of a character of which nothing was found none is known
pub no_value : (o : Option Val) → None ≡ option_map (λ v. bytes_of_values (v ∷ [])) o → o ≡ None
no_value None is = refl
no_value (Some v) is = cc

-- Tables of values as bytes.
code_back : (v : Val) → value_of_code (code_of v) ≡ v
code_back Zero = refl
code_back One = refl
code_back X = refl

bytes_back : (vs : List Val) → values_of_bytes (bytes_of_values vs) ≡ vs
bytes_back [] = refl
bytes_back (v ∷ vs) = ap₂ (λ w ws. w ∷ ws) (code_back v) (bytes_back vs)

-- bytes that were made of values are those of a table
pub are_codes : (bytes : List ℕ) (vs : List Val) → bytes ≡ bytes_of_values vs → AreCodes bytes
are_codes bytes vs made =
    ap (λ bs. bytes_of_values (values_of_bytes bs)) made ∙ ap bytes_of_values (bytes_back vs) ∙ sym made

pub values_are : (bytes : List ℕ) (vs : List Val) → bytes ≡ bytes_of_values vs → values_of_bytes bytes ≡ vs
values_are bytes vs made = ap values_of_bytes made ∙ bytes_back vs

bytes_length : (vs : List Val) → length (bytes_of_values vs) ≡ 2 * length vs
bytes_length [] = refl
bytes_length (v ∷ vs) = omega (arith, bytes_length vs)

pub codes_length : (bytes : List ℕ) → AreCodes bytes → length bytes ≡ 2 * length (values_of_bytes bytes)
codes_length bytes coded = ap length (sym coded) ∙ bytes_length (values_of_bytes bytes)

-- a literal is the place of its value's byte
pub read_bytes : (vs : List Val) (literal d : ℕ) → variable_of literal < length vs
    → get_or (bytes_of_values vs) literal d ≡ code_of (literal_value (read_from vs) literal)
read_bytes [] literal d below = absurd (omega (arith, below))
read_bytes (v ∷ vs) zero d below = refl
read_bytes (v ∷ vs) (suc zero) d below = refl
read_bytes (v ∷ vs) (suc (suc l)) d below =
    let parity : suc (suc l) % 2 ≡ l % 2 = omega arith in
    let variable : suc (suc l) / 2 ≡ suc (l / 2) = omega arith in
    read_bytes vs l d (omega (arith, below, variable))
    ∙ sym (ap₂ (λ m n. code_of (if m == 0 then read_from (v ∷ vs) n else value_not (read_from (v ∷ vs) n)))
    parity variable)

-- writing both bytes of a variable is putting its value
written_bytes : (vs : List Val) (v : ℕ) (x : Val) → v < length vs
    → set (set (bytes_of_values vs) (2 * v) (code_of x)) (2 * v + 1) (code_of (value_not x))
    ≡ bytes_of_values (set vs v x)
written_bytes [] v x below = absurd (omega (arith, below))
written_bytes (w ∷ ws) zero x below = refl
written_bytes (w ∷ ws) (suc v) x below = search (rules, written_bytes ws v x (omega (arith, below)))

-- a table of x alone
all_x : (n : ℕ) → bytes_of_values (replicate n X) ≡ replicate (2 * n) 1
all_x zero = refl
all_x (suc n) =
    let twice : 2 * suc n ≡ suc (suc (2 * n)) = omega arith in
    ap (λ bs. 1 ∷ 1 ∷ bs) (all_x n) ∙ ap (λ m. replicate m 1) (sym twice)

-- in the bytes of a table
module _ (bytes : List ℕ) (literal : ℕ) (coded : AreCodes bytes)
    (below : variable_of literal < length (values_of_bytes bytes)) where
  code_at : get_or bytes literal 0 ≡ code_of (literal_value (read_from (values_of_bytes bytes)) literal)
  code_at = ap (λ bs. get_or bs literal 0) (sym coded) ∙ read_bytes (values_of_bytes bytes) literal 0 below

  pub value_at : value_of_code (get_or bytes literal 0) ≡ literal_value (read_from (values_of_bytes bytes)) literal
  value_at = ap value_of_code code_at ∙ code_back (literal_value (read_from (values_of_bytes bytes)) literal)

  pub is_code_at : code_of (value_of_code (get_or bytes literal 0)) ≡ get_or bytes literal 0
  is_code_at = ap code_of value_at ∙ sym code_at

pub put_in_bytes : (bytes : List ℕ) (v : ℕ) (x : Val) → AreCodes bytes → v < length (values_of_bytes bytes)
    → set (set bytes (2 * v) (code_of x)) (2 * v + 1) (code_of (value_not x))
    ≡ bytes_of_values (set (values_of_bytes bytes) v x)
put_in_bytes bytes v x coded below = search (rules, written_bytes)

pub x_are_codes : (n : ℕ) → AreCodes (replicate (2 * n) 1)
x_are_codes n = are_codes (replicate (2 * n) 1) (replicate n X) (sym (all_x n))

pub x_length : (n : ℕ) → length (values_of_bytes (replicate (2 * n) 1)) ≡ n
x_length n = omega (arith, codes_length (replicate (2 * n) 1) (x_are_codes n), length-replicate {A = ℕ} (2 * n) 1)

-- a gate's value is put where the gates before it were evaluated
pub one_more : (codes now : List ℕ) (v k : ℕ) (pairs : List Pair) (p : Pair) (x : Val) (all : List Val)
    → now ≡ bytes_of_values (set (values_of_bytes codes) v x)
    → x ≡ value_and (literal_value (read_from (values_of_bytes codes)) p.left)
    (literal_value (read_from (values_of_bytes codes)) p.right)
    → k < length pairs → p ≡ get_or pairs k p
    → evaluated v (drop k pairs) (values_of_bytes codes) ≡ all
    → evaluated (v + 1) (drop (k + 1) pairs) (values_of_bytes now) ≡ all
one_more codes now v k pairs p x all made value below is before = search (rules, drop-cons, values_are)

pub no_more : (codes : List ℕ) (v k : ℕ) (pairs : List Pair) (all : List Val) → length pairs ≤ k
    → evaluated v (drop k pairs) (values_of_bytes codes) ≡ all → values_of_bytes codes ≡ all
no_more codes v k pairs all end before =
    ap (λ ps. evaluated v ps (values_of_bytes codes)) (sym (drop_all k pairs end)) ∙ before
