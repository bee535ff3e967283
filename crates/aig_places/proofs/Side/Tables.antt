-- Tables of planes: what stands in a lane.
use Rattle.std.proofs.Common.{◌≡◌, ◌+◌, ◌*◌, ◌/◌, ◌%◌, ◌<◌, ◌≤◌, ◌==◌, ◌∷◌, ◌∙◌, ◌++◌, if◌then◌else◌, rules, ℕ, zero}
use Rattle.std.proofs.Common.{suc, List, [], length, map, get_or, set, take, drop, refl, sym, ap, ap₂, arith, min, max}
use Rattle.std.proofs.Common.{inl, inr, drop-cons, zero-add, append-nil, length-take, subst, take_all}
use Rattle.std.specs.Int.Bits.{bit_and, bit_or}
use Rattle.std.specs.Simd.Lanes.{zip2}
use Rattle.std.proofs.lemmas.Bool.{cases_lt}
use Rattle.std.proofs.lemmas.List.{drop_all, get_or-map, length-map, map-set, take_more}
use Rattle.std.proofs.lemmas.List.Edits.{paste_more}
use Rattle.std.proofs.lemmas.List.Elements.{All-set}
use Rattle.std.proofs.lemmas.Simd.{length-zip2}
use Rattle.aig_circuit.specs.declared.value.Val.{Val}
use Rattle.aig_circuit.specs.declared.value.Val.TheVariants.{Zero, One, X}
use Rattle.aig_circuit.specs.Literal.{negation_of, variable_of}
use Rattle.aig_circuit.specs.Values.{value_and, value_not}
use Rattle.aig_meaning.specs.Meaning.{literal_value}
use Rattle.aig_places.specs.Tables.{Begun, IsTable}
use Rattle.aig_places.specs.Lanes.{IsLane, IsPair, IsPlane, bit_in, bits_of_values, may_be_one, values_by_bits}
use Rattle.aig_places.specs.Lanes.{values_in}
use Rattle.aig_step.specs.declared.evaluate.Pair.{Pair}
use Rattle.aig_step.specs.Parts.Tables.{evaluated, placed, read_from}
use Rattle.aig_step.proofs.Running.Machines.{placed_behind}
use Rattle.aig_places.proofs.Side.Planes.{and_in, or_in}

pub bits_length : (vs : List Val) → length (bits_of_values vs) ≡ 2 * length vs
bits_length [] = refl
bits_length (v ∷ vs) = omega (arith, bits_length vs)

-- a literal is the place of its own bit
literal_bit : (vs : List Val) (literal d : ℕ) → variable_of literal < length vs
    → get_or (bits_of_values vs) literal d ≡ may_be_one (literal_value (read_from vs) literal)
literal_bit [] literal d below = absurd (omega (arith, below))
literal_bit (v ∷ vs) zero d below = refl
literal_bit (v ∷ vs) (suc zero) d below = refl
literal_bit (v ∷ vs) (suc (suc l)) d below =
    let parity : suc (suc l) % 2 ≡ l % 2 = omega arith in
    let variable : suc (suc l) / 2 ≡ suc (l / 2) = omega arith in
    literal_bit vs l d (omega (arith, below, variable))
    ∙ sym (ap₂ (λ m n. may_be_one (if m == 0 then read_from (v ∷ vs) n else value_not (read_from (v ∷ vs) n)))
    parity variable)

not_twice : (x : Val) → value_not (value_not x) ≡ x
not_twice Zero = refl
not_twice One = refl
not_twice X = refl

negation_value : (a : ℕ → Val) (l : ℕ) → literal_value a (negation_of l) ≡ value_not (literal_value a l)
negation_value a l = search (rules, cases_lt, not_twice)

pub negation_variable : (l : ℕ) → variable_of (negation_of l) ≡ variable_of l
negation_variable l = elim (cases_lt 0 (l % 2)) [
  | inl odd ↦ let sign : l % 2 ≡ 1 = omega arith in rw sign (omega arith)
  | inr even ↦ let sign : l % 2 ≡ 0 = omega arith in rw sign (omega arith)
]

bits_back : (vs : List Val) → values_by_bits (bits_of_values vs) ≡ vs
bits_back [] = refl
bits_back (Zero ∷ vs) = ap (λ us. Zero ∷ us) (bits_back vs)
bits_back (One ∷ vs) = ap (λ us. One ∷ us) (bits_back vs)
bits_back (X ∷ vs) = ap (λ us. X ∷ us) (bits_back vs)

-- what stands in a lane
module _ (l : ℕ) (planes : List (List ℕ)) (values : List Val) (is : IsLane l planes values) where
  pub lane_length : length planes ≡ 2 * length values
  lane_length = sym (length-map planes (bit_in l)) ∙ ap length is.bits ∙ bits_length values

  pub values_are : values ≡ values_in l planes
  values_are = sym (ap values_by_bits is.bits ∙ bits_back values)

  module _ (size : ℕ) (long : length values ≡ size) where
    pub table_stands : IsTable l size planes
    table_stands = record { stand = subst (IsLane l planes) values_are is; size_is = sym (ap length values_are) ∙ long }

    pub begins : read_from values 0 ≡ Zero → (1 < size → read_from values 1 ≡ X) → Begun l size planes
    begins constant unknown = record {
      now = table_stands;
      constant = subst (λ vs. read_from vs 0 ≡ Zero) values_are constant;
      unknown = λ more. subst (λ vs. read_from vs 1 ≡ X) values_are (unknown more);
    }

  plane_bit : (k : ℕ) (d : List ℕ) → k < length planes
      → bit_in l (get_or planes k d) ≡ get_or (bits_of_values values) k 0
  plane_bit k d below =
      sym (get_or-map (bit_in l) planes k d 0 below) ∙ ap (λ bits. get_or bits k 0) is.bits

  pub pair_at : (literal : ℕ) (d e : List ℕ) → variable_of literal < length values
      → IsPair l (get_or planes literal d) (get_or planes (negation_of literal) e)
      (literal_value (read_from values) literal)
  pair_at literal d e below = search (rules, negation_variable, lane_length, plane_bit, literal_bit, negation_value)

  pub pair_of_variable : (v : ℕ) (d e : List ℕ) → v < length values
      → IsPair l (get_or planes (2 * v) d) (get_or planes (2 * v + 1) e) (read_from values v)
  pair_of_variable v d e below = search (rules, lane_length, plane_bit, literal_bit)

written_bits : (vs : List Val) (v : ℕ) (x : Val) → v < length vs
    → set (set (bits_of_values vs) (2 * v) (may_be_one x)) (2 * v + 1) (may_be_one (value_not x))
    ≡ bits_of_values (set vs v x)
written_bits [] v x below = absurd (omega (arith, below))
written_bits (w ∷ ws) zero x below = refl
written_bits (w ∷ ws) (suc v) x below =
    let at : 2 * suc v ≡ suc (suc (2 * v)) = omega arith in
    let behind : 2 * suc v + 1 ≡ suc (suc (2 * v + 1)) = omega arith in
    ap₂ (λ m n. set (set (bits_of_values (w ∷ ws)) m (may_be_one x)) n (may_be_one (value_not x))) at behind
    ∙ ap (λ bs. may_be_one w ∷ may_be_one (value_not w) ∷ bs) (written_bits ws v x (omega (arith, below)))

-- writing both planes of a variable puts its value in each lane
pub pair_put : (l : ℕ) (planes : List (List ℕ)) (values : List Val) (v : ℕ) (high low : List ℕ) (x : Val)
    → IsLane l planes values → IsPair l high low x → v < length values
    → IsLane l (set (set planes (2 * v) high) (2 * v + 1) low) (set values v x)
pair_put l planes values v high low x is pair below = record {
  whole =
      All-set IsPlane (set planes (2 * v) high) (2 * v + 1) low pair.zero_plane
      (All-set IsPlane planes (2 * v) high pair.one_plane is.whole);
  bits =
      map-set (bit_in l) (set planes (2 * v) high) (2 * v + 1) low
      ∙ ap (λ bs. set bs (2 * v + 1) (bit_in l low)) (map-set (bit_in l) planes (2 * v) high)
      ∙ ap₂ (λ m n. set (set (map (bit_in l) planes) (2 * v) m) (2 * v + 1) n) pair.one_bit pair.zero_bit
      ∙ ap (λ bs. set (set bs (2 * v) (may_be_one x)) (2 * v + 1) (may_be_one (value_not x))) is.bits
      ∙ written_bits values v x below;
}

least_may : (x y : Val) → min (may_be_one x) (may_be_one y) ≡ may_be_one (value_and x y)
least_may Zero Zero = refl
least_may Zero One = refl
least_may Zero X = refl
least_may One Zero = refl
least_may One One = refl
least_may One X = refl
least_may X Zero = refl
least_may X One = refl
least_may X X = refl

most_may : (x y : Val)
    → max (may_be_one (value_not x)) (may_be_one (value_not y)) ≡ may_be_one (value_not (value_and x y))
most_may Zero Zero = refl
most_may Zero One = refl
most_may Zero X = refl
most_may One Zero = refl
most_may One One = refl
most_may One X = refl
most_may X Zero = refl
most_may X One = refl
most_may X X = refl

-- the planes of an `and`
pub and_pair : (l : ℕ) (high low high_too low_too : List ℕ) (x y : Val) → IsPair l high low x
    → IsPair l high_too low_too y → IsPair l (zip2 bit_and high high_too) (zip2 bit_or low low_too) (value_and x y)
and_pair l high low high_too low_too x y p q = search (rules, length-zip2, and_in, least_may, or_in, most_may)

-- one more value is put after those before it
pub placed_more : (at i : ℕ) (given : List Val) (d x : Val) (values : List Val) → i < length given
    → x ≡ get_or given i d → placed at (take (i + 1) given) values ≡ set (placed at (take i given) values) (at + i) x
placed_more at i given d x values below is =
    let long : length (take i given) ≡ i = omega (arith, below, length-take i given) in
    ap (λ xs. placed at xs values) (take_more given i d below ∙ ap (λ y. take i given ++ y ∷ []) (sym is))
    ∙ placed_behind at (take i given) x values
    ∙ ap (λ n. set (placed at (take i given) values) (at + n) x) long

-- the next gate is put
pub evaluated_on : (v k : ℕ) (pairs : List Pair) (p : Pair) (now all : List Val) → k < length pairs
    → p ≡ get_or pairs k p → evaluated v (drop k pairs) now ≡ all
    → evaluated (v + 1) (drop (k + 1) pairs)
    (set now v (value_and (literal_value (read_from now) p.left) (literal_value (read_from now) p.right))) ≡ all
evaluated_on v k pairs p now all below is before =
    let next : suc k ≡ k + 1 = omega arith in
    let front = drop-cons pairs k p below ∙ ap₂ (λ (q : Pair) n. q ∷ drop n pairs) (sym is) next in
    ap (λ ps. evaluated v ps now) (sym front) ∙ before

-- one more value is put in the front of a list
pub filled_more : (i : ℕ) (xs before : List Val) (d x : Val) → i < length xs → length before ≡ length xs
    → x ≡ get_or xs i d → take (i + 1) xs ++ drop (i + 1) before ≡ set (take i xs ++ drop i before) i x
filled_more i xs before d x below same is =
    rw is (sym (simp zero-add at (paste_more before 0 xs i d (omega (arith, below, same)) below)))

pub filled_all : (i : ℕ) (xs before : List Val) → length xs ≤ i → length before ≡ length xs
    → take i xs ++ drop i before ≡ xs
filled_all i xs before end same =
    ap₂ (λ ys zs. ys ++ zs) (take_all i xs end) (drop_all i before (omega (arith, end, same))) ∙ append-nil xs
