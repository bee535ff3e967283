-- Runs as characters.
use Rattle.std.proofs.Common.{◌≡◌, ◌≢◌, ◌+◌, ◌*◌, ◌<◌, ◌≤◌, ◌++◌, ◌∙◌, ℕ, zero, suc, List, [], ◌∷◌, Bool, true, false}
use Rattle.std.proofs.Common.{None, Some, add-one, ap, ap₂, arith, drop, get_or, if◌then◌else◌, length, map}
use Rattle.std.proofs.Common.{mul-le-mul_right, refl, suc-mul, sym, take, take_all}
use Rattle.std.specs.List.{AllByRecursion, AllZip}
use Rattle.std.proofs.lemmas.List.{drop-append-le, drop-drop, drop-map, length-append, length-drop, length-map}
use Rattle.std.proofs.lemmas.List.{length-take-le, map-append, take-append-le, take-map}
use Rattle.std.proofs.lemmas.List.{take_more}
use Rattle.std.proofs.lemmas.Bool.{false_from_ne_true}
use Rattle.std.proofs.lemmas.Slice.Zip.{AllZip-long}
use Rattle.aig_circuit.specs.declared.circuit.Circuit.{Circuit}
use Rattle.aig_circuit.specs.declared.circuit.Latch.{Latch}
use Rattle.aig_circuit.specs.declared.circuit.Reset.{Reset}
use Rattle.aig_circuit.specs.declared.value.Val.{Val}
use Rattle.aig_meaning.specs.Meaning.{Row}
use Rattle.aig_meaning.specs.Trace.{Follow, MayStartAt}
use Rattle.aig_meaning.proofs.Traces.{inputs_length}
use Rattle.aig_step.specs.Stimulus.{value_of, values_of}
use Rattle.aig_step.specs.TraceText.{character_of, values_text}
use Rattle.aig_step.proofs.LineValues.{no_values, parted, says_values, values_back, values_on}
use Rattle.aig_witness.specs.Witness.{if_may_start, may_start_in}
use Rattle.aig_witness.proofs.WitnessTexts.{first_said}
use Rattle.aig_witness.proofs.Witnessing.{may_start}
use Rattle.aig_lasso.specs.Runs.{AreCharacters, HoldsCharacters, steps_held, value_held}
use Rattle.aig_lasso.proofs.Starts.{value_back}

-- characters of a list's parts
pub taken : (n : ℕ) (bytes : List ℕ) → AreCharacters bytes → AreCharacters (take n bytes)
taken n bytes are =
    ap values_text (sym (take-map value_held n bytes))
    ∙ sym (take-map character_of n (map value_held bytes)) ∙ ap (λ (bs : List ℕ). take n bs) are

pub left : (n : ℕ) (bytes : List ℕ) → AreCharacters bytes → AreCharacters (drop n bytes)
left n bytes are =
    ap values_text (sym (drop-map value_held n bytes))
    ∙ sym (drop-map character_of n (map value_held bytes)) ∙ ap (λ (bs : List ℕ). drop n bs) are

pub joined : (bytes more : List ℕ) → AreCharacters bytes → AreCharacters more → AreCharacters (bytes ++ more)
joined bytes more are are_too =
    ap values_text (map-append value_held bytes more)
    ∙ map-append character_of (map value_held bytes) (map value_held more)
    ∙ ap₂ (λ (xs ys : List ℕ). xs ++ ys) are are_too

-- so many steps, each of so many inputs
pub many : (inputs n : ℕ) (bytes : List ℕ) → length (steps_held inputs n bytes) ≡ n
many inputs zero bytes = refl
many inputs (suc n) bytes = ap suc (many inputs n (drop inputs bytes))

pub each_long : (inputs n : ℕ) (bytes : List ℕ) → length bytes ≡ n * inputs
    → AllByRecursion (λ (given : List Val). length given ≡ inputs) (steps_held inputs n bytes)
each_long inputs zero bytes whole = tt
each_long inputs (suc n) bytes whole = (
  length-map (take inputs bytes) value_held
      ∙ length-take-le inputs bytes (omega (arith, whole, suc-mul n inputs)),
  each_long inputs n (drop inputs bytes) (omega (arith, whole, suc-mul n inputs, length-drop inputs bytes)),
)

-- the characters of the step of this number
pub step_at : (inputs n k : ℕ) (bytes : List ℕ) → k < n
    → get_or (steps_held inputs n bytes) k [] ≡ map value_held (take inputs (drop (k * inputs) bytes))
step_at inputs zero k bytes low = absurd (omega (arith, low))
step_at inputs (suc n) zero bytes low =
    let none : zero * inputs ≡ 0 = omega arith in
    ap (λ (i : ℕ). map value_held (take inputs (drop i bytes))) (sym none)
step_at inputs (suc n) (suc k) bytes low =
    let more : inputs + k * inputs ≡ suc k * inputs = omega (arith, suc-mul k inputs) in
    step_at inputs n k (drop inputs bytes) (omega (arith, low))
    ∙ ap (λ (bs : List ℕ). map value_held (take inputs bs)) (drop-drop (k * inputs) inputs bytes)
    ∙ ap (λ (i : ℕ). map value_held (take inputs (drop i bytes))) more

module _ (inputs n k : ℕ) (bytes : List ℕ) (steps : List (List Val)) (same : steps_held inputs n bytes ≡ steps)
    (below : k < length steps) where
  low : k < n
  low = omega (arith, below, many inputs n bytes, ap length same)

  pub within : length bytes ≡ n * inputs → k * inputs + inputs ≤ length bytes
  within whole =
      let more : suc k ≤ n = omega (arith, low) in omega (arith, mul-le-mul_right inputs more, suc-mul k inputs, whole)

  pub step_text : AreCharacters bytes → take inputs (drop (k * inputs) bytes) ≡ values_text (get_or steps k [])
  step_text are =
      sym (taken inputs (drop (k * inputs) bytes) (left (k * inputs) bytes are))
      ∙ ap values_text (sym (step_at inputs n k bytes low))
      ∙ ap (λ (vs : List (List Val)). values_text (get_or vs k [])) same

-- one more step
pub one_more : (inputs n : ℕ) (bytes text : List ℕ) → length bytes ≡ n * inputs → length text ≡ inputs
    → steps_held inputs (suc n) (bytes ++ text) ≡ steps_held inputs n bytes ++ (map value_held text ∷ [])
one_more inputs zero [] text whole long =
    ap (λ (bs : List ℕ). map value_held bs ∷ []) (take_all inputs text (omega (arith, long)))
one_more inputs zero (b ∷ bs) text whole long = absurd (omega (arith, whole))
one_more inputs (suc n) bytes text whole long =
    let more : suc n * inputs ≡ inputs + n * inputs = omega (arith, suc-mul n inputs) in
    let room : inputs ≤ length bytes = omega (arith, whole, more) in
    ap₂ (λ (step : List ℕ) (others : List (List Val)). map value_held step ∷ others)
    (take-append-le inputs bytes text room)
    (ap (steps_held inputs (suc n)) (drop-append-le inputs bytes text room)
    ∙ one_more inputs n (drop inputs bytes) text (omega (arith, whole, more, length-drop inputs bytes)) long)

pub holds_more : (first bytes text : List ℕ) (inputs n : ℕ) → HoldsCharacters first bytes inputs n → AreCharacters text
    → length text ≡ inputs → HoldsCharacters first (bytes ++ text) inputs (n + 1)
holds_more first bytes text inputs n holds are long = record {
  first_characters = holds.first_characters;
  step_characters = joined bytes text holds.step_characters are;
  whole =
      let next : (n + 1) * inputs ≡ n * inputs + inputs = ap (λ (k : ℕ). k * inputs) (add-one n) ∙ suc-mul n inputs in
      omega (arith, length-append bytes text, holds.whole, long, next);
}

-- text that is looked at character by character
module _ (text : List ℕ) (place : ℕ) (is_character : Bool) (low : place < length text)
    (is : value_of (get_or text place 0)
    ≡ (if is_character then Some (value_held (get_or text place 0)) else None)) where
  abbrev byte : ℕ
  byte = get_or text place 0

  pub none_said : is_character ≡ false → values_of text ≡ None
  none_said other =
      ap values_of (parted text place 0 low)
      ∙ no_values (take place text) (drop (place + 1) text) byte
      (is ∙ ap (λ (b : Bool). if b then Some (value_held byte) else None) other)

  pub more_said : is_character ≡ true → values_of (take place text) ≡ Some (map value_held (take place text))
      → values_of (take (place + 1) text) ≡ Some (map value_held (take (place + 1) text))
  more_said stands so_far =
      let more = take_more text place 0 low in
      ap values_of more
      ∙ values_on (take place text) byte (map value_held (take place text)) (value_held byte) so_far
      (is ∙ ap (λ (b : Bool). if b then Some (value_held byte) else None) stands)
      ∙ ap (λ (vs : List Val). Some vs)
      (sym (ap (map value_held) more ∙ map-append value_held (take place text) (byte ∷ [])))

pub characters : (text : List ℕ) → values_of text ≡ Some (map value_held text) → AreCharacters text
characters text said = values_back text (map value_held text) said

values_again : (vs : List Val) → map value_held (values_text vs) ≡ vs
values_again [] = refl
values_again (v ∷ vs) = ap₂ (λ (x : Val) (xs : List Val). x ∷ xs) (value_back v) (values_again vs)

-- first states, by the tests that are made
starts : (rs : List Reset) (vs : List Val) → may_start_in rs vs ≡ true → AllZip MayStartAt rs vs
starts rs vs is = (may_start rs (Some vs) vs (ap (λ (b : Bool). if b then Some vs else None) is)).1

starts_not : (rs : List Reset) (vs : List Val) → may_start_in rs vs ≡ false → ¬ AllZip MayStartAt rs vs
starts_not rs vs is all =
    let said = first_said rs vs all in
    let same = ap (if_may_start rs) (says_values vs) in
    let none = ap (λ (b : Bool). if b then Some vs else None) is in cc

pub too_few : (rs : List Reset) (vs : List Val) → length vs ≢ length rs → may_start_in rs vs ≡ false
too_few rs vs other =
    false_from_ne_true (may_start_in rs vs) (λ is. other (AllZip-long MayStartAt rs vs (starts rs vs is)))

module _ (found latches : List Latch) (text : List ℕ) (vs : List Val) (result : Bool)
    (is : result ≡ may_start_in (map (λ (l : Latch). l.reset) found) (map value_held text)) (same : found ≡ latches)
    (says : text ≡ values_text vs) where
  abbrev resets : List Reset
  resets = map (λ (l : Latch). l.reset) latches

  tests : result ≡ may_start_in resets vs
  tests =
      is
      ∙ ap₂ (λ (ls : List Latch) (us : List Val). may_start_in (map (λ (l : Latch). l.reset) ls) us) same
      (ap (map value_held) says ∙ values_again vs)

  pub starts_there : result ≡ true → AllZip MayStartAt resets vs
  starts_there is_true = starts resets vs (sym tests ∙ is_true)

  pub starts_nowhere : result ≡ false → ¬ AllZip MayStartAt resets vs
  starts_nowhere is_false = starts_not resets vs (sym tests ∙ is_false)

-- where a step is taken, the circuit has so many inputs
pub as_many : (c : Circuit) (inputs : ℕ) (state : List Val) (steps : List (List Val)) (rows stem : List Row)
    (turn : Row) (turns : List Row) → Follow c state steps rows → rows ≡ stem ++ (turn ∷ turns)
    → AllByRecursion (λ (given : List Val). length given ≡ inputs) steps → inputs ≡ length c.inputs
as_many c inputs state [] [] [] turn turns follow is long = cc
as_many c inputs state [] [] (s ∷ ss) turn turns follow is long = cc
as_many c inputs state [] (r ∷ rs) stem turn turns follow is long = absurd follow
as_many c inputs state (v ∷ vs) [] stem turn turns follow is long = absurd follow
as_many c inputs state (v ∷ vs) (r ∷ rs) stem turn turns follow is long =
    sym long.0 ∙ ap length (sym follow.1) ∙ inputs_length c r follow.2
