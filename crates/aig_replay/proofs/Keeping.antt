-- A witness that is held as characters is the claim that they are.
use Rattle.std.proofs.Common.{◌≡◌, ◌⊎◌, ◌+◌, ◌*◌, ◌≤◌, ◌++◌, ◌∙◌, ℕ, zero, suc, List, [], ◌∷◌, ap, ap₂, arith, drop}
use Rattle.std.proofs.Common.{flat_map, inl, inr, length, length-drop, map, refl}
use Rattle.std.proofs.Common.{suc-mul, take, take-add}
use Rattle.std.specs.List.{AllByRecursion}
use Rattle.std.proofs.Math.Seq.{drop-append_seam, take-append_seam}
use Rattle.std.proofs.lemmas.List.{length-map, length-take-le}
use Rattle.aig_circuit.specs.declared.value.Val.{Val}
use Rattle.aig_circuit.specs.declared.value.Val.TheVariants.{Zero, One, X}
use Rattle.aig_step.specs.TraceText.{character_of, values_text}
use Rattle.aig_replay.specs.Finding.{SaysSteps}
use Rattle.aig_replay.specs.Held.{steps_held, value_held}
use Rattle.aig_replay.specs.Starting.{AreBits}

-- a value of its character
value_back : (v : Val) → value_held (character_of v) ≡ v
value_back Zero = refl
value_back One = refl
value_back X = refl

pub values_back : (vs : List Val) → map value_held (values_text vs) ≡ vs
values_back [] = refl
values_back (v ∷ vs) = ap₂ (λ x xs. x ∷ xs) (value_back v) (values_back vs)

-- the steps up to one, of the characters of all
pub steps_back : (inputs n : ℕ) (steps : List (List Val))
    → AllByRecursion (λ (step : List Val). length step ≡ inputs) steps → n ≤ length steps
    → steps_held inputs n (flat_map values_text steps) ≡ take n steps
steps_back inputs zero steps long few = refl
steps_back inputs (suc n) [] long few = absurd (omega (arith, few))
steps_back inputs (suc n) (v ∷ vs) long few =
    let text = values_text v in
    let others = flat_map values_text vs in
    let fits : inputs ≡ length text = omega (arith, length-map v character_of, long.0) in
    let front : take inputs (text ++ others) ≡ text =
    ap (λ (k : ℕ). take k (text ++ others)) fits ∙ take-append_seam text others in
    let back : drop inputs (text ++ others) ≡ others =
    ap (λ (k : ℕ). drop k (text ++ others)) fits ∙ drop-append_seam text others in
    ap₂ (λ x xs. x ∷ xs) (ap (map value_held) front ∙ values_back v)
    (ap (steps_held inputs n) back ∙ steps_back inputs n vs long.1 (omega (arith, few)))

-- a character of its value
character_back : (b : ℕ) → (b ≡ 48) ⊎ (b ≡ 49) → b ≡ character_of (value_held b)
character_back b (inl is) = rw is refl
character_back b (inr is) = rw is refl

pub characters_back : (bits : List ℕ) → AreBits bits → bits ≡ values_text (map value_held bits)
characters_back [] are = refl
characters_back (b ∷ bs) are = ap₂ (λ x xs. x ∷ xs) (character_back b are.0) (characters_back bs are.1)

pub bits_taken : (n : ℕ) (bits : List ℕ) → AreBits bits → AreBits (take n bits)
bits_taken zero bits are = tt
bits_taken (suc n) [] are = tt
bits_taken (suc n) (b ∷ bs) are = (are.0, bits_taken n bs are.1)

pub bits_left : (n : ℕ) (bits : List ℕ) → AreBits bits → AreBits (drop n bits)
bits_left zero bits are = are
bits_left (suc n) [] are = tt
bits_left (suc n) (b ∷ bs) are = bits_left n bs are.1

held_bytes : (inputs n : ℕ) (bits : List ℕ) → AreBits bits
    → take (n * inputs) bits ≡ flat_map values_text (steps_held inputs n bits)
held_bytes inputs zero bits are =
    let none : zero * inputs ≡ 0 = omega arith in ap (λ (k : ℕ). take k bits) none
held_bytes inputs (suc n) bits are =
    let more : suc n * inputs ≡ inputs + n * inputs = omega (arith, suc-mul n inputs) in
    ap (λ (k : ℕ). take k bits) more
    ∙ take-add inputs (n * inputs) bits
    ∙ ap₂ (λ xs ys. xs ++ ys) (characters_back (take inputs bits) (bits_taken inputs bits are))
    (held_bytes inputs n (drop inputs bits) (bits_left inputs bits are))

held_long : (inputs n : ℕ) (bits : List ℕ) → n * inputs ≤ length bits
    → AllByRecursion (λ (step : List Val). length step ≡ inputs) (steps_held inputs n bits)
held_long inputs zero bits room = tt
held_long inputs (suc n) bits room = (
  length-map (take inputs bits) value_held
      ∙ length-take-le inputs bits (omega (arith, room, suc-mul n inputs)),
  held_long inputs n (drop inputs bits) (omega (arith, room, suc-mul n inputs, length-drop inputs bits)),
)

held_many : (inputs n : ℕ) (bits : List ℕ) → length (steps_held inputs n bits) ≡ n
held_many inputs zero bits = refl
held_many inputs (suc n) bits = ap suc (held_many inputs n (drop inputs bits))

pub steps_said_held : (inputs n : ℕ) (bits : List ℕ) → AreBits bits → n * inputs ≤ length bits
    → SaysSteps inputs n (take (n * inputs) bits) (steps_held inputs n bits)
steps_said_held inputs n bits are room = record {
  bytes_are = held_bytes inputs n bits are;
  long = held_long inputs n bits room;
  many = held_many inputs n bits;
}
