-- The inputs of runs as characters.
use Rattle.std.proofs.Common.{◌≡◌, ◌*◌, ◌<◌, ◌∙◌, ◌∷◌, ℕ, zero, suc, List, [], Option, ap, ap₂, arith, drop, is_some}
use Rattle.std.proofs.Common.{length, refl, sym, take, true, All, flat_map, drop-drop, drop_at, length-append, take_at}
use Rattle.std.proofs.lemmas.List.{length-map}
use Rattle.std.proofs.lemmas.List.Elements.{All-head, All-tail}
use Rattle.aig_circuit.specs.declared.value.Val.{Val}
use Rattle.aig_step.specs.Stimulus.{values_of}
use Rattle.aig_step.proofs.LineValues.{says_values}
use Rattle.aig_step.specs.TraceText.{character_of, values_text}
use Rattle.aig_lanes.specs.Parts.Vectors.{AreVectors, said, vectors_in}
use Rattle.aig_lanes.proofs.Side.Sheets.{steps_within, one_more}

abbrev HaveLength : ℕ → List (List Val) → Type 0
HaveLength inputs vs = All (λ (vector : List Val). length vector ≡ inputs) vs

-- where the characters of vectors stand one after the other, the first ones say the first
first_said : (inputs : ℕ) (v : List Val) (vs : List (List Val)) → length v ≡ inputs
    → take inputs (flat_map values_text (v ∷ vs)) ≡ values_text v
first_said inputs v vs long =
    take_at (values_text v) (flat_map values_text vs) inputs (length-map v character_of ∙ long)

rest_said : (inputs : ℕ) (v : List Val) (vs : List (List Val)) → length v ≡ inputs
    → drop inputs (flat_map values_text (v ∷ vs)) ≡ flat_map values_text vs
rest_said inputs v vs long =
    drop_at (values_text v) (flat_map values_text vs) inputs (length-map v character_of ∙ long)

-- and so all are said
pub vectors_said : (inputs : ℕ) (vs : List (List Val)) → HaveLength inputs vs
    → vectors_in inputs inputs (length vs) (flat_map values_text vs) ≡ vs
vectors_said inputs [] long = refl
vectors_said inputs (v ∷ vs) long =
    let fits : List Val → Type 0 = λ vector. length vector ≡ inputs in
    let first : length v ≡ inputs = All-head fits v vs long in
    ap₂ (λ (w : List Val) ws. w ∷ ws)
    (ap (λ (t : List ℕ). said (values_of t)) (first_said inputs v vs first) ∙ ap said (says_values v))
    (ap (vectors_in inputs inputs (length vs)) (rest_said inputs v vs first)
    ∙ vectors_said inputs vs (All-tail fits v vs long))

within_text : (inputs : ℕ) (vs : List (List Val)) → HaveLength inputs vs
    → length (flat_map values_text vs) ≡ length vs * inputs
within_text inputs [] long = omega arith
within_text inputs (v ∷ vs) long =
    let fits : List Val → Type 0 = λ vector. length vector ≡ inputs in
    let first : length v ≡ inputs = All-head fits v vs long in
    omega (
      arith,
      length-append (values_text v) (flat_map values_text vs),
      length-map v character_of,
      first,
      within_text inputs vs (All-tail fits v vs long),
      one_more (length vs) inputs,
    )

good_text : (inputs : ℕ) (vs : List (List Val)) (k : ℕ) → HaveLength inputs vs → k < length vs
    → is_some (values_of (take inputs (drop (k * inputs) (flat_map values_text vs)))) ≡ true
good_text inputs [] k long below = absurd (omega (arith, below))
good_text inputs (v ∷ vs) zero long below =
    let fits : List Val → Type 0 = λ vector. length vector ≡ inputs in
    let none : 0 * inputs ≡ 0 = omega arith in
    ap (λ (n : ℕ). is_some (values_of (take inputs (drop n (flat_map values_text (v ∷ vs)))))) none
    ∙ ap (λ (t : List ℕ). is_some (values_of t)) (first_said inputs v vs (All-head fits v vs long))
    ∙ ap (λ (o : Option (List Val)). is_some o) (says_values v)
good_text inputs (v ∷ vs) (suc k) long below =
    let fits : List Val → Type 0 = λ vector. length vector ≡ inputs in
    let text = flat_map values_text (v ∷ vs) in
    ap (λ (n : ℕ). is_some (values_of (take inputs (drop n text)))) (one_more k inputs)
    ∙ ap (λ (t : List ℕ). is_some (values_of (take inputs t)))
    (sym (drop-drop (k * inputs) inputs text)
    ∙ ap (drop (k * inputs)) (rest_said inputs v vs (All-head fits v vs long)))
    ∙ good_text inputs vs k (All-tail fits v vs long) (omega (arith, below))

pub are_vectors : (inputs : ℕ) (vs : List (List Val)) → HaveLength inputs vs
    → AreVectors inputs inputs (length vs) (flat_map values_text vs)
are_vectors inputs vs long = record {
  within = λ k below. omega (arith, steps_within k (length vs) inputs below, within_text inputs vs long);
  good = λ k below. good_text inputs vs k long below;
}
