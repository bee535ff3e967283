-- The values of an answer, as characters, are a first state and steps.
use Rattle.std.proofs.Common.{◌≡◌, ◌⊎◌, ◌+◌, ◌-◌, ◌*◌, ◌<◌, ◌≤◌, ◌==◌, ◌++◌, ◌∙◌, ℕ, zero, suc, List, [], ◌∷◌, inl, inr}
use Rattle.std.proofs.Common.{ap}
use Rattle.std.proofs.Common.{Bool, None, Some, ap₂, append_assoc, arith, drop, drop-drop, eq-eqb, flat_map, get_or}
use Rattle.std.proofs.Common.{if◌then◌else◌, length, length-drop, map, refl, set, subst, suc-mul}
use Rattle.std.proofs.Common.{sym, take, take-append-drop, take_all}
use Rattle.std.specs.List.{range_with_len}
use Rattle.std.proofs.Math.Seq.{drop-cons}
use Rattle.std.proofs.lemmas.List.{drop_all, drop_more, get_or-map, length-map, take_more_set}
use Rattle.aig_circuit.specs.declared.circuit.Circuit.{Circuit}
use Rattle.aig_circuit.specs.declared.circuit.Latch.{Latch}
use Rattle.aig_circuit.specs.declared.circuit.Reset.{Reset}
use Rattle.aig_circuit.specs.declared.circuit.Reset.TheVariants as resets
use Rattle.aig_circuit.specs.declared.value.Val.{Val}
use Rattle.aig_meaning.specs.Meaning.{MeansTheSame}
use Rattle.aig_step.specs.Parts.Lines.{vector_in}
use Rattle.aig_step.specs.Stimulus.{values_of}
use Rattle.aig_step.specs.TraceText.{character_of, values_text}
use Rattle.aig_step.proofs.LineValues.{says_values}
use Rattle.aig_cnf.specs.Clauses.{truth, truths}
use Rattle.aig_unroll.specs.Unrolled.{all_inputs, resets_of, uninitialised}
use Rattle.aig_unroll.proofs.Ordering.Frames.{read_anywhere}
use Rattle.aig_reach.specs.Cut.{cut_first, cut_steps}
use Rattle.aig_reach.proofs.Cutting.{steps_long, steps_many}
use Rattle.aig_replay.specs.Finding.{SaysSteps}
use Rattle.aig_replay.specs.Starting.{AreBits, assigned, first_character, first_characters, used_by}

bit_kept : (b : ℕ) → (b ≡ 48) ⊎ (b ≡ 49) → b ≡ character_of (truth (b == 49))
bit_kept b (inl is) = rw is refl
bit_kept b (inr is) = rw is refl

-- how many values of an answer the first state uses
pub used_more : (r : Reset) (rs : List Reset) → uninitialised (r ∷ rs) ≡ used_by r + uninitialised rs
used_more resets.Zero rs = omega arith
used_more resets.One rs = omega arith
used_more resets.Uninit rs = omega arith

module _ (bits : List ℕ) (are : AreBits bits) where
  -- the character of a variable's value stands one place below its number
  read : (v i : ℕ) → v - 1 ≡ i → get_or bits i 48 ≡ character_of (truth (assigned bits v))
  read v i is =
      bit_kept (get_or bits i 48) (read_anywhere (λ (b : ℕ). (b ≡ 48) ⊎ (b ≡ 49)) 48 (inl refl) bits are i)
      ∙ ap (λ (k : ℕ). character_of (truth (get_or bits k 48 == 49))) (sym is)

  pub first_is : (used v : ℕ) (rs : List Reset) → v ≡ used + 1
      → first_characters bits used rs ≡ values_text (cut_first (assigned bits) v rs)
  first_is used v [] is = refl
  first_is used v (resets.Zero ∷ rs) is =
      ap (λ (text : List ℕ). 48 ∷ text) (first_is (used + 0) v rs (omega (arith, is)))
  first_is used v (resets.One ∷ rs) is =
      ap (λ (text : List ℕ). 49 ∷ text) (first_is (used + 0) v rs (omega (arith, is)))
  first_is used v (resets.Uninit ∷ rs) is =
      ap₂ (λ (b : ℕ) (text : List ℕ). b ∷ text) (read v used (omega (arith, is)))
      (first_is (used + 1) (v + 1) rs (omega (arith, is)))

  vector_is : (at v n : ℕ) → v ≡ at + 1 → at + n ≤ length bits
      → take n (drop at bits) ≡ values_text (map (truths (assigned bits)) (range_with_len v n))
  vector_is at v zero is fits = refl
  vector_is at v (suc n) is fits =
      ap (take (suc n)) (drop-cons bits at 48 (omega (arith, fits)))
      ∙ ap₂ (λ (b : ℕ) (text : List ℕ). b ∷ text) (read v at (omega (arith, is)))
      (vector_is (suc at) (v + 1) n (omega (arith, is)) (omega (arith, fits)))

  steps_are : (at v inputs n : ℕ) → v ≡ at + 1 → at + n * inputs ≡ length bits
      → drop at bits ≡ flat_map values_text (cut_steps (assigned bits) v inputs n)
  steps_are at v inputs zero is fits = drop_all at bits (omega (arith, fits))
  steps_are at v inputs (suc n) is fits =
      let more = suc-mul n inputs in
      sym (take-append-drop inputs (drop at bits))
      ∙ ap₂ (λ (xs ys : List ℕ). xs ++ ys) (vector_is at v inputs is (omega (arith, fits, more)))
      (drop-drop inputs at bits
      ∙ steps_are (at + inputs) (v + inputs) inputs n (omega (arith, is)) (omega (arith, fits, more)))

  pub steps_said : (at v inputs n : ℕ) → v ≡ at + 1 → at + n * inputs ≡ length bits
      → SaysSteps inputs n (drop at bits) (cut_steps (assigned bits) v inputs n)
  steps_said at v inputs n is fits = record {
    bytes_are = steps_are at v inputs n is fits;
    long = steps_long (assigned bits) v inputs n;
    many = steps_many (assigned bits) v inputs n;
  }

-- a first state has a value for each latch
first_long : (a : ℕ → Bool) (v : ℕ) (rs : List Reset) → length (cut_first a v rs) ≡ length rs
first_long a v [] = refl
first_long a v (resets.Zero ∷ rs) = ap suc (first_long a v rs)
first_long a v (resets.One ∷ rs) = ap suc (first_long a v rs)
first_long a v (resets.Uninit ∷ rs) = ap suc (first_long a (v + 1) rs)

-- one more latch
pub next_reset : (ls : List Latch) (place : ℕ) (l : Latch) → place < length ls → l ≡ get_or ls place l
    → drop place (map (λ (k : Latch). k.reset) ls) ≡ l.reset ∷ drop (place + 1) (map (λ (k : Latch). k.reset) ls)
next_reset ls place l low is =
    let rs = map (λ (k : Latch). k.reset) ls in
    drop_more rs place l.reset (omega (arith, length-map ls (λ (k : Latch). k.reset), low))
    ∙ ap (λ (r : Reset). r ∷ drop (place + 1) rs)
    (get_or-map (λ (k : Latch). k.reset) ls place l l.reset low ∙ ap (λ (k : Latch). k.reset) (sym is))

pub used_at_most : (r : Reset) → used_by r ≤ 1
used_at_most resets.Zero = omega arith
used_at_most resets.One = omega arith
used_at_most resets.Uninit = omega arith

pub used_next : (rs : List Reset) (used place all : ℕ) (r : Reset) → drop place rs ≡ r ∷ drop (place + 1) rs
    → used + uninitialised (drop place rs) ≡ all → used + used_by r + uninitialised (drop (place + 1) rs) ≡ all
used_next rs used place all r next so_far =
    omega (arith, ap uninitialised next, used_more r (drop (place + 1) rs), so_far)

pub put_next : (bits state : List ℕ) (rs : List Reset) (used place x : ℕ) (r : Reset) (all : List ℕ)
    → place < length state → drop place rs ≡ r ∷ drop (place + 1) rs → x ≡ first_character bits used r
    → take place state ++ first_characters bits used (drop place rs) ≡ all
    → take (place + 1) (set state place x) ++ first_characters bits (used + used_by r) (drop (place + 1) rs) ≡ all
put_next bits state rs used place x r all low next is so_far =
    let behind = first_characters bits (used + used_by r) (drop (place + 1) rs) in
    ap (λ (text : List ℕ). text ++ behind) (take_more_set state place x low)
    ∙ append_assoc (take place state) (x ∷ []) behind
    ∙ ap (λ (b : ℕ). take place state ++ b ∷ behind) is
    ∙ sym (ap (λ (qs : List Reset). take place state ++ first_characters bits used qs) next)
    ∙ so_far

-- what the answer's values say of the circuit that is run, which means the same
module _ (c d : Circuit) (means : MeansTheSame c d) (bits : List ℕ) (are : AreBits bits) (state : List ℕ)
    (put : state ≡ first_characters bits 0 (resets_of d)) where
  abbrev first : List Val
  first = cut_first (assigned bits) 1 (resets_of c)

  pub state_is : state ≡ values_text first
  state_is = put ∙ ap (first_characters bits 0) means.resets ∙ first_is bits are 0 1 (resets_of c) (omega arith)

  pub state_said : vector_in (length d.latches) state ≡ Some first
  state_said =
      let latches : length (resets_of d) ≡ length d.latches = length-map d.latches (λ (l : Latch). l.reset) in
      let long : length (values_text first) ≡ length d.latches =
      omega (
        arith,
        latches,
        length-map first character_of,
        first_long (assigned bits) 1 (resets_of c),
        ap length means.resets,
      ) in
      ap (vector_in (length d.latches)) state_is
      ∙ ap (λ (b : Bool). if b then values_of (values_text first) else None)
      (eq-eqb (length (values_text first)) (length d.latches) long)
      ∙ says_values first

  module _ (count used : ℕ) (uses : used ≡ uninitialised (resets_of d)) (long : length bits ≡ all_inputs c count) where
    uses_too : used ≡ uninitialised (resets_of c)
    uses_too = uses ∙ ap uninitialised means.resets

    pub enough : used ≤ length bits
    enough = omega (arith, uses_too, long)

    -- after the values that the first state used
    pub says_run : SaysSteps (length c.inputs) count (take (length bits - used) (drop used bits))
        (cut_steps (assigned bits) (1 + uninitialised (resets_of c)) (length c.inputs) count)
    says_run =
        let steps = cut_steps (assigned bits) (1 + uninitialised (resets_of c)) (length c.inputs) count in
        subst (λ (text : List ℕ). SaysSteps (length c.inputs) count text steps)
        (sym (take_all (length bits - used) (drop used bits) (omega (arith, length-drop used bits))))
        (steps_said bits are used (1 + uninitialised (resets_of c)) (length c.inputs) count (omega (arith, uses_too))
        (omega (arith, uses_too, long)))

  pub state_after : (values : List Val) → vector_in (length d.latches) state ≡ Some values → values ≡ first
  state_after values said = let says = state_said in cc

  pub state_there : vector_in (length d.latches) state ≡ None → ⊥
  state_there none = let says = state_said in let no : None ≡ Some first = sym none ∙ says in cc
