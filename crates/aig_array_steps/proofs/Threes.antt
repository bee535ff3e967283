-- Words in threes, and the rows of inputs, latches and gates.
use Rattle.std.proofs.Common.{◌≡◌, ◌⊎◌, ◌+◌, ◌*◌, ◌<◌, ◌≤◌, ◌++◌, ◌∷◌, ◌∙◌, ℕ, zero, suc, List, [], length, map, refl}
use Rattle.std.proofs.Common.{◌↔◌, ◌-◌, ◌≢◌, add-one, drop, eqb, false, get_or, take, true, ap, ap₂, arith, sym, inl}
use Rattle.std.proofs.Common.{inr, ⊎_elim, All, length-append}
use Rattle.std.specs.List.{AllByRecursion, concat}
use Rattle.std.proofs.lemmas.Bool.Decides.{eqb_tells}
use Rattle.std.proofs.lemmas.List.{length-drop, take_all}
use Rattle.aig_checked.specs.Parts.Numbered.{AreNumbered, IsInputOf, IsLatchOf, IsNumberedGateOf}
use Rattle.aig_circuit.specs.Literal.{literal_of, variable_of}
use Rattle.aig_circuit.specs.declared.circuit.Gate.{Gate}
use Rattle.aig_circuit.specs.declared.circuit.Latch.{Latch}
use Rattle.aig_circuit.specs.declared.circuit.Reset.{Reset}
use Rattle.aig_circuit.specs.declared.circuit.Reset.TheVariants as resets
use Rattle.aig_circuit.specs.Form.{IsLiteralUpTo}
use Rattle.aig_rows.specs.Rows.{gate_row, input_row, latch_row, reset_number, reset_of}
use Rattle.aig_array_steps.specs.Parts.Words.{AreGateWords, AreInThrees, AreLatchWords, IsInputWord, gate_in, gates_in}
use Rattle.aig_array_steps.specs.Parts.Words.{in_threes, latch_in, latches_in}

module _ {X : Type 0} (entry : ℕ → ℕ → ℕ → X) where
  pub threes_length : (words : List ℕ) (k : ℕ) → length words ≡ 3 * k → length (in_threes entry words) ≡ k
  threes_length [] k e = omega arith
  threes_length (x ∷ []) k e = absurd (omega arith)
  threes_length (x ∷ y ∷ []) k e = absurd (omega arith)
  threes_length (x ∷ y ∷ z ∷ words) zero e = absurd (omega arith)
  threes_length (x ∷ y ∷ z ∷ words) (suc k) e = ap suc (threes_length words k (omega arith))

-- the words after the first three, as a pattern has them
abbrev pub behind : List ℕ → List ℕ
behind words = take (length words - 3) (drop 3 words)

pub behind_is : (words : List ℕ) → behind words ≡ drop 3 words
behind_is words = take_all (length words - 3) (drop 3 words) (omega (arith, length-drop 3 words))

pub behind_length : (words : List ℕ) → 3 ≤ length words → length (behind words) + 3 ≡ length words
behind_length words long = omega (arith, ap length (behind_is words), length-drop 3 words)

-- the first three words, and those after them
module _ (AreRight : ℕ → ℕ → ℕ → ℕ → Type 0) where
  pub right_ahead : (v : ℕ) (words : List ℕ) → 3 ≤ length words → AreInThrees AreRight v words
      ↔ (AreRight v (get_or words 0 0) (get_or words 1 0) (get_or words 2 0)
      × AreInThrees AreRight (v + 1) (behind words))
  right_ahead v [] long = absurd (omega arith)
  right_ahead v (x ∷ []) long = absurd (omega arith)
  right_ahead v (x ∷ y ∷ []) long = absurd (omega arith)
  right_ahead v (x ∷ y ∷ z ∷ words) long =
      rw (behind_is (x ∷ y ∷ z ∷ words), add-one v) (λ h. h, λ h. h)

  pub none_ahead : (v : ℕ) (words : List ℕ) → length words < 3 → AreInThrees AreRight v words
  none_ahead v [] short = tt
  none_ahead v (x ∷ []) short = tt
  none_ahead v (x ∷ y ∷ []) short = tt
  none_ahead v (x ∷ y ∷ z ∷ words) short = absurd (omega arith)

-- the next state of a latch, by its place among the words
pub next_at : (words : List ℕ) (i : ℕ) (d : Latch) → i < length (latches_in words)
    → (get_or (latches_in words) i d).next ≡ get_or words (3 * i + 1) 0
next_at [] i d below = absurd (omega arith)
next_at (x ∷ []) i d below = absurd (omega arith)
next_at (x ∷ y ∷ []) i d below = absurd (omega arith)
next_at (x ∷ y ∷ z ∷ words) zero d below = refl
next_at (x ∷ y ∷ z ∷ words) (suc i) d below =
    let place : 3 * suc i + 1 ≡ suc (suc (suc (3 * i + 1))) = omega arith in
    rw place (next_at words i d (omega arith))

-- right words are the rows of their entries
module _ {X : Type 0} (entry : ℕ → ℕ → ℕ → X) (row : X → List ℕ) (AreRight : ℕ → ℕ → ℕ → ℕ → Type 0)
    (again : (v x y z : ℕ) → AreRight v x y z → row (entry x y z) ≡ x ∷ y ∷ z ∷ []) where
  pub rows_again : (v : ℕ) (words : List ℕ) (k : ℕ) → length words ≡ 3 * k → AreInThrees AreRight v words
      → concat (map row (in_threes entry words)) ≡ words
  rows_again v [] k e right = refl
  rows_again v (x ∷ []) k e right = absurd (omega arith)
  rows_again v (x ∷ y ∷ []) k e right = absurd (omega arith)
  rows_again v (x ∷ y ∷ z ∷ words) zero e right = absurd (omega arith)
  rows_again v (x ∷ y ∷ z ∷ words) (suc k) e right =
      ap₂ (λ (xs ys : List ℕ). xs ++ ys) (again v x y z right.0) (rows_again (suc v) words k (omega arith) right.1)

pub gate_rows_again : (v : ℕ) (words : List ℕ) (k : ℕ) → length words ≡ 3 * k → AreInThrees AreGateWords v words
    → concat (map gate_row (gates_in words)) ≡ words
gate_rows_again = rows_again gate_in gate_row AreGateWords again where
  again : (v x y z : ℕ) → AreGateWords v x y z → gate_row (gate_in x y z) ≡ x ∷ y ∷ z ∷ []
  again v x y z right = let e : literal_of (variable_of x) ≡ x = omega (arith, right.0) in ap (λ w. w ∷ y ∷ z ∷ []) e

-- a reset is decoded from its word
reset_again : (own reset : ℕ) → (reset ≤ 1) ⊎ (reset ≡ own) → reset_number own (reset_of reset) ≡ reset
reset_again own reset h =
    ⊎_elim (λ (t : (eqb reset 0 ≡ true) × (reset ≡ 0)). rw t.0 (sym t.1))
    (λ (f : (eqb reset 0 ≡ false) × (reset ≢ 0)). ⊎_elim
    (λ (t : (eqb reset 1 ≡ true) × (reset ≡ 1)). rw (f.0, t.0) (sym t.1))
    (λ (g : (eqb reset 1 ≡ false) × (reset ≢ 1)). rw (f.0, g.0) (⊎_elim
    (λ (low : reset ≤ 1). absurd (omega (arith, low, f.1, g.1))) (λ (e : reset ≡ own). sym e) h))
    (eqb_tells reset 1)) (eqb_tells reset 0)

pub latch_rows_again : (highest v : ℕ) (words : List ℕ) (k : ℕ) → length words ≡ 3 * k
    → AreInThrees (AreLatchWords highest) v words → concat (map latch_row (latches_in words)) ≡ words
latch_rows_again highest = rows_again latch_in latch_row (AreLatchWords highest) again where
  again : (v x y z : ℕ) → AreLatchWords highest v x y z → latch_row (latch_in x y z) ≡ x ∷ y ∷ z ∷ []
  again v x y z right =
      let e : literal_of (variable_of x) ≡ x = omega (arith, right.0) in
      ap (λ w. w ∷ y ∷ reset_number w (reset_of z) ∷ []) e
      ∙ ap (λ w. x ∷ y ∷ w ∷ []) (reset_again x z right.2)

-- and tell entries that are numbered
pub gates_numbered : (v : ℕ) (words : List ℕ) → AreInThrees AreGateWords v words
    → AreNumbered IsNumberedGateOf v (gates_in words)
gates_numbered v [] right = tt
gates_numbered v (x ∷ []) right = tt
gates_numbered v (x ∷ y ∷ []) right = tt
gates_numbered v (x ∷ y ∷ z ∷ words) right =
    let e : variable_of x ≡ v = omega (arith, right.0.0) in (
      (e, omega (arith, right.0.1), omega (arith, right.0.2)),
      gates_numbered (suc v) words right.1,
    )

pub latches_numbered : (highest v : ℕ) (words : List ℕ) → AreInThrees (AreLatchWords highest) v words
    → AreNumbered IsLatchOf v (latches_in words)
latches_numbered highest v [] right = tt
latches_numbered highest v (x ∷ []) right = tt
latches_numbered highest v (x ∷ y ∷ []) right = tt
latches_numbered highest v (x ∷ y ∷ z ∷ words) right =
    (omega (arith, right.0.0), latches_numbered highest (suc v) words right.1)

pub next_up_to : (m v : ℕ) (words : List ℕ) → AreInThrees (AreLatchWords (2 * m + 1)) v words
    → AllByRecursion (IsLiteralUpTo m) (map (λ (l : Latch). l.next) (latches_in words))
next_up_to m v [] right = tt
next_up_to m v (x ∷ []) right = tt
next_up_to m v (x ∷ y ∷ []) right = tt
next_up_to m v (x ∷ y ∷ z ∷ words) right = (omega (arith, right.0.1), next_up_to m (suc v) words right.1)

pub inputs_numbered : (v : ℕ) (words : List ℕ) → AreNumbered IsInputWord v words
    → AreNumbered IsInputOf v (map variable_of words)
inputs_numbered v [] right = tt
inputs_numbered v (x ∷ words) right = (omega (arith, right.0), inputs_numbered (suc v) words right.1)

pub input_rows_again : (v : ℕ) (words : List ℕ) → AreNumbered IsInputWord v words
    → concat (map input_row (map variable_of words)) ≡ words
input_rows_again v [] right = refl
input_rows_again v (x ∷ words) right =
    ap₂ (λ (w : ℕ) ws. w ∷ ws) (omega (arith, right.0)) (input_rows_again (suc v) words right.1)

-- The words of entries that are numbered are right.
pub input_words : (v : ℕ) (inputs : List ℕ) → AreNumbered IsInputOf v inputs
    → AreNumbered IsInputWord v (concat (map input_row inputs))
input_words v [] right = tt
input_words v (x ∷ xs) right = (omega (arith, right.0), input_words (suc v) xs right.1)

reset_right : (own : ℕ) (reset : Reset) → (reset_number own reset ≤ 1) ⊎ (reset_number own reset ≡ own)
reset_right own resets.Zero = inl (omega arith)
reset_right own resets.One = inl (omega arith)
reset_right own resets.Uninit = inr refl

pub latch_words : (m v : ℕ) (latches : List Latch) → AreNumbered IsLatchOf v latches
    → AllByRecursion (IsLiteralUpTo m) (map (λ (l : Latch). l.next) latches)
    → AreInThrees (AreLatchWords (2 * m + 1)) v (concat (map latch_row latches))
latch_words m v [] right up_to = tt
latch_words m v (l ∷ ls) right up_to = (
  (omega (arith, right.0), omega (arith, up_to.0), reset_right (literal_of l.var) l.reset),
  latch_words m (suc v) ls right.1 up_to.1,
)

pub gate_words : (v : ℕ) (gates : List Gate) → AreNumbered IsNumberedGateOf v gates
    → AreInThrees AreGateWords v (concat (map gate_row gates))
gate_words v [] right = tt
gate_words v (g ∷ gs) right = (
  (omega (arith, right.0.0), omega (arith, right.0.0, right.0.1), omega (arith, right.0.0, right.0.2)),
  gate_words (suc v) gs right.1,
)

-- the next states of latches that are right
pub nexts_low : (highest v : ℕ) (words : List ℕ) → AreInThrees (AreLatchWords highest) v words
    → All (λ (l : Latch). l.next ≤ highest) (latches_in words)
nexts_low highest v [] right k d below = absurd (omega arith)
nexts_low highest v (x ∷ []) right k d below = absurd (omega arith)
nexts_low highest v (x ∷ y ∷ []) right k d below = absurd (omega arith)
nexts_low highest v (x ∷ y ∷ z ∷ words) right zero d below = right.0.1
nexts_low highest v (x ∷ y ∷ z ∷ words) right (suc k) d below =
    nexts_low highest (suc v) words right.1 k d (omega arith)

-- how many words rows have
pub input_words_length : (inputs : List ℕ) → length (concat (map input_row inputs)) ≡ length inputs
input_words_length [] = refl
input_words_length (x ∷ xs) = ap suc (input_words_length xs)

module _ {X : Type 0} (row : X → List ℕ) (three : (x : X) → length (row x) ≡ 3) where
  pub rows_length : (xs : List X) → length (concat (map row xs)) ≡ 3 * length xs
  rows_length [] = refl
  rows_length (x ∷ xs) =
      omega (arith, length-append (row x) (concat (map row xs)), three x, rows_length xs)
