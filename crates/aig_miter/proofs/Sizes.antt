-- How much a miter has.
use Rattle.std.proofs.Common.{◌≡◌, ◌+◌, ◌*◌, ◌≤◌, ◌==◌, ◌++◌, ◌∙◌, ℕ, suc, List, [], ◌∷◌, Bool, ap, ap₂, arith}
use Rattle.std.proofs.Common.{eqb, false, if◌then◌else◌, length, length-append, map, min, ne_eqb, refl}
use Rattle.std.proofs.Common.{sym, true, ⊎_elim}
use Rattle.std.specs.List.{All, AllByRecursion}
use Rattle.std.proofs.lemmas.Bool.Decides.{eqb_tells}
use Rattle.std.proofs.lemmas.List.{length-map}
use Rattle.std.proofs.lemmas.List.Elements.{All-from_recursion}
use Rattle.aig_circuit.specs.declared.circuit.Circuit.{Circuit}
use Rattle.aig_circuit.specs.declared.circuit.Gate.{Gate}
use Rattle.aig_circuit.specs.declared.circuit.Latch.{Latch}
use Rattle.aig_circuit.specs.declared.circuit.Reset.{Reset}
use Rattle.aig_circuit.specs.declared.circuit.Reset.TheVariants as resets
use Rattle.aig_circuit.specs.declared.circuit.TheConstants.{LARGEST}
use Rattle.aig_circuit.specs.Literal.{literal_of, negation_of}
use Rattle.aig_circuit.specs.Wellformed.{IsVariableUpTo, IsWellFormed}
use Rattle.aig_circuit.proofs.Checking.{all_weaker, back, front}
use Rattle.aig_image.specs.Relabelled.{relabelled_gate, relabelled_latch, relabelled_literal}
use Rattle.aig_miter.specs.Miter.{compared, differences, first_compared, moved, plain_miter, shifted}
use Rattle.aig_miter.specs.Outcome.{miter_steps}
use Rattle.aig_miter.specs.Parts.Comparable.{AreComparable, more_for}
use Rattle.aig_miter.specs.Starts.{free_among, free_literals, free_only, miter, negations, pairs, started_miter}

pub differences_min : (v : ℕ) (xs ys : List ℕ) → length (differences v xs ys) ≡ min (length xs) (length ys)
differences_min v [] ys = omega arith
differences_min v (x ∷ xs) [] = omega arith
differences_min v (x ∷ xs) (y ∷ ys) = omega (arith, differences_min (v + 3) xs ys)

differences_many : (v : ℕ) (xs ys : List ℕ) → length ys ≡ length xs → length (differences v xs ys) ≡ length xs
differences_many v xs ys e = omega (arith, differences_min v xs ys, e)

pub compared_many : (c d : Circuit) → AreComparable c d → length (compared (moved c d)) ≡ length (compared c)
compared_many c d fit =
    length-append (moved c d).outputs (moved c d).bad
    ∙ ap₂ (λ (x y : ℕ). x + y) (length-map d.outputs (relabelled_literal (shifted c.max_var)))
    (length-map d.bad (relabelled_literal (shifted c.max_var)))
    ∙ sym (length-append d.outputs d.bad) ∙ fit.seen

bad_many : (c d : Circuit) → AreComparable c d
    → length (plain_miter c d).bad ≡ length (compared c) + length d.constraints
bad_many c d fit =
    length-append (differences (first_compared c d) (compared c) (compared (moved c d)))
    (map negation_of (moved c d).constraints)
    ∙ ap₂ (λ (x y : ℕ). x + y)
    (differences_many (first_compared c d) (compared c) (compared (moved c d)) (compared_many c d fit))
    (length-map (moved c d).constraints negation_of
    ∙ length-map d.constraints (relabelled_literal (shifted c.max_var)))

-- the variables of inputs are not too large
pub inputs_low : (c : Circuit) → IsWellFormed c → All (λ v. v ≤ LARGEST) c.inputs
inputs_low c good =
    let P : ℕ → Type 0 = IsVariableUpTo c.max_var in
    let latches = map (λ (l : Latch). l.var) c.latches in
    let gates = map (λ (g : Gate). g.var) c.gates in
    All-from_recursion (λ v. v ≤ LARGEST) c.inputs
    (all_weaker P (λ v. v ≤ LARGEST) (λ v range. omega (arith, range.1, good.limits.max_var)) c.inputs
    (front P c.inputs latches (front P (c.inputs ++ latches) gates good.in_range)))

pub latches_low : (c : Circuit) → IsWellFormed c → All (λ (l : Latch). l.var ≤ LARGEST) c.latches
latches_low c good =
    let P : ℕ → Type 0 = IsVariableUpTo c.max_var in
    let latches = map (λ (l : Latch). l.var) c.latches in
    let gates = map (λ (g : Gate). g.var) c.gates in
    All-from_recursion (λ (l : Latch). l.var ≤ LARGEST) c.latches
    (each_low c.latches
    (all_weaker P (λ v. v ≤ LARGEST) (λ v range. omega (arith, range.1, good.limits.max_var)) latches
    (back P c.inputs latches (front P (c.inputs ++ latches) gates good.in_range)))) where
      each_low : (ls : List Latch) → AllByRecursion (λ v. v ≤ LARGEST) (map (λ (l : Latch). l.var) ls)
          → AllByRecursion (λ (l : Latch). l.var ≤ LARGEST) ls
      each_low [] low = tt
      each_low (l ∷ ls) low = (low.0, each_low ls low.1)

-- so are those of latches behind others
pub moved_low : (n : ℕ) (c : Circuit) → IsWellFormed c → n + c.max_var ≤ LARGEST
    → All (λ (l : Latch). l.var ≤ LARGEST) (map (relabelled_latch (shifted n)) c.latches)
moved_low n c good room =
    let P : ℕ → Type 0 = IsVariableUpTo c.max_var in
    let latches = map (λ (l : Latch). l.var) c.latches in
    let gates = map (λ (g : Gate). g.var) c.gates in
    All-from_recursion (λ (l : Latch). l.var ≤ LARGEST) (map (relabelled_latch (shifted n)) c.latches)
    (each_low c.latches
    (all_weaker P (λ v. v ≤ c.max_var) (λ v range. range.1) latches
    (back P c.inputs latches (front P (c.inputs ++ latches) gates good.in_range)))) where
      low_shifted : (v : ℕ) → v ≤ c.max_var → shifted n v ≤ LARGEST
      low_shifted v low =
          ⊎_elim (λ (t : (eqb v 0 ≡ true) × (v ≡ 0)). rw t.0 (omega arith))
          (λ (f : (eqb v 0 ≡ false) × ¬ (v ≡ 0)). rw f.0 (omega (arith, low, room))) (eqb_tells v 0)

      each_low : (ls : List Latch) → AllByRecursion (λ v. v ≤ c.max_var) (map (λ (l : Latch). l.var) ls)
          → AllByRecursion (λ (l : Latch). l.var ≤ LARGEST) (map (relabelled_latch (shifted n)) ls)
      each_low [] low = tt
      each_low (l ∷ ls) low = (low_shifted l.var low.0, each_low ls low.1)

-- ---- uninitialised latches

pub moved_resets : (h : ℕ → ℕ) (ls : List Latch)
    → map (λ (l : Latch). l.reset) (map (relabelled_latch h) ls) ≡ map (λ (l : Latch). l.reset) ls
moved_resets h [] = refl
moved_resets h (l ∷ ls) = ap (λ (xs : List Reset). l.reset ∷ xs) (moved_resets h ls)

pub free_as_many : {S T : Type 0} (rs : List Reset) (xs : List S) (ys : List T) → length xs ≡ length ys
    → length (free_only rs xs) ≡ length (free_only rs ys)
free_as_many [] xs ys e = refl
free_as_many (r ∷ rs) [] [] e = refl
free_as_many (r ∷ rs) [] (y ∷ ys) e = absurd (omega (arith, e))
free_as_many (r ∷ rs) (x ∷ xs) [] e = absurd (omega (arith, e))
free_as_many (resets.Zero ∷ rs) (x ∷ xs) (y ∷ ys) e = free_as_many rs xs ys (omega (arith, e))
free_as_many (resets.One ∷ rs) (x ∷ xs) (y ∷ ys) e = free_as_many rs xs ys (omega (arith, e))
free_as_many (resets.Uninit ∷ rs) (x ∷ xs) (y ∷ ys) e =
    ap (λ (n : ℕ). suc n) (free_as_many rs xs ys (omega (arith, e)))

pub free_moved : (h : ℕ → ℕ) (ls : List Latch)
    → length (free_among (map (relabelled_latch h) ls)) ≡ length (free_among ls)
free_moved h ls =
    let ks = map (relabelled_latch h) ls in
    let names = λ (l : Latch). l.var in
    let starts = λ (l : Latch). l.reset in
    length-map (free_only (map starts ks) (map names ks)) literal_of
    ∙ ap (λ (rs : List Reset). length (free_only rs (map names ks))) (moved_resets h ls)
    ∙ free_as_many (map starts ls) (map names ks) (map names ls)
    (length-map ks names ∙ length-map ls (relabelled_latch h) ∙ sym (length-map ls names))
    ∙ sym (length-map (free_only (map starts ls) (map names ls)) literal_of)

pub pairs_moved : (c d : Circuit) → min (length (free_literals c)) (length (free_literals (moved c d))) ≡ pairs c d
pairs_moved c d = ap (λ (n : ℕ). min (length (free_literals c)) n) (free_moved (shifted c.max_var) d.latches)

pub steps_moved : (c d : Circuit) → miter_steps c (moved c d) ≡ miter_steps c d
steps_moved c d =
    omega (
      arith,
      length-map d.gates (relabelled_gate (shifted c.max_var)),
      length-map d.inputs (shifted c.max_var),
      pairs_moved c d,
    )

pub negations_many : (v : ℕ) (xs : List ℕ) → length (negations v xs) ≡ length xs
negations_many v [] = refl
negations_many v (x ∷ xs) = ap (λ (n : ℕ). suc n) (negations_many (v + 1) xs)

pub as_plain : (c d : Circuit) → pairs c d ≡ 0 → miter c d ≡ plain_miter c d
as_plain c d none = ap (λ (n : ℕ). if n == 0 then plain_miter c d else started_miter c d) none

pub as_started : (c d : Circuit) → ¬ (pairs c d ≡ 0) → miter c d ≡ started_miter c d
as_started c d some =
    ap (λ (t : Bool). if t then plain_miter c d else started_miter c d) (ne_eqb (pairs c d) 0 some)

unequal_many : (c d : Circuit)
    → length (differences ((plain_miter c d).max_var + 1 + 1) (free_literals c) (free_literals (moved c d))) ≡ pairs c d
unequal_many c d =
    differences_min ((plain_miter c d).max_var + 1 + 1) (free_literals c) (free_literals (moved c d)) ∙ pairs_moved c d

pub miter_variables : (c d : Circuit)
    → (miter c d).max_var ≡ c.max_var + d.max_var + 3 * length (compared c) + more_for (pairs c d)
miter_variables c d =
    ⊎_elim
    (λ (t : (eqb (pairs c d) 0 ≡ true) × (pairs c d ≡ 0)).
    ap (λ (m : Circuit). m.max_var) (as_plain c d t.1)
    ∙ omega (arith, ap more_for t.1))
    (λ (f : (eqb (pairs c d) 0 ≡ false) × ¬ (pairs c d ≡ 0)).
    let more : more_for (pairs c d) ≡ 1 + 4 * pairs c d =
    ap (λ (t : Bool). if t then 0 else 1 + 4 * pairs c d) f.0 in
    ap (λ (m : Circuit). m.max_var) (as_started c d f.1)
    ∙ omega (arith, more, unequal_many c d))
    (eqb_tells (pairs c d) 0)

pub miter_bad : (c d : Circuit) → AreComparable c d
    → length (miter c d).bad ≡ length (compared c) + length d.constraints
miter_bad c d fit =
    ⊎_elim
    (λ (t : (eqb (pairs c d) 0 ≡ true) × (pairs c d ≡ 0)).
    ap (λ (m : Circuit). length m.bad) (as_plain c d t.1) ∙ bad_many c d fit)
    (λ (f : (eqb (pairs c d) 0 ≡ false) × ¬ (pairs c d ≡ 0)).
    ap (λ (m : Circuit). length m.bad) (as_started c d f.1) ∙ bad_many c d fit)
    (eqb_tells (pairs c d) 0)

pub miter_constraints : (c d : Circuit) → length (miter c d).constraints ≡ length c.constraints + pairs c d
miter_constraints c d =
    let later = (plain_miter c d).max_var + 1 in
    let unequal = differences (later + 1) (free_literals c) (free_literals (moved c d)) in
    let shown = negations (later + 1 + 3 * length unequal) unequal in
    ⊎_elim
    (λ (t : (eqb (pairs c d) 0 ≡ true) × (pairs c d ≡ 0)).
    ap (λ (m : Circuit). length m.constraints) (as_plain c d t.1) ∙ omega (arith, t.1))
    (λ (f : (eqb (pairs c d) 0 ≡ false) × ¬ (pairs c d ≡ 0)).
    ap (λ (m : Circuit). length m.constraints) (as_started c d f.1)
    ∙ length-append c.constraints shown
    ∙ ap (λ (n : ℕ). length c.constraints + n)
    (negations_many (later + 1 + 3 * length unequal) unequal ∙ unequal_many c d))
    (eqb_tells (pairs c d) 0)
