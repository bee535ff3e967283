-- The plain miter of two well-formed circuits is well formed.
use Rattle.std.proofs.Common.{◌≡◌, ◌+◌, ◌-◌, ◌<◌, ◌≤◌, ◌++◌, ◌∙◌, ℕ, List, [], ◌∷◌, None, ap}
use Rattle.std.proofs.Common.{ne_eqb, append_assoc, arith, length, map, refl, subst, sym}
use Rattle.std.specs.List.{AllByRecursion}
use Rattle.std.proofs.lemmas.List.{length-map}
use Rattle.aig_circuit.specs.declared.circuit.Circuit.{Circuit}
use Rattle.aig_circuit.specs.declared.circuit.Gate.{Gate}
use Rattle.aig_circuit.specs.Literal.{negation_of}
use Rattle.aig_circuit.specs.Wellformed.{IsVariableUpTo, IsWellFormed, defined_variables, largest_index}
use Rattle.aig_circuit.proofs.Checking.{all_weaker, joined}
use Rattle.aig_image.proofs.Relabelling.Formed.{all_through, defined_relabelled, form_is_kept}
use Rattle.aig_image.proofs.Relabelling.Relabelled.{names_only}
use Rattle.aig_meaning.proofs.Related.{AreDefined, IsDefined, known_bad, known_constraints, known_outputs}
use Rattle.aig_miter.specs.Parts.Comparable.{AreComparable}
use Rattle.aig_miter.specs.Miter.{compared, differences, differing, first_compared, plain_miter, moved, shifted, tied}
use Rattle.aig_miter.proofs.Formed.Beside.{beside, beside_formed, known_there, there, there_too}
use Rattle.aig_unroll.proofs.Growing.{negation_known}
use Rattle.aig_miter.proofs.Sizes.{compared_many}
use Rattle.aig_miter.proofs.Formed.Compared.{HasGrown, bad_formed, pairs_grown, still_all, with_pairs}

-- ---- the second circuit, moved

shifted_up : (n v : ℕ) → 1 ≤ v → shifted n v ≡ n + v
shifted_up n v low = rw (ne_eqb v 0 (λ e. omega (arith, e, low))) refl

goes_back : (n v : ℕ) → 1 ≤ v → shifted n v - n ≡ v
goes_back n v low = omega (arith, shifted_up n v low)

is_high : (n v : ℕ) → 1 ≤ v → n < shifted n v
is_high n v low = omega (arith, shifted_up n v low, low)

shifted_range : (n k v : ℕ) → IsVariableUpTo k v → IsVariableUpTo (n + k) (shifted n v)
shifted_range n k v range =
    let up = shifted_up n v range.0 in (omega (arith, up, range.0), omega (arith, up, range.1))

-- the second circuit by variables behind those of the first, of which there are so many
abbrev second : Circuit → Circuit → Circuit
second c d = record (moved c d) { max_var = c.max_var + d.max_var; comment = None }

second_formed : (c d : Circuit) → IsWellFormed d → c.max_var + d.max_var ≤ largest_index → IsWellFormed (second c d)
second_formed c d good room =
    let n = c.max_var in
    let back : ℕ → ℕ = λ w. w - n in
    form_is_kept (shifted n) back (n + d.max_var) None d good refl
    (names_only (λ v. shifted n v - n ≡ v) d (omega arith)
    (all_weaker (IsVariableUpTo d.max_var) (λ v. shifted n v - n ≡ v) (λ v range. goes_back n v range.0)
    (defined_variables d) good.in_range) good)
    room
    (all_weaker (IsVariableUpTo d.max_var) (λ v. IsVariableUpTo (n + d.max_var) (shifted n v))
    (shifted_range n d.max_var) (defined_variables d) good.in_range)

second_high : (c d : Circuit) → IsWellFormed d → AllByRecursion (λ v. c.max_var < v) (defined_variables (second c d))
second_high c d good =
    subst (AllByRecursion (λ v. c.max_var < v)) (sym (defined_relabelled (shifted c.max_var) d))
    (all_through (IsVariableUpTo d.max_var) (λ v. c.max_var < v) (shifted c.max_var)
    (λ v range. is_high c.max_var v range.0) (defined_variables d) good.in_range)

-- ---- the miter

all_negations : (c : Circuit) (ls : List ℕ) → AreDefined c ls → AreDefined c (map negation_of ls)
all_negations c [] known = tt
all_negations c (l ∷ ls) known = (negation_known (defined_variables c) l known.0, all_negations c ls known.1)

all_compared : (c : Circuit) → IsWellFormed c → AreDefined c (compared c)
all_compared c good = joined (IsDefined c) c.outputs c.bad (known_outputs c good) (known_bad c good)

module _ (c d : Circuit) (good : IsWellFormed c) (good_too : IsWellFormed d) (fit : AreComparable c d)
    (room : (plain_miter c d).max_var ≤ largest_index) (few : length (plain_miter c d).bad ≤ largest_index) where
  abbrev e : Circuit
  e = second c d

  abbrev both : Circuit
  both = beside c e

  low : c.max_var + d.max_var ≤ largest_index
  low = omega (arith, room)

  good_e : IsWellFormed e
  good_e = second_formed c d good_too low

  many : length e.inputs ≡ length c.inputs
  many = length-map d.inputs (shifted c.max_var) ∙ fit.inputs

  high : AllByRecursion (λ v. c.max_var < v) (defined_variables e)
  high = second_high c d good_too

  fits : c.max_var ≤ e.max_var
  fits = omega arith

  good_both : IsWellFormed both
  good_both = beside_formed c e good good_e many high fits

  known_first : (l : ℕ) → IsDefined c l → IsDefined both l
  known_first l known =
      known_there (defined_variables c) (defined_variables both) (there c e good good_e many high fits) l known

  known_second : (l : ℕ) → IsDefined e l → IsDefined both l
  known_second l known =
      known_there (defined_variables e) (defined_variables both) (there_too c e good good_e many high fits) l known

  as_many : length (compared e) ≡ length (compared c)
  as_many = compared_many c d fit

  grown : HasGrown both (with_pairs (length (compared c)) (compared c) (compared e) both)
      (differences (both.max_var + 1) (compared c) (compared e))
  grown =
      pairs_grown (length (compared c)) (compared c) (compared e) both good_both (omega (arith, as_many)) room
      (still_all c both known_first (compared c) (all_compared c good))
      (still_all e both known_second (compared e) (all_compared e good_e))

  abbrev pairs : Circuit
  pairs = with_pairs (length (compared c)) (compared c) (compared e) both

  known_bads : AreDefined pairs (plain_miter c d).bad
  known_bads =
      joined (IsDefined pairs) (differences (both.max_var + 1) (compared c) (compared e))
      (map negation_of e.constraints) grown.known
      (all_negations pairs e.constraints
      (still_all both pairs grown.still e.constraints
      (still_all e both known_second e.constraints (known_constraints e good_e))))

  gates_are : pairs.gates ≡ (plain_miter c d).gates
  gates_are =
      let ties = tied c.inputs e.inputs in
      let comparing = differing (first_compared c d) (compared c) (compared e) in
      append_assoc c.gates (ties ++ e.gates) comparing
      ∙ ap (λ (gs : List Gate). c.gates ++ gs) (append_assoc ties e.gates comparing)

  formed : IsWellFormed (plain_miter c d)
  formed =
      subst (λ (gs : List Gate). IsWellFormed (record (plain_miter c d) { gates = gs })) gates_are
      (bad_formed pairs (plain_miter c d).bad grown.formed refl refl known_bads few)

pub plain_formed : (c d : Circuit) → IsWellFormed c → IsWellFormed d → AreComparable c d
    → (plain_miter c d).max_var ≤ largest_index → length (plain_miter c d).bad ≤ largest_index
    → IsWellFormed (plain_miter c d)
plain_formed c d good good_too fit room few = formed c d good good_too fit room few
