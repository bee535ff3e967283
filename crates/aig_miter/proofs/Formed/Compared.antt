-- A well-formed circuit that grows by gates that compare literals is well formed, and so it is with other bad states.
use Rattle.std.proofs.Common.{◌≡◌, ◌+◌, ◌*◌, ◌≤◌, ◌++◌, ℕ, suc, List, [], ◌∷◌, ap₂, append-nil}
use Rattle.std.proofs.Common.{append_assoc, arith, length, min, subst, sym, zero}
use Rattle.std.specs.List.{concat, flat_map}
use Rattle.aig_circuit.specs.declared.circuit.Circuit.{Circuit}
use Rattle.aig_circuit.specs.declared.circuit.Gate.{Gate}
use Rattle.aig_circuit.specs.Literal.{literal_of, negation_of}
use Rattle.aig_circuit.specs.Wellformed.{IsWellFormed, defined_variables, largest_index, literal_lists, operands}
use Rattle.aig_circuit.proofs.Checking.{back, front, joined}
use Rattle.aig_meaning.specs.Meaning.{next_literals}
use Rattle.aig_meaning.proofs.Related.{AreDefined, IsDefined}
use Rattle.aig_unroll.proofs.Growing.{gate_formed, gate_known, known_still, negation_known, with_gate}
use Rattle.aig_miter.specs.Miter.{differences, differing}

-- the circuit with the gates that compare these literals, of which there are so many pairs
abbrev pub with_pairs : ℕ → List ℕ → List ℕ → Circuit → Circuit
with_pairs n xs ys c = record c {
  max_var = c.max_var + 3 * n;
  gates = c.gates ++ differing (c.max_var + 1) xs ys;
}

pub still_all : (c d : Circuit) → ((l : ℕ) → IsDefined c l → IsDefined d l) → (ls : List ℕ) → AreDefined c ls
    → AreDefined d ls
still_all c d still [] known = tt
still_all c d still (l ∷ ls) known = (still l known.0, still_all c d still ls known.1)

-- what stands of a circuit that grew: it is well formed, what was known still is, and so are these literals
pub record HasGrown (c d : Circuit) (new : List ℕ) : Type 0 where
  pub formed : IsWellFormed d
  pub still : (l : ℕ) → IsDefined c l → IsDefined d l
  pub known : AreDefined d new

no_pairs : (n : ℕ) (c : Circuit) → 0 ≡ n → record c { max_var = c.max_var + 3 * n; gates = c.gates ++ [] } ≡ c
no_pairs n c none =
    let many : c.max_var + 3 * n ≡ c.max_var = omega (arith, none) in
    ap₂ (λ (n : ℕ) (gs : List Gate). record c { max_var = n; gates = gs }) many (append-nil c.gates)

module _ (x y : ℕ) (c : Circuit) where
  abbrev v : ℕ
  v = c.max_var + 1

  abbrev ones : Circuit
  ones = with_gate x y c

  abbrev zeros : Circuit
  zeros = with_gate (negation_of x) (negation_of y) ones

  abbrev pub three : Circuit
  three = with_gate (negation_of (literal_of v)) (negation_of (literal_of (v + 1))) zeros

  three_more : (n : ℕ) (xs ys : List ℕ) → with_pairs n xs ys three ≡ with_pairs (suc n) (x ∷ xs) (y ∷ ys) c
  three_more n xs ys =
      let many : c.max_var + 1 + 1 + 1 + 3 * n ≡ c.max_var + 3 * suc n = omega arith in
      let last : c.max_var + 1 + 1 + 1 ≡ v + 2 = omega arith in
      let next : c.max_var + 1 + 1 + 1 + 1 ≡ v + 3 = omega arith in
      ap₂ (λ (n : ℕ) (gs : List Gate). record c { max_var = n; gates = gs }) many
      (rw (next, last) (simp append_assoc))

  three_grown : IsWellFormed c → c.max_var + 3 ≤ largest_index → IsDefined c x → IsDefined c y
      → HasGrown c three (literal_of (v + 2) ∷ [])
  three_grown good room x_known y_known =
      let first_room : c.max_var + 1 ≤ largest_index = omega (arith, room) in
      let second_room : c.max_var + 1 + 1 ≤ largest_index = omega (arith, room) in
      let third_room : c.max_var + 1 + 1 + 1 ≤ largest_index = omega (arith, room) in
      let first_good = gate_formed c good x y first_room x_known y_known in
      let first_still = known_still c good x y first_room x_known y_known in
      let not_x = negation_known (defined_variables ones) x (first_still x x_known) in
      let not_y = negation_known (defined_variables ones) y (first_still y y_known) in
      let second_good = gate_formed ones first_good (negation_of x) (negation_of y) second_room not_x not_y in
      let second_still = known_still ones first_good (negation_of x) (negation_of y) second_room not_x not_y in
      let of_ones = negation_known (defined_variables zeros) (literal_of v)
      (second_still (literal_of v) (gate_known c good x y first_room x_known y_known)) in
      let of_zeros = negation_known (defined_variables zeros) (literal_of (v + 1))
      (gate_known ones first_good (negation_of x) (negation_of y) second_room not_x not_y) in
      let a = negation_of (literal_of v) in
      let b = negation_of (literal_of (v + 1)) in
      let third_still = known_still zeros second_good a b third_room of_ones of_zeros in
      let last : c.max_var + 1 + 1 + 1 ≡ v + 2 = omega arith in
      record {
        formed = gate_formed zeros second_good a b third_room of_ones of_zeros;
        still = λ l is. third_still l (second_still l (first_still l is));
        known = (
          subst (λ (k : ℕ). IsDefined three (literal_of k)) last
              (gate_known zeros second_good a b third_room of_ones of_zeros),
          tt,
        );
      }

pub pairs_grown : (n : ℕ) (xs ys : List ℕ) (c : Circuit) → IsWellFormed c → min (length xs) (length ys) ≡ n
    → c.max_var + 3 * n ≤ largest_index → AreDefined c xs → AreDefined c ys
    → HasGrown c (with_pairs n xs ys c) (differences (c.max_var + 1) xs ys)
pairs_grown n [] ys c good many room known known_too =
    subst (λ (d : Circuit). HasGrown c d []) (sym (no_pairs n c (omega (arith, many))))
    (record { formed = good; still = λ l is. is; known = tt })
pairs_grown n (x ∷ xs) [] c good many room known known_too =
    subst (λ (d : Circuit). HasGrown c d []) (sym (no_pairs n c (omega (arith, many))))
    (record { formed = good; still = λ l is. is; known = tt })
pairs_grown zero (x ∷ xs) (y ∷ ys) c good many room known known_too = absurd (omega (arith, many))
pairs_grown (suc n) (x ∷ xs) (y ∷ ys) c good many room known known_too =
    let next = three x y c in
    let one = three_grown x y c good (omega (arith, room)) known.0 known_too.0 in
    let rest = pairs_grown n xs ys next one.formed (omega (arith, many)) (omega (arith, room))
    (still_all c next one.still xs known.1) (still_all c next one.still ys known_too.1) in
    let at : next.max_var + 1 ≡ c.max_var + 1 + 3 = omega arith in
    subst (λ (d : Circuit). HasGrown c d (differences (c.max_var + 1) (x ∷ xs) (y ∷ ys))) (three_more x y c n xs ys)
    (record {
      formed = rest.formed;
      still = λ l is. rest.still l (one.still l is);
      known = (
        rest.still (literal_of (c.max_var + 1 + 2)) one.known.0,
        subst (λ (k : ℕ). AreDefined (with_pairs n xs ys next) (differences k xs ys)) at rest.known,
      );
    })

-- the circuit with these bad states in place of none
abbrev pub with_bad : List ℕ → Circuit → Circuit
with_bad bad c = record c { bad = bad }

pub bad_formed : (c : Circuit) (bad : List ℕ) → IsWellFormed c → c.bad ≡ [] → c.symbols ≡ [] → AreDefined c bad
    → length bad ≤ largest_index → IsWellFormed (with_bad bad c)
bad_formed c bad good none nameless known few =
    let P = IsDefined c in
    let behind = c.constraints ∷ c.justice.literals ∷ c.fairness ∷ [] in
    let nexts_and_lists : AreDefined c (next_literals c ++ concat (literal_lists c)) =
    front P (next_literals c ++ concat (literal_lists c)) (flat_map operands c.gates) good.known in
    let lists : AreDefined c (concat (literal_lists c)) =
    back P (next_literals c) (concat (literal_lists c)) nexts_and_lists in
    record {
      limits = record {
        max_var = good.limits.max_var;
        inputs = good.limits.inputs;
        latches = good.limits.latches;
        literals = (good.limits.literals.0, (few, good.limits.literals.1.1));
        justice = good.limits.justice;
        sizes = good.limits.sizes;
        gates = good.limits.gates;
      };
      in_range = good.in_range;
      once = good.once;
      known =
          joined P (next_literals c ++ concat (literal_lists (with_bad bad c))) (flat_map operands c.gates)
          (joined P (next_literals c) (concat (literal_lists (with_bad bad c)))
          (front P (next_literals c) (concat (literal_lists c)) nexts_and_lists)
          (joined P c.outputs (bad ++ concat behind) (front P c.outputs (c.bad ++ concat behind) lists)
          (joined P bad (concat behind) known
          (back P c.bad (concat behind) (back P c.outputs (c.bad ++ concat behind) lists)))))
          (back P (next_literals c ++ concat (literal_lists c)) (flat_map operands c.gates) good.known);
      symbols = record {
        positions = rw nameless tt;
        apart = rw nameless tt;
        lines = rw nameless tt;
      };
      ranked = good.ranked;
    }
