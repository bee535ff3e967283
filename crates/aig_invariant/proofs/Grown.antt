-- What an assignment shows of a circuit with an invariant: what it shows of the circuit, and whether the state and the
-- next one meet each cube.
use Rattle.std.proofs.Common.{◌≡◌, ◌+◌, ◌++◌, ◌∙◌, ℕ, List, [], ◌∷◌, ap, ap₂, map, refl, rules, sym}
use Rattle.std.specs.List.{AllByRecursion}
use Rattle.std.proofs.lemmas.Bool.{cases_lt}
use Rattle.std.proofs.lemmas.List.{append-nil}
use Rattle.std.proofs.lemmas.Simd.{map-map}
use Rattle.aig_circuit.specs.declared.circuit.Circuit.{Circuit}
use Rattle.aig_circuit.specs.declared.circuit.Latch.{Latch}
use Rattle.aig_circuit.specs.declared.value.Val.{Val}
use Rattle.aig_circuit.specs.declared.value.Val.TheVariants.{Zero, One, X}
use Rattle.aig_circuit.specs.Literal.{literal_of, negation_of}
use Rattle.aig_circuit.specs.Values.{value_and, value_not}
use Rattle.aig_circuit.proofs.Checking.{back, front}
use Rattle.aig_image.proofs.Meaning.{and_exchanged, larger_first}
use Rattle.aig_meaning.specs.Meaning.{Holds, literal_value, next_literals}
use Rattle.aig_unroll.specs.Unrolled.{chain_behind, chained, gate_of}
use Rattle.aig_unroll.specs.SideBySide.{and_all}
use Rattle.aig_unroll.proofs.Traces.OneFrame.{variable_value}
use Rattle.aig_invariant.specs.Invariant.{Cube, asked_literals, asked_values, conjunction, freed, meets, state_literals}
use Rattle.aig_invariant.specs.Invariant.{with_conjunction, with_cube, with_cubes, with_now}

-- the inputs and the latches' variables stay
pub inputs_stay : (cubes : List Cube) (c : Circuit) → (with_cubes cubes c).inputs ≡ c.inputs
inputs_stay [] c = refl
inputs_stay (q ∷ qs) c = inputs_stay qs (with_cube q c)

pub variables_stay : (ls : List Latch) → map (λ (l : Latch). l.var) (map freed ls) ≡ map (λ (l : Latch). l.var) ls
variables_stay ls = simp map-map

-- one more after those of a list, before others
one_more : (f : ℕ → Val) (ls : List ℕ) (l : ℕ) (v : Val) (vs : List Val) → f l ≡ v
    → map f (ls ++ l ∷ []) ++ vs ≡ map f ls ++ v ∷ vs
one_more f [] l v vs is = ap (λ (x : Val). x ∷ vs) is
one_more f (k ∷ ks) l v vs is = ap (λ (xs : List Val). f k ∷ xs) (one_more f ks l v vs is)

pub not_twice : (v : Val) → value_not (value_not v) ≡ v
not_twice Zero = refl
not_twice One = refl
not_twice X = refl

module _ (a : ℕ → Val) where
  negation_value : (l : ℕ) → literal_value a (negation_of l) ≡ value_not (literal_value a l)
  negation_value l = search (rules, cases_lt, not_twice)

  pub plain_values : (vs : List ℕ) → map (literal_value a) (map literal_of vs) ≡ map a vs
  plain_values [] = refl
  plain_values (v ∷ vs) = ap₂ (λ (x : Val) (xs : List Val). x ∷ xs) (variable_value a v) (plain_values vs)

  asked_shown : (cube : Cube) (ls : List ℕ)
      → map (literal_value a) (asked_literals cube ls) ≡ asked_values cube (map (literal_value a) ls)
  asked_shown [] ls = refl
  asked_shown (v ∷ vs) [] = refl
  asked_shown (Zero ∷ vs) (l ∷ ls) =
      ap₂ (λ (x : Val) (xs : List Val). x ∷ xs) (negation_value l) (asked_shown vs ls)
  asked_shown (One ∷ vs) (l ∷ ls) = ap (λ (xs : List Val). literal_value a l ∷ xs) (asked_shown vs ls)
  asked_shown (X ∷ vs) (l ∷ ls) = asked_shown vs ls

  -- a gate has the value of its operands, whichever is the larger one
  gate_has : (v x y : ℕ) → Holds a (gate_of v x y) → a v ≡ value_and (literal_value a x) (literal_value a y)
  gate_has v x y holds = search (rules, and_exchanged, larger_first)

  chain_has : (v chain : ℕ) (held : Val) (ls : List ℕ) → literal_value a chain ≡ held
      → AllByRecursion (Holds a) (chained v chain ls)
      → literal_value a (chain_behind v chain ls) ≡ and_all held (map (literal_value a) ls)
  chain_has v chain held [] is hold = is
  chain_has v chain held (l ∷ ls) is hold =
      chain_has (v + 1) (literal_of v) (value_and held (literal_value a l)) ls
      (variable_value a v ∙ gate_has v chain l hold.0 ∙ ap (λ (x : Val). value_and x (literal_value a l)) is) hold.1

  module _ (constant : a 0 ≡ Zero) where
    asked_of_gates : (c : Circuit) (cube : Cube) (ls : List ℕ)
        → AllByRecursion (Holds a) (with_conjunction (asked_literals cube ls) c).gates
        → literal_value a (conjunction (asked_literals cube ls) c) ≡ meets (map (literal_value a) ls) cube
    asked_of_gates c cube ls hold =
        let asked = asked_literals cube ls in
        chain_has (c.max_var + 1) 1 One asked (ap value_not constant)
        (back (Holds a) c.gates (chained (c.max_var + 1) 1 asked) hold)
        ∙ ap (and_all One) (asked_shown cube ls)

    -- the values that are shown with cubes
    pub record IsGrown (c : Circuit) (cubes : List Cube) : Type 0 where
      pub gates : AllByRecursion (Holds a) c.gates
      pub constraints : map (literal_value a) (with_cubes cubes c).constraints
          ≡ map (literal_value a) c.constraints
          ++ map (λ (q : Cube). value_not (meets (map (literal_value a) (state_literals c)) q)) cubes
      pub bad : map (literal_value a) (with_cubes cubes c).bad
          ≡ map (literal_value a) c.bad ++ map (meets (map (literal_value a) (next_literals c))) cubes

    pub grown : (cubes : List Cube) (c : Circuit) → AllByRecursion (Holds a) (with_cubes cubes c).gates
        → IsGrown c cubes
    grown [] c hold = record {
      gates = hold;
      constraints = sym (append-nil (map (literal_value a) c.constraints));
      bad = sym (append-nil (map (literal_value a) c.bad));
    }
    grown (q ∷ qs) c hold =
        let rest = grown qs (with_cube q c) hold in
        let now = asked_literals q (state_literals c) in
        let next = asked_literals q (next_literals c) in
        let e = with_now q c in
        let first = front (Holds a) e.gates (chained (e.max_var + 1) 1 next) rest.gates in
        record {
          gates = front (Holds a) c.gates (chained (c.max_var + 1) 1 now) first;
          constraints = rest.constraints
              ∙ one_more (literal_value a) c.constraints (negation_of (conjunction now c))
              (value_not (meets (map (literal_value a) (state_literals c)) q))
              (map (λ (p : Cube). value_not (meets (map (literal_value a) (state_literals c)) p)) qs)
              (negation_value (conjunction now c) ∙ ap value_not (asked_of_gates c q (state_literals c) first));
          bad = rest.bad
              ∙ one_more (literal_value a) c.bad (conjunction next e)
              (meets (map (literal_value a) (next_literals c)) q)
              (map (meets (map (literal_value a) (next_literals c))) qs)
              (asked_of_gates e q (next_literals c) rest.gates);
        }
