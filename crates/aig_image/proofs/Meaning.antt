-- A circuit by other variables means the same, and so does the binary image.
use Rattle.std.proofs.Common.{◌≡◌, ◌∙◌, ◌<◌, ◌∷◌, ◌⊎◌, rules, ℕ, List, length, map, refl, sym, ap, suc, [], Option}
use Rattle.std.proofs.Common.{get_or, subst, ⊎_elim, arith, max, min, Contains}
use Rattle.std.proofs.lemmas.List.{length-map, get_or_default, get_or-map}
use Rattle.std.proofs.lemmas.Simd.{map-map}
use Rattle.aig_circuit.specs.declared.circuit.Latch.{Latch}
use Rattle.aig_circuit.specs.declared.circuit.Gate.{Gate}
use Rattle.aig_circuit.specs.declared.circuit.Circuit.{Circuit}
use Rattle.aig_circuit.specs.declared.value.Val.{Val}
use Rattle.aig_circuit.specs.declared.value.Val.TheVariants.{Zero, One, X}
use Rattle.aig_circuit.specs.Values.{value_and}
use Rattle.aig_circuit.specs.Wellformed.{IsAmong, IsWellFormed}
use Rattle.aig_topo.specs.Order.{IsLeastReadyOrder}
use Rattle.aig_meaning.specs.Meaning.{Holds, IsRow, IsStepAssignment, Row, literal_value, MeansTheSame}
use Rattle.aig_meaning.proofs.Traces.{same_by_rows, same_meaning_same_traces}
use Rattle.aig_image.specs.Laws.{RenamedMeansTheSame, ImageAssignsTheSame, ImageKeepsTraces, ImageMeansTheSame}
use Rattle.aig_image.specs.Relabelled.{relabelled_latch, relabelled_literal, relabelled_gate}
use Rattle.aig_image.specs.Renamed.{HasOperands, IsRenamed, IsRenamedGate}
use Rattle.aig_image.specs.Image.{image_by}
use Rattle.aig_image.specs.Renumbering.{in_new_order, renumbered}
use Rattle.aig_image.specs.Reordered.{no_gate, operands_sorted, taken}
use Rattle.aig_image.proofs.Relabelling.Relabelled.{map_each, map_twice}
use Rattle.aig_image.proofs.Imaging.InTurn.{listed}
use Rattle.aig_image.proofs.Imaging.Ordered.{image_is_ordered}

pub and_exchanged : (x y : Val) → value_and x y ≡ value_and y x
and_exchanged Zero Zero = refl
and_exchanged Zero One = refl
and_exchanged Zero X = refl
and_exchanged One Zero = refl
and_exchanged One One = refl
and_exchanged One X = refl
and_exchanged X Zero = refl
and_exchanged X One = refl
and_exchanged X X = refl

module _ (f : ℕ → ℕ) (a : ℕ → Val) where
  abbrev read_back : ℕ → Val
  read_back v = a (f v)

  same_value : (l : ℕ) → literal_value a (relabelled_literal f l) ≡ literal_value read_back l
  same_value l = search rules

  same_values : (ls : List ℕ)
      → map (literal_value a) (map (relabelled_literal f) ls) ≡ map (literal_value read_back) ls
  same_values ls = map_twice (relabelled_literal f) (literal_value a) (literal_value read_back) same_value ls

  same_state : (ls : List Latch)
      → map a (map (λ (l : Latch). l.var) (map (relabelled_latch f) ls)) ≡ map read_back (map (λ (l : Latch). l.var) ls)
  same_state ls = simp map-map

  same_next : (ls : List Latch)
      → map (literal_value a) (map (λ (l : Latch). l.next) (map (relabelled_latch f) ls))
      ≡ map (literal_value read_back) (map (λ (l : Latch). l.next) ls)
  same_next ls = search (rules, map-map, map_each, same_value)

  either_order : (g h : Gate) → HasOperands h (relabelled_literal f g.left) (relabelled_literal f g.right)
      → value_and (literal_value a h.left) (literal_value a h.right)
      ≡ value_and (literal_value read_back g.left) (literal_value read_back g.right)
  either_order g h has = search (rules, same_value, and_exchanged)

  gate_holds : (g h : Gate) → IsRenamedGate f g h → Holds a h → Holds read_back g
  gate_holds g h is holds = ap a (sym is.variable) ∙ holds ∙ either_order g h is.operands

same_resets : (f : ℕ → ℕ) (ls : List Latch)
    → map (λ (l : Latch). l.reset) (map (relabelled_latch f) ls) ≡ map (λ (l : Latch). l.reset) ls
same_resets f ls = simp map-map

module _ (f : ℕ → ℕ) (c d : Circuit) (is : IsRenamed f c d) where
  -- values of the variables of d, read through the names, are values of those of c
  pub renamed_assignment : (state given : List Val) (a : ℕ → Val) → IsStepAssignment d state given a
      → IsStepAssignment c state given (λ v. a (f v))
  renamed_assignment state given a assigned = record {
    constant = ap a is.constant ∙ assigned.constant;
    inputs = search (rules, map_twice);
    latches = sym (same_state f a c.latches)
        ∙ ap (λ (ls : List Latch). map a (map (λ (l : Latch). l.var) ls)) (sym is.latches) ∙ assigned.latches;
    gates = λ g g_in. let h = is.gates g g_in in gate_holds f a g h.0 h.2 (assigned.gates h.0 h.1);
  }

  -- so each row of d is one of c
  renamed_row : (row : Row) → IsRow d row → IsRow c row
  renamed_row row shown = let a = shown.0 in (
    λ v. a (f v),
    record {
      assigned = renamed_assignment row.state row.inputs a shown.1.assigned;
      outputs_shown = search (rules, same_values);
      next_shown = shown.1.next_shown
          ∙ ap (λ (ls : List Latch). map (literal_value a) (map (λ (l : Latch). l.next) ls)) is.latches
          ∙ same_next f a c.latches;
      bad_shown = shown.1.bad_shown ∙ ap (map (literal_value a)) is.bad ∙ same_values f a c.bad;
      constraints_shown = search (rules, same_values);
    },
  )

-- both circuits are well formed, so it is enough that each row of d is one of c
pub renamed_means_the_same : RenamedMeansTheSame
renamed_means_the_same f c d is good good_too =
    same_by_rows c d good good_too (ap length is.inputs ∙ length-map c.inputs f)
    (ap (map (λ (l : Latch). l.reset)) is.latches ∙ same_resets f c.latches) (renamed_row f c d is)

-- The binary image of a circuit is the circuit by other variables.
pub larger_first : (x y : ℕ) → ((max x y ≡ x) × (min x y ≡ y)) ⊎ ((max x y ≡ y) × (min x y ≡ x))
larger_first x y = search rules

-- a gate that is taken stands among those that are, its operands sorted
taken_stands : (gates : List Gate) (p : ℕ) (order : List ℕ) → IsAmong p order
    → Contains (map operands_sorted (taken gates order)) (operands_sorted (get_or gates p no_gate))
taken_stands gates p [] a = absurd a
taken_stands gates p (x ∷ xs) a =
    ⊎_elim (search rules)
    (λ (i : IsAmong p xs). let there = taken_stands gates p xs i in
    (suc there.0, omega (arith, there.1), there.2)) a

module _ (f : ℕ → ℕ) (gates : List Gate) where
  abbrev image_gate : Gate → Gate
  image_gate g = operands_sorted (relabelled_gate f g)

  gate_renamed : (g : Gate) → IsRenamedGate f g (image_gate g)
  gate_renamed g = search rules

  image_stands : (order : List ℕ) → ((p : ℕ) → p < length gates → IsAmong p order) → (g : Gate) → Contains gates g
      → Contains (map operands_sorted (taken (map (relabelled_gate f) gates) order)) (image_gate g)
  image_stands order all g g_in =
      let p : ℕ = g_in.0 in
      let there : p < length gates = g_in.1 in
      let is : get_or (map (relabelled_gate f) gates) p no_gate ≡ relabelled_gate f g =
      search (rules, get_or-map, get_or_default) in
      subst (λ (h : Gate). Contains (map operands_sorted (taken (map (relabelled_gate f) gates) order))
      (operands_sorted h)) is (taken_stands (map (relabelled_gate f) gates) p order (all p there))

pub image_is_renamed : (c : Circuit) (order : List ℕ) → IsWellFormed c → IsLeastReadyOrder c order
    → IsRenamed (renumbered (in_new_order c order)) c (image_by order c)
image_is_renamed c order good least = let f : ℕ → ℕ = renumbered (in_new_order c order) in record {
  constant = refl;
  inputs = refl;
  latches = refl;
  outputs = refl;
  bad = refl;
  constraints = refl;
  gates = λ g g_in. (
    image_gate f c.gates g,
    image_stands f c.gates order (listed c order good least) g g_in,
    gate_renamed f c.gates g,
  );
}

-- whatever is written beside the circuit
pub renamed_with_comment : (f : ℕ → ℕ) (c d : Circuit) (comment : Option (List ℕ)) → IsRenamed f c d
    → IsRenamed f c (record d { comment = comment })
renamed_with_comment f c d comment is = search rules

pub image_assigns_the_same : ImageAssignsTheSame
image_assigns_the_same c order state given a good least =
    renamed_assignment (renumbered (in_new_order c order)) c (image_by order c) (image_is_renamed c order good least)
    state given a

pub image_means_the_same : ImageMeansTheSame
image_means_the_same c image good is =
    let new : Circuit = image_by is.0 c in
    let same = renamed_means_the_same (renumbered (in_new_order c is.0)) c new (image_is_renamed c is.0 good is.1) good
    (image_is_ordered c new good (is.0, is.1, refl)).0 in
    subst (λ (d : Circuit). MeansTheSame c d) (sym is.2) same

pub image_keeps_traces : ImageKeepsTraces
image_keeps_traces c image good is = same_meaning_same_traces c image (image_means_the_same c image good is)
