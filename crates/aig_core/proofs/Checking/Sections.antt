-- Repeats, unknown literals and faults over sections end to end, as the loops over each section tell them.
use Rattle.std.proofs.Common.{◌≡◌, ◌+◌, ◌∷◌, ◌++◌, ◌∙◌, ◌==◌, ◌||◌, ◌<◌, ℕ, List, [], length, map, take, drop, fold}
use Rattle.std.proofs.Common.{refl, sym, ap, ap₂, arith, true, false, cond, Option, None, Some, inl, ⊎_elim, nat_lt}
use Rattle.std.proofs.Common.{get_or, subst}
use Rattle.std.specs.List.{concat, sum, flat_map, list_any}
use Rattle.std.specs.Option.{option_map, option_or}
use Rattle.std.specs.Ordering.{nat_cmp}
use Rattle.std.specs.FinSet as set
use Rattle.std.specs.FinSet.{FinSet, contains-insert}
use Rattle.std.specs.Cmp.{unsigned_tied}
use Rattle.std.proofs.lemmas.List.{take-append-drop, length-append, length-drop, length-take-le, map-id, drop_more}
use Rattle.std.proofs.Math.Seq.{drop-append_seam, take-append_seam}
use Rattle.std.proofs.lemmas.Grind.{common_steps}
use Rattle.std.proofs.lemmas.List.Concat.{flat_map_single}
use Rattle.std.proofs.lemmas.Cmp.{nat_cmp_total}
use Rattle.aig_circuit.specs.declared.circuit.Justice.{Justice}
use Rattle.aig_circuit.specs.Justice.{literals_of_each, properties_of, end_to_end}
use Rattle.aig_circuit.specs.declared.circuit.Latch.{Latch}
use Rattle.aig_circuit.specs.declared.circuit.Gate.{Gate}
use Rattle.aig_circuit.specs.declared.circuit.Circuit.{Circuit}
use Rattle.aig_circuit.specs.Wellformed.{defined_variables, literal_lists, used_literals, operands}
use Rattle.aig_circuit.specs.Literal.{variable_of}
use Rattle.aig_circuit.proofs.Checking.{defined_inputs, defined_latches, defined_gates, used_nexts, defined_is}
use Rattle.aig_tables.specs.VarMap.{link_to}
use Rattle.aig_topo.specs.Order.{first_cyclic, gate_of}
use Rattle.aig_topo.specs.Needs.{needs_of}
use Rattle.aig_fault.specs.declared.stopped.Stopped.{Stopped}
use Rattle.aig_core.specs.Fault.{redefined, cyclic}
use Rattle.aig_core.specs.Fault.{first_repeat, first_redefinition, first_unknown, first_undefined}
use Rattle.aig_core.specs.Fault.{first_structural_fault, with_all, is_known, IsFault}

sum_from : (a : ℕ) (ns : List ℕ) → fold (λ s n. s + n) a ns ≡ a + fold (λ s n. s + n) 0 ns
sum_from a [] = omega arith
sum_from a (n ∷ ns) = sum_from (a + n) ns ∙ rw (sum_from (0 + n) ns) (omega arith)

pub sum_cons : (n : ℕ) (ns : List ℕ) → sum (n ∷ ns) ≡ n + sum ns
sum_cons n ns = sum_from (0 + n) ns ∙ omega arith

-- the literals are enough for the first size, and what is left is enough for the others
long_enough : (size : ℕ) (sizes literals : List ℕ) → sum (size ∷ sizes) ≡ length literals
    → (length (take size literals) ≡ size) × (sum sizes ≡ length (drop size literals))
long_enough size sizes literals h =
    let all : size + sum sizes ≡ length literals = sym (sum_cons size sizes) ∙ h in
    (length-take-le size literals (omega (arith, all)), rw (length-drop size literals) (omega (arith, all)))

sizes_again : (sizes literals : List ℕ) → sum sizes ≡ length literals
    → map length (literals_of_each sizes literals) ≡ sizes
sizes_again [] literals h = refl
sizes_again (size ∷ sizes) literals h =
    let enough = long_enough size sizes literals h in
    ap₂ (λ n (ns : List ℕ). n ∷ ns) enough.0 (sizes_again sizes (drop size literals) enough.1)

literals_again : (sizes literals : List ℕ) → sum sizes ≡ length literals
    → concat (literals_of_each sizes literals) ≡ literals
literals_again [] [] h = refl
literals_again [] (l ∷ ls) h = absurd (omega (arith, h))
literals_again (size ∷ sizes) literals h =
    let enough = long_enough size sizes literals h in
    ap (λ (ls : List ℕ). take size literals ++ ls) (literals_again sizes (drop size literals) enough.1)
    ∙ take-append-drop size literals

abbrev justice : List ℕ → List ℕ → Justice
justice sizes literals = record { sizes = sizes; literals = literals }

pub justice_is_of_lists : (j : Justice) → sum j.sizes ≡ length j.literals → end_to_end (properties_of j) ≡ j
justice_is_of_lists j h = ap₂ justice (sizes_again j.sizes j.literals h) (literals_again j.sizes j.literals h)

lists_again : (properties : List (List ℕ)) → literals_of_each (map length properties) (concat properties) ≡ properties
lists_again [] = refl
lists_again (p ∷ ps) = ap₂ (λ q (qs : List (List ℕ)). q ∷ qs) (take-append_seam p (concat ps))
    (ap (literals_of_each (map length ps)) (drop-append_seam p (concat ps)) ∙ lists_again ps)

sizes_fit : (properties : List (List ℕ)) → sum (map length properties) ≡ length (concat properties)
sizes_fit [] = refl
sizes_fit (p ∷ ps) =
    sum_cons (length p) (map length ps) ∙ ap (λ n. length p + n) (sizes_fit ps) ∙ sym (length-append p (concat ps))

pub lists_are_justice : (properties : List (List ℕ)) → (properties_of (end_to_end properties) ≡ properties)
    × (sum (end_to_end properties).sizes ≡ length (end_to_end properties).literals)
lists_are_justice properties = (lists_again properties, sizes_fit properties)

-- Repeats, unknown literals and faults over sections end to end, as the loops over each section tell them.

-- what they go through before the gates
before_is : (c : Circuit)
    → defined_inputs c.inputs ++ defined_latches c.latches ≡ c.inputs ++ map (λ (l : Latch). l.var) c.latches
before_is c =
    rw (flat_map_single (λ (v : ℕ). v) c.inputs, map-id c.inputs, flat_map_single (λ (l : Latch). l.var) c.latches)
    refl

pub with_all_append : (s : FinSet nat_cmp) (xs ys : List ℕ) → with_all s (xs ++ ys) ≡ with_all (with_all s xs) ys
with_all_append s [] ys = refl
with_all_append s (x ∷ xs) ys = with_all_append (set.insert s x) xs ys

pub repeat_append : (s : FinSet nat_cmp) (xs ys : List ℕ)
    → first_repeat s (xs ++ ys) ≡ option_or (first_repeat s xs) (first_repeat (with_all s xs) ys)
repeat_append s [] ys = refl
repeat_append s (x ∷ xs) ys =
    elim (set.contains s x) as (λ b. cond b (Some x) (first_repeat (set.insert s x) (xs ++ ys))
    ≡ option_or (cond b (Some x) (first_repeat (set.insert s x) xs))
    (first_repeat (with_all (set.insert s x) xs) ys)) [
      | true ↦ refl
      | false ↦ repeat_append (set.insert s x) xs ys
    ]

pub unknown_append : (s : FinSet nat_cmp) (xs ys : List ℕ)
    → first_unknown s (xs ++ ys) ≡ option_or (first_unknown s xs) (first_unknown s ys)
unknown_append s [] ys = refl
unknown_append s (x ∷ xs) ys =
    elim (is_known s x) as (λ b. cond b (first_unknown s (xs ++ ys)) (Some x)
    ≡ option_or (cond b (first_unknown s xs) (Some x)) (first_unknown s ys)) [
      | true ↦ unknown_append s xs ys
      | false ↦ refl
    ]

-- the first redefinition in a section is the circuit's, where the sections before it have none
-- the facts on joined lists, for loops over a section
pub ruleset joined_lists = (common_steps, with_all_append, repeat_append, unknown_append)

told_first : (o p : Option ℕ) (e : Stopped) → IsFault e (option_map redefined o)
    → IsFault e (option_map redefined (option_or o p))
told_first None p e told = ⊎_elim (λ out. inl out) (λ none. cc) told
told_first (Some x) p e told = told

told_at_front : (s : FinSet nat_cmp) (xs ys : List ℕ) (e : Stopped) → IsFault e (first_redefinition s xs)
    → IsFault e (first_redefinition s (xs ++ ys))
told_at_front s xs ys e told = rw repeat_append (told_first (first_repeat s xs) _ e told)

goes_on : (s t : FinSet nat_cmp) (xs ys : List ℕ) → t ≡ with_all s xs → first_repeat s xs ≡ None
    → first_repeat s (xs ++ ys) ≡ first_repeat t ys
goes_on s t xs ys is none = repeat_append s xs ys ∙ rw (none, is) refl

module _ (c : Circuit) where
  pub told_of_inputs : (e : Stopped) → IsFault e (first_redefinition set.empty (defined_inputs c.inputs))
      → IsFault e (first_redefinition set.empty (defined_variables c))
  told_of_inputs e told = rw (← defined_is c)
      (told_at_front _ _ (defined_gates c.gates) e (told_at_front _ _ (defined_latches c.latches) e told))

  module _ (t : FinSet nat_cmp) (t_is : t ≡ with_all set.empty (defined_inputs c.inputs))
      (none : first_repeat set.empty (defined_inputs c.inputs) ≡ None) where
    latches_repeat : first_repeat t (defined_latches c.latches)
        ≡ first_repeat set.empty (defined_inputs c.inputs ++ defined_latches c.latches)
    latches_repeat = sym (goes_on _ _ _ _ t_is none)

    pub told_of_latches : (e : Stopped) → IsFault e (first_redefinition t (defined_latches c.latches))
        → IsFault e (first_redefinition set.empty (defined_variables c))
    told_of_latches e told =
        rw (← defined_is c) (told_at_front _ _ (defined_gates c.gates) e (rw latches_repeat at told))

    -- what inputs and latches define, where they repeat nothing
    pub all_before : (u : FinSet nat_cmp) → u ≡ with_all t (defined_latches c.latches)
        → u ≡ with_all set.empty (c.inputs ++ map (λ (l : Latch). l.var) c.latches)
    all_before u u_is =
        u_is ∙ rw t_is (sym (with_all_append set.empty (defined_inputs c.inputs) (defined_latches c.latches)))
        ∙ ap (with_all set.empty) (before_is c)

    pub none_before : first_repeat t (defined_latches c.latches) ≡ None
        → first_repeat set.empty (c.inputs ++ map (λ (l : Latch). l.var) c.latches) ≡ None
    none_before none_later = ap (first_repeat set.empty) (sym (before_is c)) ∙ sym latches_repeat ∙ none_later

  module _ (u : FinSet nat_cmp) (u_is : u ≡ with_all set.empty (c.inputs ++ map (λ (l : Latch). l.var) c.latches))
      (none : first_repeat set.empty (c.inputs ++ map (λ (l : Latch). l.var) c.latches) ≡ None) where
    pub gates_repeat : first_repeat set.empty (defined_variables c) ≡ first_repeat u (defined_gates c.gates)
    gates_repeat = rw (flat_map_single (λ (g : Gate). g.var) c.gates) (goes_on _ _ _ _ u_is none)

    pub told_of_gates : (e : Stopped) → IsFault e (first_redefinition u (defined_gates c.gates))
        → IsFault e (first_redefinition set.empty (defined_variables c))
    told_of_gates e told = rw gates_repeat told

    pub all_seen : with_all u (defined_gates c.gates) ≡ with_all set.empty (defined_variables c)
    all_seen =
        rw (u_is, flat_map_single (λ (g : Gate). g.var) c.gates)
        (sym (with_all_append set.empty (c.inputs ++ map (λ (l : Latch). l.var) c.latches)
        (map (λ (g : Gate). g.var) c.gates)))

pub unknown_ends : (s : FinSet nat_cmp) (c : Circuit)
    → option_or (first_unknown s (used_nexts c.latches)) (first_unknown s (concat (literal_lists c)))
    ≡ first_unknown s (map (λ (l : Latch). l.next) c.latches ++ concat (literal_lists c))
unknown_ends s c = rw (flat_map_single (λ (l : Latch). l.next) c.latches)
    (sym (unknown_append s (map (λ (l : Latch). l.next) c.latches) (concat (literal_lists c))))

unknowns : (s : FinSet nat_cmp) (c : Circuit)
    → option_or (first_unknown s (map (λ (l : Latch). l.next) c.latches ++ concat (literal_lists c)))
    (first_unknown s (flat_map operands c.gates)) ≡ first_unknown s (used_literals c)
unknowns s c =
    sym (unknown_append s (map (λ (l : Latch). l.next) c.latches ++ concat (literal_lists c))
    (flat_map operands c.gates))

-- where nothing is defined twice and what is used outside of gates is known, the first fault is that of gates
pub fault_of_gates : (c : Circuit) → first_repeat set.empty (defined_variables c) ≡ None
    → first_unknown (with_all set.empty (defined_variables c))
    (map (λ (l : Latch). l.next) c.latches ++ concat (literal_lists c)) ≡ None
    → first_structural_fault c
    ≡ option_or (first_undefined (with_all set.empty (defined_variables c)) (flat_map operands c.gates))
    (option_map cyclic (first_cyclic c.gates))
fault_of_gates c once ends =
    grind (arith, common_steps, once, ends, unknowns (with_all set.empty (defined_variables c)) c)

-- What is known of operands by what gates need.

-- a gate defines the variable, or it was there before
has_of_gates : (s : FinSet nat_cmp) (gates : List Gate) (v : ℕ)
    → set.contains (with_all s (map (λ (g : Gate). g.var) gates)) v
    ≡ (list_any (λ (g : Gate). g.var == v) gates || set.contains s v)
has_of_gates s [] v = refl
has_of_gates s (g ∷ gs) v =
    let more = contains-insert nat_cmp_total s g.var v in
    grind (arith, common_steps, more, unsigned_tied v g.var, has_of_gates (set.insert s g.var) gs v)

-- there is a link to the gate that defines the variable exactly where one does
link_told : (gates : List Gate) (v : ℕ)
    → nat_lt 0 (link_to (gate_of gates v)) ≡ list_any (λ (g : Gate). g.var == v) gates
link_told [] v = refl
link_told (g ∷ gs) v = grind (arith, common_steps, link_told gs v)

-- what the circuit defines is defined before gates, or a gate that is linked to defines it
pub known_by_needs : (c : Circuit) (literal : ℕ)
    → is_known (with_all set.empty (defined_variables c)) literal
    ≡ (nat_lt 0 (link_to (gate_of c.gates (variable_of literal)))
    || is_known (with_all set.empty (c.inputs ++ map (λ (l : Latch). l.var) c.latches)) literal)
known_by_needs c literal =
    let before = with_all set.empty (c.inputs ++ map (λ (l : Latch). l.var) c.latches) in
    let v = variable_of literal in
    grind (arith, common_steps, has_of_gates before c.gates v, link_told c.gates v, with_all_append)

-- the first unknown operand from a gate on is one of its own, or else that from the next one on
module _ (c : Circuit) {gates : List Gate} (own : gates ≡ c.gates) (at : ℕ) (g : Gate) (below : at < length gates)
    (is : g ≡ get_or gates at g) where
  abbrev pub all_of : set.FinSet nat_cmp
  all_of = with_all set.empty (defined_variables c)

  abbrev pub before_of : set.FinSet nat_cmp
  before_of = with_all set.empty (c.inputs ++ map (λ (l : Latch). l.var) c.latches)

  pub unknown_from : first_unknown all_of (flat_map operands (drop at c.gates))
      ≡ cond (nat_lt 0 (needs_of c.gates g).left || is_known before_of g.left)
      (cond (nat_lt 0 (needs_of c.gates g).right || is_known before_of g.right)
      (first_unknown all_of (flat_map operands (drop (at + 1) c.gates))) (Some g.right)) (Some g.left)
  unknown_from =
      let more = drop_more c.gates at g (subst (λ (gs : List Gate). at < length gs) own below) in
      let same = subst (λ (gs : List Gate). g ≡ get_or gs at g) own is in
      grind (arith, common_steps, more, same, known_by_needs c g.left, known_by_needs c g.right)
