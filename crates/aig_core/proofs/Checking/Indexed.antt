-- What the index of gates tells of a circuit: that nothing is defined twice, and that all that is used is defined.
use Rattle.std.proofs.Common.{◌≡◌, ◌∷◌, ◌++◌, ◌∙◌, ◌||◌, ◌&&◌, ℕ, List, [], Bool, true, false, not, map, cond}
use Rattle.std.proofs.Common.{Option, None, Some, refl, sym, ap, ⊎_elim, arith, nat_lt}
use Rattle.std.specs.List.{concat, flat_map, list_all}
use Rattle.std.specs.Option.{is_some, option_map, option_or}
use Rattle.std.specs.Ordering.{nat_cmp}
use Rattle.std.specs.FinMap.{get}
use Rattle.std.specs.FinSet as set
use Rattle.std.specs.FinSet.{FinSet}
use Rattle.std.proofs.lemmas.Grind.{common_steps}
use Rattle.std.proofs.lemmas.List.Folds.{list_all-append}
use Rattle.aig_circuit.specs.declared.circuit.Circuit.{Circuit}
use Rattle.aig_circuit.specs.declared.circuit.Gate.{Gate}
use Rattle.aig_circuit.specs.declared.circuit.Latch.{Latch}
use Rattle.aig_circuit.specs.Literal.{variable_of}
use Rattle.aig_circuit.specs.Wellformed.{IsAmong, defined_variables, literal_lists, operands}
use Rattle.aig_tables.specs.VarMap.{link_to}
use Rattle.aig_topo.specs.declared.index.GateIndex.{GateIndex}
use Rattle.aig_topo.specs.Index.{IsIndexOf}
use Rattle.aig_topo.specs.Order.{first_cyclic, gate_of}
use Rattle.aig_topo.proofs.Ordering.Index.{defined_exactly}
use Rattle.aig_core.specs.Fault.{cyclic}
use Rattle.aig_core.specs.Fault.{first_repeat, first_unknown, first_undefined, with_all, is_known}
use Rattle.aig_core.specs.Fault.{first_structural_fault}
use Rattle.aig_core.specs.Parts.Indexed.{is_defined_by, is_no_gate, is_latch_right, is_right_outside}
use Rattle.aig_core.proofs.Checking.Faultless.{nothing_repeats, none_in_empty, found}
use Rattle.aig_core.proofs.Checking.Sections.{known_by_needs, repeat_append, fault_of_gates}

-- the facts on joined lists, for loops over lists of lists
pub ruleset all_joined = (common_steps, list_all-append)

both : (a b : Bool) → (a && b) ≡ true → (a ≡ true) × (b ≡ true)
both true b h = (refl, h)
both false b h = cc

-- each one of a list passes where all do
passes : (p : ℕ → Bool) (xs : List ℕ) → list_all p xs ≡ true → (y : ℕ) → IsAmong y xs → p y ≡ true
passes p [] all y a = absurd a
passes p (x ∷ xs) all y a =
    let h : (p x ≡ true) × (list_all p xs ≡ true) = both (p x) (list_all p xs) all in
    ⊎_elim (λ (e : y ≡ x). ap p e ∙ h.0) (passes p xs h.1 y) a

-- none of a list is unknown where each is tested to be known
none_unknown : (p : ℕ → Bool) (s : FinSet nat_cmp) → ((l : ℕ) → p l ≡ is_known s l) → (xs : List ℕ)
    → list_all p xs ≡ true → first_unknown s xs ≡ None
none_unknown p s same [] all = refl
none_unknown p s same (x ∷ xs) all =
    let h : (p x ≡ true) × (list_all p xs ≡ true) = both (p x) (list_all p xs) all in
    ap (λ b. cond b (first_unknown s xs) (Some x)) (sym (same x) ∙ h.0) ∙ none_unknown p s same xs h.1

linked_where_some : (o : Option ℕ) → is_some o ≡ nat_lt 0 (link_to o)
linked_where_some None = grind (arith, common_steps)
linked_where_some (Some x) = grind (arith, common_steps)

module _ (before : FinSet nat_cmp) (index : GateIndex) where
  latches_apart : (ls : List Latch) → list_all (is_latch_right before index) ls ≡ true
      → (list_all (is_no_gate index) (map (λ (l : Latch). l.var) ls) ≡ true)
      × (list_all (is_defined_by before index) (map (λ (l : Latch). l.next) ls) ≡ true)
  latches_apart [] all = (refl, refl)
  latches_apart (l ∷ ls) all =
      let h = both (is_latch_right before index l) (list_all (is_latch_right before index) ls) all in
      let own = both (is_no_gate index l.var) (is_defined_by before index l.next) h.0 in
      let rest = latches_apart ls h.1 in (
        ap (λ b. b && list_all (is_no_gate index) (map (λ (l : Latch). l.var) ls)) own.0 ∙ rest.0,
        ap (λ b. b && list_all (is_defined_by before index) (map (λ (l : Latch). l.next) ls)) own.1 ∙ rest.1,
      )

  module _ (c : Circuit) (is : IsIndexOf c.gates index)
      (before_is : before ≡ with_all set.empty (c.inputs ++ map (λ (l : Latch). l.var) c.latches))
      (once : first_repeat set.empty (c.inputs ++ map (λ (l : Latch). l.var) c.latches) ≡ None)
      (right : is_right_outside before index c ≡ true) where
    abbrev firsts : List ℕ
    firsts = c.inputs ++ map (λ (l : Latch). l.var) c.latches

    parts : (index.is_once ≡ true) × (list_all (is_no_gate index) c.inputs ≡ true)
        × (list_all (is_latch_right before index) c.latches ≡ true)
        × (list_all (is_defined_by before index) (concat (literal_lists c)) ≡ true)
    parts =
        let a = both index.is_once _ right in
        let b = both (list_all (is_no_gate index) c.inputs) _ a.1 in
        let d = both (list_all (is_latch_right before index) c.latches) _ b.1 in (a.0, b.0, d.0, d.1)

    defined_known : (l : ℕ) → is_defined_by before index l ≡ is_known (with_all set.empty (defined_variables c)) l
    defined_known l =
        ap (λ o. is_some o || is_known before l) (is.positions (variable_of l))
        ∙ ap (λ b. b || is_known before l) (linked_where_some (gate_of c.gates (variable_of l)))
        ∙ ap (λ s. nat_lt 0 (link_to (gate_of c.gates (variable_of l))) || is_known s l) before_is
        ∙ sym (known_by_needs c l)

    none_before : list_all (is_no_gate index) firsts ≡ true
    none_before =
        list_all-append (is_no_gate index) c.inputs (map (λ (l : Latch). l.var) c.latches)
        ∙ ap (λ b. b && list_all (is_no_gate index) (map (λ (l : Latch). l.var) c.latches)) parts.1
        ∙ (latches_apart c.latches parts.2).0

    -- no gate's variable is defined before gates
    apart : (y : ℕ) → IsAmong y (map (λ (g : Gate). g.var) c.gates)
        → ¬ (set.contains (with_all set.empty firsts) y ≡ true)
    apart y gate has =
        let some : is_some (get index.positions y) ≡ true =
        ap is_some (is.positions y) ∙ (defined_exactly c.gates y).1 gate in
        ⊎_elim (none_in_empty y) (λ (a : IsAmong y firsts).
        let none : not (is_some (get index.positions y)) ≡ true = passes (is_no_gate index) firsts none_before y a in
        let clash : false ≡ true = ap not (sym some) ∙ none in cc) (found set.empty firsts y has)

    once_by_index : first_repeat set.empty (defined_variables c) ≡ None
    once_by_index =
        let gates : first_repeat (with_all set.empty firsts) (map (λ (g : Gate). g.var) c.gates) ≡ None =
        nothing_repeats (with_all set.empty firsts) (map (λ (g : Gate). g.var) c.gates) (is.once.0 parts.0) apart in
        repeat_append set.empty firsts (map (λ (g : Gate). g.var) c.gates) ∙ rw (once, gates) refl

    known_by_index : first_unknown (with_all set.empty (defined_variables c))
        (map (λ (l : Latch). l.next) c.latches ++ concat (literal_lists c)) ≡ None
    known_by_index =
        none_unknown (is_defined_by before index) (with_all set.empty (defined_variables c)) defined_known _
        (list_all-append (is_defined_by before index) (map (λ (l : Latch). l.next) c.latches) (concat (literal_lists c))
        ∙ ap (λ b. b && list_all (is_defined_by before index) (concat (literal_lists c)))
        (latches_apart c.latches parts.2).1 ∙ parts.3)

    -- so what is left is what gates use
    pub left_to_gates : first_structural_fault c
        ≡ option_or (first_undefined (with_all set.empty (defined_variables c)) (flat_map operands c.gates))
        (option_map cyclic (first_cyclic c.gates))
    left_to_gates = fault_of_gates c once_by_index known_by_index
