-- Gates that are made by the positions of what they need are those of the image.
use Rattle.std.proofs.Common.{◌≡◌, ◌+◌, ◌*◌, ◌%◌, ◌<◌, ◌≤◌, ◌∷◌, ◌∙◌, rules, ℕ, List, [], length, map}
use Rattle.std.proofs.Common.{get_or, Option, None, Some, refl, sym, ap, ap₂, subst, arith, ⊎_elim, true, false}
use Rattle.std.proofs.Common.{length-append}
use Rattle.std.specs.List.{AllByRecursion}
use Rattle.std.specs.Option.{is_some}
use Rattle.std.proofs.lemmas.Bool.{cases_lt}
use Rattle.std.proofs.lemmas.List.{length-map, get_or-map, get_or_past, get_or-append-add}
use Rattle.std.proofs.lemmas.List.Quantifiers.{position-Some}
use Rattle.aig_circuit.specs.declared.circuit.Gate.{Gate}
use Rattle.aig_circuit.specs.declared.circuit.Circuit.{Circuit}
use Rattle.aig_circuit.specs.declared.circuit.TheConstants.{LARGEST}
use Rattle.aig_circuit.specs.Literal.{variable_of}
use Rattle.aig_circuit.specs.Wellformed.{IsAmong, IsWellFormed}
use Rattle.aig_circuit.proofs.Alike.{gate, gates_alike}
use Rattle.aig_tables.specs.VarMap.{link_to}
use Rattle.aig_topo.specs.declared.operands.Needs.{Needs}
use Rattle.aig_topo.specs.Needs.{needs_of, no_needs}
use Rattle.aig_topo.specs.Order.{gate_of, IsLeastReadyOrder}
use Rattle.aig_topo.proofs.Ordering.Index.{defined_exactly}
use Rattle.aig_topo.proofs.Ordering.Ranked.{at, no_gate, variables, stands_there}
use Rattle.aig_image.specs.declared.placed.Placed.{Placed}
use Rattle.aig_image.specs.Parts.InTurn.{numbered_gate}
use Rattle.aig_image.specs.Parts.Numbers.{number_in, first_variables}
use Rattle.aig_image.specs.Parts.Placed.{number_by, placed_number, literal_by, gate_by, unlinked, AreSmall, FollowOn}
use Rattle.aig_image.specs.Parts.Placed.{IsMadeByPlaces, IsPlaced}
use Rattle.aig_image.specs.Image.{IsBinaryImage}
use Rattle.aig_image.specs.Relabelled.{relabelled, GateNames}
use Rattle.aig_image.specs.Renumbering.{in_new_order, renumbered}
use Rattle.aig_image.specs.Reordered.{operands_sorted, taken}
use Rattle.aig_image.proofs.Imaging.InTurn.{taken_variables, all_taken, order_there, number_there, some_gate}
use Rattle.aig_image.proofs.Imaging.InTurn.{new_fits}
use Rattle.aig_image.proofs.Imaging.Renewed.{same_names, told_is_image}
use Rattle.aig_image.proofs.Relabelling.Relabelled.{with_gates}
use Rattle.aig_image.proofs.Numbering.Kept.{in_list, in_place, not_behind}
use Rattle.aig_image.proofs.Numbering.Places.{place_there, at_place}

-- a link and the position that it stands for
unlinked_link : (o : Option ℕ) → unlinked (link_to o) ≡ o
unlinked_link None = refl
unlinked_link (Some at) = refl

module _ (c : Circuit) (order : List ℕ) (good : IsWellFormed c) (least : IsLeastReadyOrder c order) where
  abbrev vs : List ℕ
  vs = in_new_order c order

  abbrev first : List ℕ
  first = first_variables c

  as_many : length order ≡ length c.gates
  as_many = all_taken c order good least

  -- what stands at a place after the first ones
  behind : (k : ℕ) → k < length order → get_or vs (length first + k) 0 ≡ (at c.gates (get_or order k 0)).var
  behind k below =
      get_or-append-add first (taken_variables c.gates order) k 0
      ∙ get_or-map (λ (g : Gate). g.var) (taken c.gates order) k no_gate 0
      (omega (arith, below, length-map order (at c.gates)))
      ∙ ap (λ (g : Gate). g.var) (get_or-map (at c.gates) order k 0 no_gate below)

  long : length vs ≡ length first + length order
  long = length-append first (taken_variables c.gates order) ∙ ap (λ n. length first + n)
      (length-map (taken c.gates order) (λ (g : Gate). g.var) ∙ length-map order (at c.gates))

  -- the number of a gate by its position
  pub at_gate : (given : List ℕ) → FollowOn (length first) order given → (i : ℕ) → i < length c.gates
      → (get_or given i 0 ≡ renumbered vs (at c.gates i).var) × (renumbered vs (at c.gates i).var ≤ length vs)
  at_gate given follow i there =
      let stands = follow.all i (omega (arith, there, as_many)) in
      let told = follow.numbers stands.0 stands.1 in
      let low : length first + stands.0 < length vs = omega (arith, long, stands.1) in
      let number = number_there c order good least (length first + stands.0) low in
      let variable : get_or vs (length first + stands.0) 0 ≡ (at c.gates i).var =
      behind stands.0 stands.1 ∙ ap (λ k. (at c.gates k).var) stands.2 in
      let same : renumbered vs (at c.gates i).var ≡ 1 + (length first + stands.0) =
      ap (renumbered vs) (sym variable) ∙ number in
      let own : get_or given i 0 ≡ length first + (stands.0 + 1) =
      ap (λ k. get_or given k 0) (sym stands.2) ∙ told in
      (omega (arith, own, same), omega (arith, same, low))

  module _ (p : Placed) (is : IsPlaced c order p) where
    -- a variable that no gate defines is none of theirs
    none_taken : (v : ℕ) → gate_of c.gates v ≡ None → ¬ IsAmong v (taken_variables c.gates order)
    none_taken v none a =
        let stands = place_there (taken c.gates order) v a in
        let below : stands.0 < length order = omega (arith, stands.1, length-map order (at c.gates)) in
        let is_gate : at (taken c.gates order) stands.0 ≡ at c.gates (get_or order stands.0 0) =
        get_or-map (at c.gates) order stands.0 0 no_gate below in
        let defined : IsAmong v (variables c.gates) =
        subst (λ w. IsAmong w (variables c.gates)) (ap (λ (g : Gate). g.var) (sym is_gate) ∙ stands.2)
        (stands_there c.gates (get_or order stands.0 0)
        (omega (arith, is.numbers.there stands.0 below, as_many))) in
        let some : is_some (gate_of c.gates v) ≡ true = (defined_exactly c.gates v).1 defined in
        let no : false ≡ true = sym (ap is_some none) ∙ some in
        cc

    by_gate : (v : ℕ) (o : Option ℕ) → gate_of c.gates v ≡ o → number_by p o v ≡ number_in vs v
    by_gate v None none =
        is.first.numbers v ∙ sym (not_behind first (taken_variables c.gates order) v (none_taken v none))
    by_gate v (Some i) some =
        let found : (i < length c.gates) × ((at c.gates i).var ≡ v) = search (rules, position-Some) in
        let number = at_gate p.numbers.items is.numbers i found.0 in
        let low : 1 ≤ (at c.gates i).var = some_gate c good i found.0 in
        subst (λ w. get_or p.numbers.items i 0 ≡ number_in vs w) found.1
        (number.0 ∙ sym (in_place (at c.gates i).var vs (λ e. absurd (omega (arith, low, e))) number.1))

    -- each variable has its number
    pub numbered : (v : ℕ) → placed_number p v ≡ number_in vs v
    numbered v =
        ap (λ o. number_by p o v) (is.resolved.index.positions v) ∙ by_gate v (gate_of c.gates v) refl

    pub small : AreSmall p
    small None v =
        let fits = new_fits c order good least in
        omega (arith, is.first.numbers v, in_list first v, long, fits, good.limits.max_var)
    small (Some i) v =
        let fits = new_fits c order good least in
        ⊎_elim
        (λ (below : i < length c.gates). let number = at_gate p.numbers.items is.numbers i below in
        omega (arith, number.0, number.1, fits, good.limits.max_var))
        (λ (past : length c.gates ≤ i).
        let none : get_or p.numbers.items i 0 ≡ 0 =
        get_or_past p.numbers.items i 0 (omega (arith, past, as_many, is.numbers.many)) in
        omega (arith, none))
        (cases_lt i (length c.gates))

    by_need : (v : ℕ) → number_by p (unlinked (link_to (gate_of c.gates v))) v ≡ placed_number p v
    by_need v =
        ap (λ o. number_by p o v) (unlinked_link (gate_of c.gates v) ∙ sym (is.resolved.index.positions v))

    -- a gate that is made is that of the image
    gate_is : (i : ℕ) → i < length c.gates
        → gate_by p i (at c.gates i) ≡ numbered_gate (renumbered vs) (at c.gates i)
    gate_is i there =
        let g : Gate = at c.gates i in
        let needs : get_or p.resolved.needs.items i no_needs ≡ needs_of c.gates g =
        ap (λ all. get_or all i no_needs) is.resolved.needs
        ∙ get_or-map (needs_of c.gates) c.gates i no_gate no_needs there in
        let names =
        at_place (GateNames (λ v. placed_number p v ≡ renumbered vs v)) no_gate c.gates
        (same_names c order good least (placed_number p) numbered).gates i there in
        ap
        (λ (n : Needs). operands_sorted (gate (get_or p.numbers.items i 0) (literal_by p (unlinked n.left) g.left)
        (literal_by p (unlinked n.right) g.right))) needs
        ∙ ap operands_sorted
        (gates_alike (at_gate p.numbers.items is.numbers i there).0
        (ap (λ n. 2 * n + g.left % 2) (by_need (variable_of g.left) ∙ names.1))
        (ap (λ n. 2 * n + g.right % 2) (by_need (variable_of g.right) ∙ names.2)))

    gates_are : (xs : List ℕ) → AllByRecursion (λ g. g < length c.gates) xs
        → map (λ i. gate_by p i (at c.gates i)) xs ≡ map (numbered_gate (renumbered vs)) (taken c.gates xs)
    gates_are [] all = refl
    gates_are (x ∷ xs) all = ap₂ (λ (g : Gate) gs. g ∷ gs) (gate_is x all.0) (gates_are xs all.1)

    pub made_by_places : (made : List Gate) → made ≡ map (λ i. gate_by p i (at c.gates i)) order
        → IsMadeByPlaces c p made
    made_by_places made are = record {
      order = order;
      least = least;
      placed = is;
      gates = are ∙ gates_are order (order_there c order good least);
    }

pub placed_fits : (c : Circuit) (p : Placed) (made : List Gate) → IsWellFormed c → IsMadeByPlaces c p made
    → p.first.noted + length p.numbers.items ≤ LARGEST
placed_fits c p made good of_it =
    let fits = new_fits c of_it.order good of_it.least in
    let long = long c of_it.order good of_it.least in
    omega (
      arith,
      long,
      fits,
      good.limits.max_var,
      of_it.placed.first.count,
      of_it.placed.numbers.many,
    )

pub placed_is_image : (c : Circuit) (p : Placed) (made : List Gate) → IsWellFormed c → IsMadeByPlaces c p made
    → (rest : Circuit) (none gates : List Gate) (count : ℕ) → none ≡ []
    → rest ≡ relabelled (placed_number p) (with_gates none c) → gates ≡ made
    → count ≡ p.first.noted + length p.numbers.items
    → IsBinaryImage c (record (with_gates gates rest) { max_var = count })
placed_is_image c p made good of_it rest none gates count nothing rest_too gates_too counted =
    let long = long c of_it.order good of_it.least in
    told_is_image c of_it.order good of_it.least (placed_number p)
    (numbered c of_it.order good of_it.least p of_it.placed) rest none gates count nothing rest_too
    (gates_too ∙ of_it.gates)
    (omega (arith, counted, long, of_it.placed.first.count, of_it.placed.numbers.many))
