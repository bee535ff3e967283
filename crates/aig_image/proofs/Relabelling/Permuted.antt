-- A well-formed circuit stays well formed with other gates like those that it has, and what was converted is restored.
use Rattle.std.proofs.Common.{◌≡◌, ◌<◌, ◌∷◌, ◌++◌, ◌∙◌, ◌⊎◌, rules, ℕ, List, [], length, get_or, map, refl, sym, ap}
use Rattle.std.proofs.Common.{subst, inl, inr, ⊎_elim, arith, zero, suc, Bool, true, false, ap₂}
use Rattle.std.specs.List.{AllByRecursion, concat, flat_map, Contains}
use Rattle.std.proofs.lemmas.List.{length-map, get_or-map, get_or_default}
use Rattle.std.proofs.lemmas.List.Elements.{Contains-get_or}
use Rattle.std.proofs.lemmas.Simd.{map-map}
use Rattle.aig_circuit.specs.declared.circuit.Latch.{Latch}
use Rattle.aig_circuit.specs.declared.circuit.Gate.{Gate}
use Rattle.aig_circuit.specs.declared.circuit.Circuit.{Circuit}
use Rattle.aig_circuit.specs.Literal.{variable_of}
use Rattle.aig_circuit.specs.Wellformed.{IsAmong, AreDistinct, IsKnown, IsRank, IsVariableUpTo, IsWellFormed, operands}
use Rattle.aig_circuit.specs.Wellformed.{defined_variables, literal_lists}
use Rattle.aig_circuit.proofs.Checking.{each, all_weaker, joined, front, back}
use Rattle.aig_topo.proofs.Ordering.Ranked.{variables, stands_there, distinct_back, all_of}
use Rattle.aig_meaning.proofs.Related.{of_operands}
use Rattle.aig_image.specs.Reordered.{no_gate, taken, reordered, ArePlaces, operands_sorted, has_smaller_first}
use Rattle.aig_image.specs.Reordered.{exchanged_if, exchanged_by, with_operands_exchanged, converted, restored}
use Rattle.aig_image.specs.Relabelled.{relabelled, relabelled_gate, NamesOnly}
use Rattle.aig_image.proofs.Relabelling.Formed.{symbols_kept, counts_kept, defined_relabelled}
use Rattle.aig_image.proofs.Relabelling.Relabelled.{with_gates, sorted_operands_go_back, map_each, read_mapped}
use Rattle.aig_image.proofs.Relabelling.Relabelled.{relabellings_compose, names_kept_keep_all, taken_mapped, taken_back}
use Rattle.aig_image.proofs.Relabelling.Relabelled.{all_go_back, order_commutes, exchange_commutes, all_sorted_again}
use Rattle.aig_image.proofs.Numbering.Places.{by_places, place_there, same_place, among_swapped, distinct_by_places}
use Rattle.aig_image.proofs.Numbering.Places.{swapped_last}

-- what holds of operands, gate by gate
abbrev pub OperandsHave : (ℕ → Type 0) → Gate → Type 0
OperandsHave P g = P g.left × P g.right

pub gate_by_gate : (P : ℕ → Type 0) (gs : List Gate) → AllByRecursion P (flat_map operands gs)
    → AllByRecursion (OperandsHave P) gs
gate_by_gate P [] all = tt
gate_by_gate P (g ∷ gs) all = ((all.0, all.1.0), gate_by_gate P gs all.1.1)

end_to_end : (P : ℕ → Type 0) (gs : List Gate) → AllByRecursion (OperandsHave P) gs
    → AllByRecursion P (flat_map operands gs)
end_to_end P [] all = tt
end_to_end P (g ∷ gs) all = (all.0.0, (all.0.1, end_to_end P gs all.1))

abbrev first_of : Circuit → List ℕ
first_of c = c.inputs ++ map (λ (l : Latch). l.var) c.latches

-- a gate of the same variable as another, over no others
abbrev pub IsLike : Gate → Gate → Type 0
IsLike g h = (h.var ≡ g.var)
    × ((v : ℕ) → IsAmong v (map variable_of (operands h)) → IsAmong v (map variable_of (operands g)))

-- other gates, each like one that was there, that define the same variables
module _ (c : Circuit) (gates : List Gate) (good : IsWellFormed c) (many : length gates ≡ length c.gates)
    (once : AreDistinct (variables gates))
    (there : (v : ℕ) → IsAmong v (variables gates) → IsAmong v (variables c.gates))
    (back_there : (v : ℕ) → IsAmong v (variables c.gates) → IsAmong v (variables gates))
    (like : (h : Gate) → Contains gates h → (g : Gate) × Contains c.gates g × IsLike g h) where
  abbrev ends : List ℕ
  ends = map (λ (l : Latch). l.next) c.latches ++ concat (literal_lists c)

  abbrev Then : ℕ → Type 0
  Then = IsKnown (defined_variables c)

  abbrev Now : ℕ → Type 0
  Now = IsKnown (first_of c ++ variables gates)

  known_now : (l : ℕ) → Then l → Now l
  known_now l known =
      ⊎_elim (λ (e : variable_of l ≡ 0). inl e) (λ (a : IsAmong (variable_of l) (defined_variables c)).
      inr (among_swapped (first_of c) (variables c.gates) (variables gates) back_there (variable_of l) a)) known

  operand_known : (h : Gate) → Contains gates h → (l : ℕ) → IsAmong (variable_of l) (map variable_of (operands h))
      → Now l
  operand_known h h_in l used =
      let g = like h h_in in
      let known = of_operands Then c.gates (back Then ends (flat_map operands c.gates) good.known) g.0 g.1 in
      known_now l (each (λ v. (v ≡ 0) ⊎ IsAmong v (defined_variables c)) (map variable_of (operands g.0))
      (known.0, (known.1, tt)) (variable_of l) (g.2.1 (variable_of l) used))

  all_operands : AllByRecursion Now (flat_map operands gates)
  all_operands = end_to_end Now gates (by_places (OperandsHave Now) no_gate gates (λ i low.
      let h : Gate = get_or gates i no_gate in
      let h_in : Contains gates h = (i, low, get_or_default gates i h no_gate low) in
      (operand_known h h_in h.left (inl refl), operand_known h h_in h.right (inr (inl refl)))))

  ranks : IsRank good.ranked.0 gates
  ranks x y x_in y_in among =
      let a = like x x_in in
      let b = like y y_in in
      rw (b.2.0, a.2.0) (good.ranked.1 a.0 b.0 a.1 b.1 (a.2.1 b.0.var (rw b.2.0 at among)))

  formed_by_others : IsWellFormed (with_gates gates c)
  formed_by_others =
      let InRange : ℕ → Type 0 = IsVariableUpTo c.max_var in
      let last : AllByRecursion InRange (variables c.gates) =
      back InRange (first_of c) (variables c.gates) good.in_range in
      record {
        limits = search rules;
        in_range = joined InRange (first_of c) (variables gates)
            (front InRange (first_of c) (variables c.gates) good.in_range)
            (all_of InRange (variables gates) (λ v a. each InRange (variables c.gates) last v (there v a)));
        once = swapped_last (first_of c) (variables c.gates) (variables gates) good.once once there;
        known = search (rules, joined, all_weaker, known_now, front, all_operands);
        symbols = symbols_kept c (with_gates gates c) (counts_kept c.max_var gates c.comment c) refl good.symbols;
        ranked = (good.ranked.0, ranks);
      }

module _ (gates : List Gate) (order places : List ℕ) (are : ArePlaces order places (length gates))
    (too : ArePlaces places order (length gates)) where
  abbrev now : List Gate
  now = taken gates order

  abbrev position : ℕ → ℕ
  position p = get_or order p 0

  long : length now ≡ length gates
  long = length-map order (λ at. get_or gates at no_gate) ∙ too.0

  position_in : (p : ℕ) → p < length gates → position p < length gates
  position_in p below = omega (arith, (too.1 p below).0, are.0)

  taken_at : (p : ℕ) → p < length gates → get_or now p no_gate ≡ get_or gates (position p) no_gate
  taken_at p below = get_or-map (λ at. get_or gates at no_gate) order p 0 no_gate (omega (arith, below, too.0))

  variable_at : (gs : List Gate) (p : ℕ) → p < length gs → get_or (variables gs) p 0 ≡ (get_or gs p no_gate).var
  variable_at gs p below = get_or-map (λ (g : Gate). g.var) gs p no_gate 0 below

  -- the variable of the gate that is taken at a place
  seen : (p : ℕ) → p < length gates → get_or (variables now) p 0 ≡ get_or (variables gates) (position p) 0
  seen p below = search (rules, variable_at, long, taken_at, position_in)

  -- a gate that is taken is one of the gates, and each gate is taken
  among_then : (v : ℕ) → IsAmong v (variables now) → IsAmong v (variables gates)
  among_then v a =
      let stands = place_there now v a in
      let below : stands.0 < length gates = omega (arith, stands.1, long) in
      subst (λ w. IsAmong w (variables gates)) (ap (λ (g : Gate). g.var) (sym (taken_at stands.0 below)) ∙ stands.2)
      (stands_there gates (position stands.0) (position_in stands.0 below))

  among_now : (v : ℕ) → IsAmong v (variables gates) → IsAmong v (variables now)
  among_now v a =
      let stands = place_there gates v a in
      let here = are.1 stands.0 stands.1 in
      let p : ℕ = get_or places stands.0 0 in
      let low : p < length gates = omega (arith, here.0, too.0) in
      subst (λ w. IsAmong w (variables now))
      (search (rules, taken_at))
      (stands_there now p (omega (arith, low, long)))

  once_now : AreDistinct (variables gates) → AreDistinct (variables now)
  once_now once = search (rules, distinct_by_places, variables, length-map, long, same_place, position_in, seen)

  contained : (g : Gate) → Contains now g → Contains gates g
  contained g (k, below, is) =
      let low : k < length gates = omega (arith, below, long) in
      subst (Contains gates) (sym (taken_at k low) ∙ get_or_default now k no_gate g below ∙ is)
      (Contains-get_or gates (position k) no_gate (position_in k low))

-- the circuit defines the same variables, each once where it did
module _ (order places : List ℕ) (c : Circuit) (are : ArePlaces order places (length c.gates))
    (too : ArePlaces places order (length c.gates)) where
  pub order_keeps_once : AreDistinct (defined_variables c) → AreDistinct (defined_variables (reordered order c))
  order_keeps_once once = search (rules, swapped_last, variables, once_now, distinct_back, among_then)

  pub order_keeps_defined : (v : ℕ) → IsAmong v (defined_variables c)
      → IsAmong v (defined_variables (reordered order c))
  order_keeps_defined v a =
      among_swapped (first_of c) (variables c.gates) (variables (taken c.gates order))
      (among_now c.gates order places are too) v a

  pub order_adds_none : (v : ℕ) → IsAmong v (defined_variables (reordered order c)) → IsAmong v (defined_variables c)
  order_adds_none v a =
      among_swapped (first_of c) (variables (taken c.gates order)) (variables c.gates)
      (among_then c.gates order places are too) v a

pub order_keeps_form : (order places : List ℕ) (c : Circuit)
    → ArePlaces order places (length c.gates) → ArePlaces places order (length c.gates)
    → IsWellFormed c → IsWellFormed (reordered order c)
order_keeps_form order places c are too good =
    formed_by_others c (taken c.gates order) good (long c.gates order places are too)
    (once_now c.gates order places are too (distinct_back (first_of c) (variables c.gates) good.once))
    (among_then c.gates order places are too) (among_now c.gates order places are too)
    (λ h h_in. (h, contained c.gates order places are too h h_in, (refl, λ v a. a)))

-- A well-formed circuit stays well formed with operands exchanged, and sorting is such an exchange.
same_variables : (flags : List Bool) (gs : List Gate) → variables (exchanged_by flags gs) ≡ variables gs
same_variables [] gs = refl
same_variables (e ∷ es) [] = refl
same_variables (e ∷ es) (g ∷ gs) = ap (λ (vs : List ℕ). g.var ∷ vs) (same_variables es gs)

-- what is contained was exchanged or not
made_by : (flags : List Bool) (gs : List Gate) (h : Gate) → Contains (exchanged_by flags gs) h
    → (e : Bool) × (g : Gate) × Contains gs g × (exchanged_if e g ≡ h)
made_by [] gs h is = (false, h, is, refl)
made_by (e ∷ es) [] h (k, below, is) = absurd (omega (arith, below))
made_by (e ∷ es) (g ∷ gs) h (zero, below, is) = (e, g, (zero, omega arith, refl), is)
made_by (e ∷ es) (g ∷ gs) h (suc k, below, is) =
    let later = made_by es gs h (k, omega (arith, below), is) in
    let within = later.2.1 in
    (later.0, later.1, (suc later.2.0, omega (arith, within), later.2.2), later.3)

-- exchanged operands are over the same variables
like_before : (e : Bool) (g : Gate) → IsLike g (exchanged_if e g)
like_before true g = (refl, λ v a. ⊎_elim (λ i. inr (inl i)) (λ j. ⊎_elim (λ i. inl i) (λ n. absurd n) j) a)
like_before false g = (refl, λ v a. a)

pub as_many : (flags : List Bool) (gs : List Gate) → length (exchanged_by flags gs) ≡ length gs
as_many [] gs = refl
as_many (e ∷ es) [] = refl
as_many (e ∷ es) (g ∷ gs) = ap suc (as_many es gs)

pub exchange_keeps_form : (flags : List Bool) (c : Circuit) → IsWellFormed c
    → IsWellFormed (with_operands_exchanged flags c)
exchange_keeps_form flags c good =
    let same = same_variables flags c.gates in
    let first : List ℕ = c.inputs ++ map (λ (l : Latch). l.var) c.latches in
    formed_by_others c (exchanged_by flags c.gates) good (as_many flags c.gates)
    (subst AreDistinct (sym same) (distinct_back first (variables c.gates) good.once))
    (λ v. subst (IsAmong v) same) (λ v. subst (IsAmong v) (sym same)) (λ h h_in.
    let made = made_by flags c.gates h h_in in
    (made.1, made.2, subst (IsLike made.1) made.3 (like_before made.0 made.1)))

-- gates that are made with their flags
pub exchanged_each : {X : Type 0} (e : X → Bool) (h : X → Gate) (xs : List X)
    → exchanged_by (map e xs) (map h xs) ≡ map (λ x. exchanged_if (e x) (h x)) xs
exchanged_each e h [] = refl
exchanged_each e h (x ∷ xs) = ap (λ (gs : List Gate). exchanged_if (e x) (h x) ∷ gs) (exchanged_each e h xs)

-- sorting is an exchange by the gates' own flags
twice_exchanged : (e : Bool) (g : Gate) → exchanged_if e (exchanged_if e g) ≡ g
twice_exchanged true g = refl
twice_exchanged false g = refl

pub sorted_by_flags : (gs : List Gate) → map operands_sorted gs ≡ exchanged_by (map has_smaller_first gs) gs
sorted_by_flags [] = refl
sorted_by_flags (g ∷ gs) = search (rules, twice_exchanged, sorted_operands_go_back, sorted_by_flags gs)

-- What was converted is restored, and what was restored is converted to what it was restored from.

-- the gates of a converted circuit, from their places
pub converted_in_places : (f : ℕ → ℕ) (order places : List ℕ) (c : Circuit) → ArePlaces order places (length c.gates)
    → taken (converted f order c).gates places ≡ map operands_sorted (map (relabelled_gate f) c.gates)
converted_in_places f order places c are =
    let new : List Gate = map (relabelled_gate f) c.gates in
    let placed = subst (ArePlaces order places) (sym (length-map c.gates (relabelled_gate f))) are in
    sym (taken_mapped operands_sorted refl (taken new order) places)
    ∙ ap (map operands_sorted) (taken_back new order places placed)

pub converted_is_restored : (f g : ℕ → ℕ) (order places : List ℕ) (c : Circuit)
    → f 0 ≡ 0 → NamesOnly (λ v. g (f v) ≡ v) c → ArePlaces order places (length c.gates)
    → restored g places (map (λ h. has_smaller_first (relabelled_gate f h)) c.gates) (converted f order c) ≡ c
converted_is_restored f g order places c constant back are =
    let new : List Gate = map (relabelled_gate f) c.gates in
    let flags = sym (map-map has_smaller_first (relabelled_gate f) c.gates) in
    ap (λ gs. relabelled g (with_gates gs (relabelled f c)))
    (ap₂ exchanged_by flags (converted_in_places f order places c are) ∙ all_go_back new)
    ∙ relabellings_compose f g c
    ∙ names_kept_keep_all (λ v. g (f v)) c back

-- what was restored, by the variables of before
relabelled_again : (f g : ℕ → ℕ) (places : List ℕ) (flags : List Bool) (x : Circuit)
    → f (g 0) ≡ 0 → NamesOnly (λ v. f (g v) ≡ v) x
    → relabelled f (restored g places flags x) ≡ with_operands_exchanged flags (reordered places x)
relabelled_again f g places flags x constant there =
    let r : ℕ → ℕ = λ v. f (g v) in
    let exchanged : Circuit → Circuit = with_operands_exchanged flags in
    relabellings_compose g f (exchanged (reordered places x))
    ∙ exchange_commutes r flags (reordered places x)
    ∙ ap exchanged (order_commutes r places x constant)
    ∙ ap (λ (c : Circuit). exchanged (reordered places c)) (names_kept_keep_all r x there)

pub restored_is_converted : (f g : ℕ → ℕ) (order places : List ℕ) (flags : List Bool) (x : Circuit)
    → f (g 0) ≡ 0 → NamesOnly (λ v. f (g v) ≡ v) x → ArePlaces places order (length x.gates)
    → map operands_sorted x.gates ≡ x.gates
    → converted f order (restored g places flags x) ≡ x
restored_is_converted f g order places flags x constant there are larger_first =
    let gates =
    taken_mapped operands_sorted refl (exchanged_by flags (taken x.gates places)) order
    ∙ ap (λ gs. taken gs order)
    (all_sorted_again flags (taken x.gates places) ∙ taken_mapped operands_sorted refl x.gates places)
    ∙ ap (λ gs. taken (taken gs places) order) larger_first
    ∙ taken_back x.gates places order are in
    ap (λ (c : Circuit). with_gates (map operands_sorted (taken c.gates order)) c)
    (relabelled_again f g places flags x constant there)
    ∙ ap (λ gs. with_gates gs x) gates

-- the variables of gates that are taken
pub variables_taken : (gs : List Gate) (order : List ℕ)
    → variables (taken gs order) ≡ map (λ at. get_or (variables gs) at 0) order
variables_taken gs order = search (rules, map-map, map_each, variables, read_mapped)

-- in the order that it had, a restored circuit defines what the circuit does, by other variables
pub defined_in_order : (g : ℕ → ℕ) (order places : List ℕ) (flags : List Bool) (x : Circuit) → g 0 ≡ 0
    → ArePlaces places order (length x.gates)
    → defined_variables (reordered order (restored g places flags x)) ≡ map g (defined_variables x)
defined_in_order g order places flags x constant are =
    let first : List ℕ = x.inputs ++ map (λ (l : Latch). l.var) x.latches in
    let moved : List Gate = taken x.gates places in
    let gates = variables_taken (exchanged_by flags moved) order
    ∙ ap (λ vs. map (λ at. get_or vs at 0) order) (same_variables flags moved)
    ∙ sym (variables_taken moved order)
    ∙ ap variables (taken_back x.gates places order are) in
    ap defined_variables (sym (order_commutes g order (with_operands_exchanged flags (reordered places x)) constant))
    ∙ defined_relabelled g (reordered order (with_operands_exchanged flags (reordered places x)))
    ∙ ap (λ vs. map g (first ++ vs)) gates
