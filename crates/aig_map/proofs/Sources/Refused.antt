-- Why undoing refuses, and operands that are recorded as exchanged.
use Rattle.std.proofs.Common.{◌≡◌, ◌↔◌, ◌<◌, ◌∙◌, ◌+◌, ◌∷◌, ◌++◌, ◌⊎◌, rules, ℕ, List, Bool, true, false, length}
use Rattle.std.proofs.Common.{get_or, sym, ap, arith, zero, suc, [], map, set, take, refl, ap₂, subst, inl, inr}
use Rattle.std.proofs.Common.{get_or-set_same, get_or-set_other, ⊎_elim, cond, IsOk, IfOk, IfErr, OnOk, MatchResult}
use Rattle.std.proofs.Common.{Result, Ok, Err, Option, None, Some, get_or-take, length-take-le}
use Rattle.std.proofs.lemmas.List.{get_or-map, length-map, get_or_default, map-append, take_more}
use Rattle.std.proofs.lemmas.Simd.{map-map}
use Rattle.std.proofs.lemmas.Bool.{cases_lt}
use Rattle.aig_circuit.specs.declared.circuit.Gate.{Gate}
use Rattle.aig_circuit.specs.declared.circuit.Circuit.{Circuit}
use Rattle.aig_circuit.specs.Wellformed.{AreDistinct, IsVariableUpTo, IsWellFormed, defined_variables, IsAmong}
use Rattle.aig_topo.proofs.Ordering.Ranked.{at, no_gate}
use Rattle.aig_topo.proofs.Ordering.LeastReady.{one_least_ready_order}
use Rattle.aig_checked.specs.BinaryOrder.{IsInBinaryOrder}
use Rattle.aig_image.specs.Relabelled.{GateNames, relabelled_gate}
use Rattle.aig_image.specs.Renumbering.{renumbered, source_variable}
use Rattle.aig_image.specs.Reordered.{taken, exchanged_by, exchanged_if}
use Rattle.aig_image.proofs.Relabelling.Relabelled.{gate_back}
use Rattle.aig_image.proofs.Numbering.Places.{at_place, by_places, somewhere, same_place}
use Rattle.aig_image.proofs.Relabelling.Permuted.{as_many as as_many_exchanged}
use Rattle.aig_map.specs.declared.map_block.MappedGate.{MappedGate}
use Rattle.aig_map.specs.declared.map_block.MapBlock.{MapBlock}
use Rattle.aig_map.specs.Parts.Confirmed.{DifferWhereExchanged, ExchangesDiffer, HasTwoOperands, TellsExchanges}
use Rattle.aig_map.specs.Parts.Confirmed.{gate_in_place}
use Rattle.aig_map.specs.Parts.Had.{gates_there}
use Rattle.aig_map.specs.Parts.Tables.{IsFit}
use Rattle.aig_map.specs.Undone.{comment_behind, exchanges_recorded, source_variables, undone, forged, IsMapFault}
use Rattle.aig_map.specs.Undone.{IsUndoneFrom}
use Rattle.aig_map.specs.Undone.{places_recorded}
use Rattle.aig_fault.specs.Stopping.{StopsFor}
use Rattle.aig_fault.specs.declared.fault.Fault.{Fault}
use Rattle.aig_fault.specs.declared.stopped.Stopped.{Stopped}
use Rattle.aig_fault.specs.declared.stopped.Stopped.TheVariants as stops
use Rattle.aig_map.specs.MapBlock.{IsMappedImage, mapped_by, last_line}
use Rattle.aig_map.specs.declared.map_block.FirstLine.{FirstLine}
use Rattle.aig_map.specs.MapSpelling.{after_text, variable_at, gate_at}
use Rattle.aig_map.specs.MapReading.{◌>>=◌, or_else, entries_at, counted_line, rest_of_block, block_reading}
use Rattle.aig_map.proofs.Restoring.Source.{names}
use Rattle.aig_map.proofs.Sources.Placed.{none_recorded, recorded_at}
use Rattle.aig_map.proofs.BlockReading.Block.{read_is_fit}
use Rattle.aig_map.proofs.Sources.OneSource.{recorded_right, is_read, one_source, undone_by_read, undoing_recovers}
use Rattle.aig_map.proofs.Mapping.{mapped_image_is_ordered}

-- what is said of the parts of a block and a circuit is said of these
pub exchanges_of_same : (b : MapBlock) (x : Circuit) (found : List Gate) (flags : List Bool)
    → found ≡ gates_there (source_variable (source_variables b)) x.gates b.gates → flags ≡ exchanges_recorded b.gates
    → DifferWhereExchanged found flags ↔ ExchangesDiffer b x
exchanges_of_same b x found flags found_are flags_are = search rules

module _ (b : MapBlock) (x : Circuit) where
  abbrev g : ℕ → ℕ
  g = source_variable (source_variables b)

  abbrev there : ℕ → Gate
  there i = at x.gates (recorded_at b.gates i).place

  gate_there : (i : ℕ) → i < length b.gates
      → at (gates_there g x.gates b.gates) i ≡ relabelled_gate g (there i)
  gate_there i low = search (rules, map-map, get_or-map, no_gate)

  flag_at : (i : ℕ) → i < length b.gates
      → get_or (exchanges_recorded b.gates) i false ≡ (recorded_at b.gates i).exchanged
  flag_at i low = get_or-map (λ (m : MappedGate). m.exchanged) b.gates i none_recorded false low

  flags_many : length (exchanges_recorded b.gates) ≡ length b.gates
  flags_many = length-map b.gates (λ (m : MappedGate). m.exchanged)

  -- equal operands have equal labels
  pub image_differs : ExchangesDiffer b x → TellsExchanges x.gates b.gates
  image_differs differ =
      by_places (λ (m : MappedGate). m.exchanged ≡ true → HasTwoOperands (at x.gates m.place)) none_recorded b.gates
      (λ i low exchanged equal. differ i (omega (arith, low, flags_many)) (flag_at i low ∙ exchanged)
      (search (rules, gate_there)))

  -- and where there is a way back, equal labels are those of equal operands
  source_differs : (rest : List ℕ) → IsFit b x → IsWellFormed x
      → AreDistinct (defined_variables (undone b (comment_behind b rest) x))
      → TellsExchanges x.gates b.gates → ExchangesDiffer b x
  source_differs rest fit good once tells i counted exchanged equal =
      let low : i < length b.gates = omega (arith, counted, flags_many) in
      let f : ℕ → ℕ = renumbered (source_variables b) in
      let within = at_place (λ (m : MappedGate). IsVariableUpTo b.max_var m.var × (m.place < length b.gates))
      none_recorded b.gates fit.bounds.gates i low in
      let again = gate_back f g (there i)
      (at_place (GateNames (λ v. f (g v) ≡ v)) no_gate x.gates (names b x rest fit good once).gates
      (recorded_at b.gates i).place (omega (arith, within.1, fit.counts.gates))) in
      let same = sym (ap (λ (h : Gate). h.left) (gate_there i low)) ∙ equal
      ∙ ap (λ (h : Gate). h.right) (gate_there i low) in
      search (rules, at_place, at, none_recorded, flag_at)

-- what is put at another position is not taken
not_taken : (found : List Gate) (new : Gate) (at_new : ℕ) (positions : List ℕ) → ¬ IsAmong at_new positions
    → taken (set found at_new new) positions ≡ taken found positions
not_taken found new at_new [] out = refl
not_taken found new at_new (p ∷ positions) out =
    ap₂ (λ (g : Gate) (gs : List Gate). g ∷ gs) (get_or-set_other found at_new p new no_gate (λ e. out (inl (sym e))))
    (not_taken found new at_new positions (λ a. out (inr a)))

-- distinct positions: the next one is none of those before
next_is_new : (positions : List ℕ) (k : ℕ) → AreDistinct positions → k < length positions
    → ¬ IsAmong (get_or positions k 0) (take k positions)
next_is_new positions k once there among = search (rules, somewhere, length-take-le, same_place, get_or-take)

-- one gate more is put at its position
pub one_more_put : (h : Gate → Gate) (gates found : List Gate) (positions : List ℕ) (k : ℕ) (g new : Gate)
    → length positions ≡ length gates → AreDistinct positions → k < length gates
    → get_or positions k 0 < length found → g ≡ get_or gates k g → new ≡ h g
    → taken found (take k positions) ≡ map h (take k gates)
    → taken (set found (get_or positions k 0) new) (take (k + 1) positions) ≡ map h (take (k + 1) gates)
one_more_put h gates found positions k g new many once there fits is made before =
    let p : ℕ = get_or positions k 0 in
    let now : List Gate = set found p new in
    let low : k < length positions = omega (arith, there, many) in
    let read : Gate → Gate = λ x. x in
    ap (taken now) (take_more positions k 0 low)
    ∙ map-append (λ q. get_or now q no_gate) (take k positions) (p ∷ [])
    ∙ ap₂ (λ (gs : List Gate) (x : Gate). gs ++ x ∷ [])
    (not_taken found new p (take k positions) (next_is_new positions k once low) ∙ before)
    (get_or-set_same found p new no_gate fits ∙ made ∙ ap h is)
    ∙ sym (map-append h (take k gates) (get_or gates k g ∷ []))
    ∙ ap (map h) (sym (take_more gates k g there))

-- one gate more is exchanged where it stands
next_exchanged : (k : ℕ) (es : List Bool) (gs : List Gate) → k < length es → k < length gs
    → exchanged_by (take (suc k) es) gs
    ≡ set (exchanged_by (take k es) gs) k (exchanged_if (get_or es k false) (at gs k))
next_exchanged k [] gs low low_too = absurd (omega (arith, low))
next_exchanged k (e ∷ es) [] low low_too = absurd (omega (arith, low_too))
next_exchanged zero (e ∷ es) (g ∷ gs) low low_too = refl
next_exchanged (suc k) (e ∷ es) (g ∷ gs) low low_too =
    search (rules, next_exchanged k es gs (omega (arith, low)) (omega (arith, low_too)))

-- what is not exchanged yet stands as it stood
still_there : (k : ℕ) (es : List Bool) (gs : List Gate) → at (exchanged_by (take k es) gs) k ≡ at gs k
still_there zero es gs = refl
still_there (suc k) [] gs = refl
still_there (suc k) (e ∷ es) [] = refl
still_there (suc k) (e ∷ es) (g ∷ gs) = still_there k es gs

-- a gate that is looked at, and then exchanged where its flag says so
module _ (flags : List Bool) (gs found : List Gate) (k : ℕ) (g : Gate) (low : k < length flags)
    (many : length flags ≡ length gs) (before : found ≡ exchanged_by (take k flags) gs)
    (here : g ≡ get_or found k g) where
  abbrev AreEqual : Type 0
  AreEqual = (get_or flags k false ≡ true) × (g.left ≡ g.right)

  gate_is : g ≡ at gs k
  gate_is = search (rules, as_many_exchanged, get_or_default, no_gate, at, still_there)

  pub one_more_exchanged : (new : Gate) → new ≡ exchanged_if (get_or flags k false) g
      → set found k new ≡ exchanged_by (take (k + 1) flags) gs
  one_more_exchanged new made = search (rules, gate_is, next_exchanged)

  pub not_all_differ : AreEqual → ¬ DifferWhereExchanged gs flags
  not_all_differ equal differ =
      differ k low equal.0 (subst (λ (h : Gate). h.left ≡ h.right) gate_is equal.1)

  pub one_more_differs : ¬ AreEqual
      → ((i : ℕ) → i < k → get_or flags i false ≡ true → HasTwoOperands (gate_in_place gs i))
      → (i : ℕ) → i < k + 1 → get_or flags i false ≡ true → HasTwoOperands (gate_in_place gs i)
  one_more_differs two differ i below exchanged = search (rules, gate_is, at, cases_lt)

-- Why undoing refuses.

-- a circuit has one mapped image, since its gates have one order
pub one_mapped : (c a b : Circuit) → IsMappedImage c a → IsMappedImage c b → a ≡ b
one_mapped c a b p q = p.2 ∙ ap (λ order. mapped_by order c) (one_least_ready_order c p.0 q.0 p.1 q.1) ∙ sym q.2

-- a block that is not read
pub unread : (x : Circuit) (e : Stopped) → IsInBinaryOrder x
    → (e ≡ stops.OutOfMemory) ⊎ ((fault : Fault) × (e ≡ stops.Refused fault) × (block_reading x ≡ Err fault))
    → StopsFor (IsMapFault x) e
unread x e in_order (inl memory) = subst (StopsFor (IsMapFault x)) (sym memory) tt
unread x e in_order (inr failed) = subst (StopsFor (IsMapFault x)) (sym failed.1) (inr (inl (in_order, failed.2)))

-- what is read is no fault
no_fault : {r : MapBlock × List ℕ} {e : Fault} {read : Result (MapBlock × List ℕ) Fault} → read ≡ Ok r
    → ¬ (read ≡ Err e)
no_fault is failed = cc

-- a block that is read, where no circuit is undone by it
module _ (x : Circuit) (b : MapBlock) (rest : List ℕ) (in_order : IsInBinaryOrder x)
    (read : block_reading x ≡ Ok (b, rest)) where
  was_read : IsOk (block_reading x)
  was_read = rw read refl

  -- the circuit that is undone from x is undone by this block
  by_block : (c : Circuit) → IsUndoneFrom x c
      → AreDistinct (places_recorded b.gates) × (c ≡ undone b (comment_behind b rest) x)
  by_block c p = undone_by_read c x (b, rest) p.well_formed p.image read

  -- so what does not hold of it is forged
  unless : (P : Type 0) → ((c : Circuit) → IsUndoneFrom x c → P) → (e : Stopped)
      → (e ≡ stops.OutOfMemory) ⊎ ((e ≡ forged) × (¬ P)) → StopsFor (IsMapFault x) e
  unless P holds e (inl memory) = subst (StopsFor (IsMapFault x)) (sym memory) tt
  unless P holds e (inr other) =
      subst (StopsFor (IsMapFault x)) (sym other.0)
      (inr (inr (refl, in_order, was_read, λ c p. other.1 (holds c p))))

  pub of_places : (e : Stopped)
      → (e ≡ stops.OutOfMemory) ⊎ ((e ≡ forged) × (¬ AreDistinct (places_recorded b.gates)))
      → StopsFor (IsMapFault x) e
  of_places = unless (AreDistinct (places_recorded b.gates)) (λ c p. (by_block c p).0)

  -- operands that are equal and recorded as exchanged
  pub of_exchanges : (e : Stopped) → IsWellFormed x
      → (e ≡ stops.OutOfMemory) ⊎ ((e ≡ forged) × (¬ ExchangesDiffer b x)) → StopsFor (IsMapFault x) e
  of_exchanges e good =
      unless (ExchangesDiffer b x) (λ c p.
      let by = by_block c p in
      source_differs b x rest (read_is_fit x b rest in_order read by.0) good
      (subst (λ (d : Circuit). AreDistinct (defined_variables d)) by.1 p.well_formed.once)
      (recorded_right c x b rest p.well_formed p.image read).0) e

  pub of_judged : (source : Circuit) (judged : Result Circuit Stopped) → source ≡ undone b (comment_behind b rest) x
      → IfErr judged (λ e. (e ≡ stops.OutOfMemory) ⊎ ((e ≡ forged) × (¬ IsWellFormed source)))
      → IfErr judged (StopsFor (IsMapFault x))
  of_judged source (Ok c) is refused = tt
  of_judged source (Err e) is refused =
      unless (IsWellFormed source) (λ c p. subst IsWellFormed ((by_block c p).1 ∙ sym is) p.well_formed) e refused

  -- so why the image is not the one that the block tells of
  pub of_confirmed : (source : Circuit) (recorded : Result Circuit Stopped)
      → source ≡ undone b (comment_behind b rest) x
      → IfErr recorded
      (λ e. (e ≡ stops.OutOfMemory) ⊎ ((e ≡ forged) × (¬ (IsWellFormed source × IsMappedImage source x))))
      → IfErr recorded (StopsFor (IsMapFault x))
  of_confirmed source (Ok c) is refused = tt
  of_confirmed source (Err e) is refused =
      unless (IsWellFormed source × IsMappedImage source x)
      (λ c p. subst (λ (d : Circuit). IsWellFormed d × IsMappedImage d x) ((by_block c p).1 ∙ sym is)
      (p.well_formed, p.image)) e refused

-- what is undone, once it is found to be well formed
pub undone_where_judged : (x source : Circuit) (judged : Result Circuit Stopped)
    → (IsWellFormed source → IsMappedImage source x) → IfOk judged (λ c. c ≡ source)
    → OnOk judged (IsWellFormed source) → IfOk judged (IsUndoneFrom x)
undone_where_judged x source (Ok c) image is formed =
    subst (IsUndoneFrom x) (sym is) (undoing_recovers source x formed (image formed)).0
undone_where_judged x source (Err e) image is formed = tt

-- a circuit that has an undone one has no fault
pub no_map_fault : (x : Circuit) (fault : Fault) → IsMapFault x fault → (c : Circuit) → ¬ IsUndoneFrom x c
no_map_fault x fault (inl unordered) c p = unordered.1 (mapped_image_is_ordered c x p.well_formed p.image).1
no_map_fault x fault (inr (inl unread)) c p = no_fault (is_read c x p.well_formed p.image).1 unread.1
no_map_fault x fault (inr (inr never)) c p = never.3 c p

-- so undoing stops for want of memory alone
only_memory : (x : Circuit) (e : Stopped) → StopsFor (IsMapFault x) e → (c : Circuit) → IsUndoneFrom x c
    → e ≡ stops.OutOfMemory
only_memory x stops.OutOfMemory why c p = refl
only_memory x stops.ReadFailed why c p = absurd why
only_memory x stops.WriteFailed why c p = absurd why
only_memory x (stops.Refused fault) why c p = absurd (no_map_fault x fault why c p)

-- so what undoing gives is recorded by what it may give
pub only_undone : (x : Circuit) (recorded : Result Circuit Stopped) → IfOk recorded (IsUndoneFrom x)
    → IfErr recorded (StopsFor (IsMapFault x)) → (c : Circuit) → IsUndoneFrom x c
    → MatchResult recorded (λ d. d ≡ c) (λ e. e ≡ stops.OutOfMemory)
only_undone x (Ok d) ok fault c p = one_source d c x ok.well_formed p.well_formed ok.image p.image
only_undone x (Err e) ok fault c p = only_memory x e fault c p
