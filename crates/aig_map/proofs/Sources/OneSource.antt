-- A mapped image is that of one circuit, which is undone from it by a block that tells what is right.
use Rattle.std.proofs.Common.{◌≡◌, ◌+◌, ◌<◌, ◌++◌, ◌∙◌, ◌≢◌, ◌⊎◌, ◌↔◌, rules, ℕ, List, [], length, map, Result, Ok}
use Rattle.std.proofs.Common.{refl, sym, ap, subst, arith, true, ltb, Option, None, Some, get_or, max, min, inl, inr}
use Rattle.std.proofs.Common.{Bool, false, true≢false, IsTrue, unwrap_or, is_some, ltb-true}
use Rattle.std.proofs.lemmas.List.{length-map, get_or-map}
use Rattle.std.proofs.Math.Nat.{max-eq_right, min-eq_left}
use Rattle.aig_circuit.specs.declared.circuit.Latch.{Latch}
use Rattle.aig_circuit.specs.declared.circuit.Gate.{Gate}
use Rattle.aig_circuit.specs.declared.circuit.Circuit.{Circuit}
use Rattle.aig_circuit.specs.Wellformed.{AreDistinct, IsVariableUpTo, IsWellFormed}
use Rattle.aig_circuit.proofs.Checking.{definitions_fit, front, back}
use Rattle.aig_topo.specs.Order.{IsLeastReadyOrder}
use Rattle.aig_topo.proofs.Ordering.Ranked.{at, no_gate, variables}
use Rattle.aig_image.specs.Renumbering.{in_new_order, renumbered}
use Rattle.aig_image.specs.Relabelled.{relabelled_gate, relabelled_literal}
use Rattle.aig_image.specs.Reordered.{operands_sorted}
use Rattle.aig_image.proofs.Imaging.InTurn.{all_taken}
use Rattle.aig_image.proofs.Relabelling.Formed.{all_through}
use Rattle.aig_image.proofs.Numbering.Places.{places_apart, at_place, by_places}
use Rattle.aig_fault.specs.declared.fault.Fault.{Fault}
use Rattle.aig_map.specs.declared.map_block.MappedGate.{MappedGate}
use Rattle.aig_map.specs.declared.map_block.MapBlock.{MapBlock}
use Rattle.aig_map.specs.MapBlock.{mapped_gate, map_block, mapped_by, IsMappedImage}
use Rattle.aig_map.specs.MapReading.{block_reading, HasCountsOf, IsWithinBounds}
use Rattle.aig_map.specs.Undone.{undone, comment_behind, places_recorded, IsUndoneFrom}
use Rattle.aig_map.specs.Parts.Confirmed.{HasTwoOperands, TellsExchanges, TellsComment}
use Rattle.aig_map.specs.Parts.Turns.{positions}
use Rattle.aig_map.specs.Parts.Tables.{IsFit}
use Rattle.aig_map.proofs.BlockReading.Block.{block_is_read, read_is_text}
use Rattle.aig_map.proofs.Restoring.Recovered.{are, carried_back, place_at, places, images_are, order_is}
use Rattle.aig_map.proofs.Restoring.Source.{image_again}

module _ (c : Circuit) (order : List ℕ) (good : IsWellFormed c) (least : IsLeastReadyOrder c order) where
  abbrev f : ℕ → ℕ
  f = renumbered (in_new_order c order)

  abbrev latches : List ℕ
  latches = map (λ (l : Latch). l.var) c.latches

  abbrev tell : Gate → MappedGate
  tell = mapped_gate f (1 + length c.inputs + length c.latches)

  abbrev recorded : List MappedGate
  recorded = map tell c.gates

  abbrev InRange : ℕ → Type 0
  InRange = IsVariableUpTo c.max_var

  recorded_many : length recorded ≡ length c.gates
  recorded_many = length-map c.gates tell

  -- the block tells of as many inputs, latches and gates as the image has
  counts : HasCountsOf (map_block order c) (mapped_by order c)
  counts = search (rules, length-map, at, recorded_many, all_taken)

  -- what the block tells is within bounds
  within : IsWithinBounds (map_block order c)
  within =
      let before = front InRange (c.inputs ++ latches) (variables c.gates) good.in_range in
      let vars = back InRange (c.inputs ++ latches) (variables c.gates) good.in_range in
      let IsGood : MappedGate → Type 0 = λ m. InRange m.var × (m.place < length recorded) in
      let gates = by_places (λ h. IsGood (tell h)) no_gate c.gates (λ i low. (
        subst InRange (get_or-map (λ (h : Gate). h.var) c.gates i no_gate 0 low)
            (at_place InRange 0 (variables c.gates) vars i
            (omega (arith, low, length-map c.gates (λ (h : Gate). h.var)))),
        omega (
          arith,
          ((are c order good least).1 i low).0,
          place_at c order good least i low,
          recorded_many,
          all_taken c order good least,
        ),
      )) in
      record {
        max_var = good.limits.max_var;
        counts = omega (arith, definitions_fit c good, recorded_many, length-map c.latches (λ (l : Latch). l.var));
        inputs = front InRange c.inputs latches before;
        latches = back InRange c.inputs latches before;
        gates = all_through (λ h. IsGood (tell h)) IsGood tell (λ h e. e) c.gates gates;
      }

  recorded_once : AreDistinct (places_recorded recorded)
  recorded_once = places_apart order (places c order good least) (length c.gates) (are c order good least)

  -- the circuit is undone from its mapped image
  undone_from_mapped : IsUndoneFrom (mapped_by order c) c
  undone_from_mapped = record {
    block = map_block order c;
    rest = unwrap_or c.comment [];
    begins = refl;
    counts = counts;
    places = recorded_once;
    is = sym (carried_back c order good least);
    well_formed = good;
    image = (order, least, refl);
  }

  -- what is read of the mapped image
  mapped_reading : block_reading (mapped_by order c) ≡ Ok (map_block order c, unwrap_or c.comment [])
  mapped_reading = block_is_read (mapped_by order c) (map_block order c) (unwrap_or c.comment []) refl counts within

-- one thing is read
one_reading : (reading : Result (MapBlock × List ℕ) Fault) (recorded other : MapBlock × List ℕ)
    → reading ≡ Ok recorded → reading ≡ Ok other → recorded ≡ other
one_reading reading recorded other is is_too = cc

-- a block is read of a mapped image
pub is_read : (c x : Circuit) → IsWellFormed c → IsMappedImage c x
    → (r : MapBlock × List ℕ) × (block_reading x ≡ Ok r)
is_read c x good (order, least, is) =
    ((map_block order c, unwrap_or c.comment []), ap block_reading is ∙ mapped_reading c order good least)

-- and what is read undoes it
pub undone_by_read : (c x : Circuit) (r : MapBlock × List ℕ) → IsWellFormed c → IsMappedImage c x
    → block_reading x ≡ Ok r → AreDistinct (places_recorded r.0.gates) × (c ≡ undone r.0 (comment_behind r.0 r.1) x)
undone_by_read c x r good (order, least, is) read =
    let same : (map_block order c, unwrap_or c.comment []) ≡ r = one_reading (block_reading x) _ r
    (ap block_reading is ∙ mapped_reading c order good least) read in
    subst (λ (s : MapBlock × List ℕ). AreDistinct (places_recorded s.0.gates)
    × (c ≡ undone s.0 (comment_behind s.0 s.1) x))
    same (recorded_once c order good least, rw is (sym (carried_back c order good least)))

-- no two well-formed circuits have one mapped image
pub one_source : (c d x : Circuit) → IsWellFormed c → IsWellFormed d → IsMappedImage c x → IsMappedImage d x → c ≡ d
one_source c d x good good_too is is_too =
    let read = is_read c x good is in
    (undone_by_read c x read.0 good is read.1).1 ∙ sym (undone_by_read d x read.0 good_too is_too read.1).1

pub undoing_recovers : (c image : Circuit) → IsWellFormed c → IsMappedImage c image
    → IsUndoneFrom image c × ((other : Circuit) → IsUndoneFrom image other → other ≡ c)
undoing_recovers c image good is = (
  subst (λ (x : Circuit). IsUndoneFrom x c) (sym is.2) (undone_from_mapped c is.0 good is.1),
  λ other from. one_source other c image from.well_formed good from.image is,
)

pub only_mapped_images_are_undone : (image c d : Circuit)
    → (IsUndoneFrom image c → IsWellFormed c × IsMappedImage c image)
    × (IsWellFormed c → IsWellFormed d → IsMappedImage c image → IsMappedImage d image → c ≡ d)
only_mapped_images_are_undone image c d =
    (λ from. (from.well_formed, from.image), λ good good_too is is_too. one_source c d image good good_too is is_too)

-- The block of a mapped image tells no exchange of equal operands, and of a comment section where a comment follows.

-- of two numbers in rising order, the larger is not the smaller
apart : (a b : ℕ) → ltb a b ≡ true → max a b ≢ min a b
apart a b rising same = search (rules, ltb-true, max-eq_right, min-eq_left)

-- a comment that is not there is empty
none_empty : (comment : Option (List ℕ)) → (is_some comment ≡ true) ⊎ (unwrap_or comment [] ≡ [])
none_empty None = inr refl
none_empty (Some text) = inl refl

-- what is recorded rightly of an image
abbrev IsRight : Circuit → MapBlock × List ℕ → Type 0
IsRight x recorded = TellsExchanges x.gates recorded.0.gates × TellsComment recorded.0.has_comment recorded.1

module _ (c : Circuit) (order : List ℕ) (good : IsWellFormed c) (least : IsLeastReadyOrder c order) where
  abbrev vs : List ℕ
  vs = in_new_order c order

  abbrev start : ℕ
  start = 1 + length c.inputs + length c.latches

  abbrev number : ℕ → ℕ
  number = renumbered vs

  abbrev images : List Gate
  images = (mapped_by order c).gates

  abbrev told : Gate → MappedGate
  told = mapped_gate number start

  -- a gate that is recorded as exchanged has an image with two operands
  two_operands : (i : ℕ) → i < length c.gates → (told (at c.gates i)).exchanged ≡ true
      → HasTwoOperands (at images (told (at c.gates i)).place)
  two_operands i below is same =
      let g : Gate = at c.gates i in
      let place : ℕ = get_or (places c order good least) i 0 in
      let new : List Gate = map (relabelled_gate number) c.gates in
      let low : i < length (places c order good least) = omega (arith, below, (are c order good least).0) in
      let there = ap (at images) (sym (place_at c order good least i below))
      ∙ sym (get_or-map (at images) (places c order good least) i 0 no_gate low)
      ∙ ap (λ (gs : List Gate). at gs i) (images_are c order good least)
      ∙ get_or-map operands_sorted new i no_gate no_gate
      (omega (arith, below, length-map c.gates (relabelled_gate number)))
      ∙ ap operands_sorted (get_or-map (relabelled_gate number) c.gates i no_gate no_gate below) in
      apart (relabelled_literal number g.left) (relabelled_literal number g.right) is
      (sym (ap (λ (h : Gate). h.left) there) ∙ same ∙ ap (λ (h : Gate). h.right) there)

  abbrev IsTwo : MappedGate → Type 0
  IsTwo m = m.exchanged ≡ true → HasTwoOperands (at images m.place)

  mapped_right : IsRight (mapped_by order c) (map_block order c, unwrap_or c.comment [])
  mapped_right = (
    all_through (λ g. IsTwo (told g)) IsTwo told (λ g two. two) c.gates
        (by_places (λ g. IsTwo (told g)) no_gate c.gates two_operands),
    none_empty c.comment,
  )

-- what is read of a mapped image is recorded rightly
pub recorded_right : (g x : Circuit) (b : MapBlock) (rest : List ℕ) → IsWellFormed g → IsMappedImage g x
    → block_reading x ≡ Ok (b, rest)
    → TellsExchanges x.gates b.gates × TellsComment b.has_comment rest
recorded_right g x b rest good (order, least, is) read = search (rules, mapped_reading, one_reading, mapped_right)

-- what is read of a mapped image tells the order of its source's gates
order_recorded : (g x : Circuit) (b : MapBlock) (rest : List ℕ) → IsWellFormed g → IsMappedImage g x
    → block_reading x ≡ Ok (b, rest) → IsLeastReadyOrder g (positions b.gates)
order_recorded g x b rest good (order, least, is) read = search (rules, mapped_reading, one_reading, order_is)

-- What a block tells, judged: whether the circuit that is undone by it has the image that it was read of.
module _ (x : Circuit) (b : MapBlock) (rest : List ℕ) (good : IsWellFormed x) (fit : IsFit b x)
    (read : block_reading x ≡ Ok (b, rest)) (formed : IsWellFormed (undone b (comment_behind b rest) x)) where
  abbrev from : Circuit
  from = undone b (comment_behind b rest) x

  parts : IsMappedImage from x
      ↔ (IsLeastReadyOrder from (positions b.gates) × TellsExchanges x.gates b.gates × TellsComment b.has_comment rest)
  parts = (
    λ is. let right = recorded_right from x b rest formed is read in
        (order_recorded from x b rest formed is read, right.0, right.1),
    λ (least, exchanges, tells). (
      positions b.gates,
      least,
      sym (image_again b x rest fit good formed.once (read_is_text x b rest read) exchanges tells),
    ),
  )

  refuted : ¬ IsMappedImage from x → IsTrue false ↔ IsMappedImage from x
  refuted never = (λ (e : IsTrue false). absurd (true≢false (sym e)), λ (is : IsMappedImage from x). absurd (never is))

  -- something follows a block that tells of no comment section
  pub by_comment : (recorded : Bool) → (IsTrue recorded ↔ TellsComment b.has_comment rest) → recorded ≡ false
      → IsTrue false ↔ IsMappedImage from x
  by_comment recorded tells is =
      refuted (λ (image : IsMappedImage from x). true≢false (sym (tells.1 (parts.0 image).2) ∙ is))

  -- where neither is so, the order decides
  pub by_order : TellsComment b.has_comment rest → TellsExchanges x.gates b.gates → (recorded : Bool)
      → (IsTrue recorded ↔ IsLeastReadyOrder from (positions b.gates)) → IsTrue recorded ↔ IsMappedImage from x
  by_order comment exchanges recorded tells = (
    λ (t : IsTrue recorded). parts.1 (tells.0 t, exchanges, comment),
    λ (image : IsMappedImage from x). tells.1 (parts.0 image).0,
  )
