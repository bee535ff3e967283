-- Gates that are looked up by their operands: what is noted is reached, and what is reached is the first of its kind.
use Rattle.std.proofs.Common.{◌≡◌, ◌≢◌, ◌+◌, ◌-◌, ◌<◌, ◌≤◌, ◌∙◌, ◌⊎◌, ℕ, zero, suc, List, length, replicate, set}
use Rattle.std.proofs.Common.{refl, sym, ap, ap₂, subst, inl, inr, ⊎_elim, arith}
use Rattle.std.specs.Int.Bits.{bit_and}
use Rattle.std.proofs.lemmas.Bool.{cases_lt, cases_eq}
use Rattle.std.proofs.lemmas.Grind.{common_steps}
use Rattle.std.proofs.lemmas.List.{length-set, get_or-set_same, get_or-set_other}
use Rattle.std.proofs.lemmas.Nat.{and_le_r}
use Rattle.aig_circuit.specs.declared.circuit.Gate.{Gate}
use Rattle.aig_simplify.specs.Folded.{HasSameOperands, NeedsGate}
use Rattle.aig_simplify.specs.Parts.Finding.{IsReached, KnowsBy, ReachesLike, link_at, link_for, mark_of, place_of}
use Rattle.aig_simplify.specs.Parts.Finding.IsReached.{here, on}
use Rattle.aig_simplify.specs.Parts.Folding.{IsFirst, IsFirstWith, gate_at}

pub nowhere : (before : List ℕ) (j : ℕ) → ¬ IsReached before 0 j
nowhere before j r = elim r [ ]

-- what is reached is the place that the link names, or is reached from there
pub one_on : {before : List ℕ} {other j : ℕ} → IsReached before (suc other) j
    → (j ≡ other) ⊎ IsReached before (link_at before other) j
one_on here = inl refl
one_on (on r) = inr r

module _ (before : List ℕ) (falls : (k : ℕ) → link_at before k ≤ k) (at x : ℕ) where
  abbrev new : List ℕ
  new = set before at x

  other_link : (k : ℕ) → k < at → link_at new k ≡ link_at before k
  other_link k below = let other : k ≢ at = omega arith in get_or-set_other before at k x 0 other

  -- chains below a place do not know what becomes of its link
  kept_reached : {link j : ℕ} → IsReached before link j → link ≤ at → IsReached new link j
  kept_reached here low = here
  kept_reached {link = suc other} {j = j} (on r) low =
      on (subst (λ (l : ℕ). IsReached new l j) (sym (other_link other (omega (arith, low))))
      (kept_reached r (omega (arith, low, falls other))))

  back_reached : {link j : ℕ} → IsReached new link j → link ≤ at → IsReached before link j
  back_reached here low = here
  back_reached {link = suc other} {j = j} (on r) low =
      let same : link_at new other ≡ link_at before other = other_link other (omega (arith, low)) in
      on (subst (λ (l : ℕ). IsReached before l j) same (back_reached r (omega (arith, low, falls other, same))))

-- a link from which only lower places are reached is low
pub low_link : (before : List ℕ) (at link : ℕ) → ((j : ℕ) → IsReached before link j → j < at) → link ≤ at
low_link before at zero below = omega arith
low_link before at (suc place) below = let low : place < at = below place here in omega (arith, low)

pub same_link : (last : List ℕ) (g h : Gate) → HasSameOperands g h → link_for last g ≡ link_for last h
same_link last g h same =
    ap₂ (λ (l r : ℕ). link_for last (record { var = 0; left = l; right = r })) same.0 same.1

pub same_through : (f g h : Gate) → HasSameOperands f g → HasSameOperands g h → HasSameOperands f h
same_through f g h first second = (first.0 ∙ second.0, first.1 ∙ second.1)

pub same_back : (g h : Gate) → HasSameOperands g h → HasSameOperands h g
same_back g h same = (sym same.0, sym same.1)

pub needs_too : (g h : Gate) → HasSameOperands g h → NeedsGate h.left h.right → NeedsGate g.left g.right
needs_too g h same need =
    subst (λ (l : ℕ). NeedsGate l g.right) (sym same.0) (subst (λ (r : ℕ). NeedsGate h.left r) (sym same.1) need)

module _ (last before : List ℕ) (gates : List Gate) (at : ℕ) (knows : KnowsBy last before gates at) where
  pub all_low : (mark : ℕ) → link_at last mark ≤ at
  all_low mark = low_link before at (link_at last mark) (λ j r. (knows.firsts mark j r).0)

  -- a gate with these operands before is reached
  pub like_reached : (g : Gate) (k : ℕ) → k < at → HasSameOperands (gate_at gates k) g → NeedsGate g.left g.right
      → ReachesLike before (link_for last g) gates g
  like_reached g k below same need =
      let found = knows.known k below (needs_too (gate_at gates k) g same need) in (
        found.0,
        subst (λ (l : ℕ). IsReached before l found.0) (same_link last (gate_at gates k) g same) found.1,
        same_through (gate_at gates found.0) (gate_at gates k) g found.2 same,
      )

  -- one more gate is known
  pub one_more_known : (NeedsGate (gate_at gates at).left (gate_at gates at).right
      → ReachesLike before (link_for last (gate_at gates at)) gates (gate_at gates at))
      → KnowsBy last before gates (at + 1)
  one_more_known last_known = record {
    marks = knows.marks;
    room = knows.room;
    falls = knows.falls;
    firsts = λ mark j r. let is = knows.firsts mark j r in (omega (arith, is.0), is.1);
    known = λ k below. elim (cases_lt k at) [
      | inl earlier ↦ knows.known k earlier
      | inr not_earlier ↦
          let same : at ≡ k = omega arith in
          subst (λ (i : ℕ). NeedsGate (gate_at gates i).left (gate_at gates i).right
          → ReachesLike before (link_for last (gate_at gates i)) gates (gate_at gates i)) same last_known
    ];
  }

  -- a later gate becomes another one
  pub later_changed : (new : Gate) → KnowsBy last before (set gates at new) at
  later_changed new =
      let news : List Gate = set gates at new in
      let same : (k : ℕ) → k < at → gate_at news k ≡ gate_at gates k =
      λ k below. let other : k ≢ at = omega arith in
      get_or-set_other gates at k new (record { var = 0; left = 0; right = 0 }) other in
      record {
        marks = knows.marks;
        room = knows.room ∙ sym (length-set gates at new);
        falls = knows.falls;
        firsts = λ mark j r.
            let is = knows.firsts mark j r in (
              is.0,
              λ i earlier alike. is.1 i earlier
                  (subst (λ (g : Gate). HasSameOperands g (gate_at gates j)) (same i (omega (arith, is.0)))
                  (subst (λ (g : Gate). HasSameOperands (gate_at news i) g) (same j is.0) alike)),
            );
        known = λ k below need.
            let found = knows.known k below
            (subst (λ (g : Gate). NeedsGate g.left g.right) (same k below) need) in
            let place_low : found.0 < at = (knows.firsts (place_of last (gate_at gates k)) found.0 found.1).0 in (
              found.0,
              subst (λ (g : Gate). IsReached before (link_for last g) found.0) (sym (same k below)) found.1,
              subst (λ (g : Gate). HasSameOperands g (gate_at news k)) (sym (same found.0 place_low))
                  (subst (HasSameOperands (gate_at gates found.0)) (sym (same k below)) found.2),
            );
      }

-- a gate that is the first with its operands is noted
module _ (last before : List ℕ) (gates : List Gate) (at : ℕ) (knows : KnowsBy last before gates at)
    (there : at < length gates) where
  abbrev mark : ℕ
  mark = place_of last (gate_at gates at)

  abbrev lasts : List ℕ
  lasts = set last mark (at + 1)

  abbrev befores : List ℕ
  befores = set before at (link_at last mark)

  pub has_mark : mark < length last
  has_mark = omega (arith, knows.marks, and_le_r (mark_of (gate_at gates at)) (length last - 1))

  own_link : link_at lasts mark ≡ suc at
  own_link = get_or-set_same last mark (at + 1) 0 has_mark ∙ omega arith

  other_mark : (m : ℕ) → m ≢ mark → link_at lasts m ≡ link_at last m
  other_mark m other = get_or-set_other last mark m (at + 1) 0 other

  its_link : link_at befores at ≡ link_at last mark
  its_link = get_or-set_same before at (link_at last mark) 0 (omega (arith, knows.room))

  still : (m j : ℕ) → IsReached before (link_at last m) j → IsReached befores (link_at last m) j
  still m j r = kept_reached before knows.falls at (link_at last mark) r (all_low last before gates at knows m)

  was : (m j : ℕ) → IsReached befores (link_at last m) j → IsReached before (link_at last m) j
  was m j r = back_reached before knows.falls at (link_at last mark) r (all_low last before gates at knows m)

  -- what was reached still is
  reached_still : (m j : ℕ) → IsReached before (link_at last m) j → IsReached befores (link_at lasts m) j
  reached_still m j r = elim (cases_eq m mark) [
    | inl same ↦
        subst (λ (l : ℕ). IsReached befores l j) (sym (ap (link_at lasts) same ∙ own_link))
        (on (subst (λ (l : ℕ). IsReached befores l j) (ap (link_at last) same ∙ sym its_link) (still m j r)))
    | inr other ↦ subst (λ (l : ℕ). IsReached befores l j) (sym (other_mark m other)) (still m j r)
  ]

  -- and what is reached was, or is the gate that is noted
  reached_before : (m j : ℕ) → IsReached befores (link_at lasts m) j
      → (j ≡ at) ⊎ IsReached before (link_at last m) j
  reached_before m j r = elim (cases_eq m mark) [
    | inl same ↦
        ⊎_elim (λ (e : j ≡ at). inl e)
        (λ (later : IsReached befores (link_at befores at) j).
        inr (was m j (subst (λ (l : ℕ). IsReached befores l j) (its_link ∙ sym (ap (link_at last) same)) later)))
        (one_on (subst (λ (l : ℕ). IsReached befores l j) (ap (link_at lasts) same ∙ own_link) r))
    | inr other ↦ inr (was m j (subst (λ (l : ℕ). IsReached befores l j) (other_mark m other) r))
  ]

  same_place : (g : Gate) → place_of lasts g ≡ place_of last g
  same_place g = ap (λ (n : ℕ). bit_and (mark_of g) (n - 1)) (length-set last mark (at + 1))

  like_still : (g : Gate) → ReachesLike before (link_for last g) gates g
      → ReachesLike befores (link_for lasts g) gates g
  like_still g like = (
    like.0,
    subst (λ (p : ℕ). IsReached befores (link_at lasts p) like.0) (sym (same_place g))
        (reached_still (place_of last g) like.0 like.1),
    like.2,
  )

  pub noted : IsFirst gates at → KnowsBy lasts befores gates (at + 1)
  noted is_first = record {
    marks = omega (arith, knows.marks, length-set last mark (at + 1));
    room = length-set before at (link_at last mark) ∙ knows.room;
    falls = λ k. elim (cases_eq k at) [
      | inl same ↦
          let low : link_at last mark ≤ at = all_low last before gates at knows mark in
          let is : link_at befores k ≡ link_at last mark = ap (link_at befores) same ∙ its_link in
          omega (arith, low, is)
      | inr other ↦
          let is : link_at befores k ≡ link_at before k = get_or-set_other before at k (link_at last mark) 0 other in
          omega (arith, is, knows.falls k)
    ];
    firsts = λ m j r.
        ⊎_elim
        (λ (e : j ≡ at). let low : j < at + 1 = omega arith in (low, subst (IsFirst gates) (sym e) is_first))
        (λ (s : IsReached before (link_at last m) j).
        let is = knows.firsts m j s in
        let low : j < at + 1 = omega (arith, is.0) in
        (low, is.1))
        (reached_before m j r);
    known = λ k below need. elim (cases_lt k at) [
      | inl earlier ↦ like_still (gate_at gates k) (knows.known k earlier need)
      | inr not_earlier ↦
          let same : at ≡ k = omega arith in
          subst (λ (i : ℕ). ReachesLike befores (link_for lasts (gate_at gates i)) gates (gate_at gates i)) same (
            at,
            subst (λ (l : ℕ). IsReached befores l at)
                (sym (ap (link_at lasts) (same_place (gate_at gates at)) ∙ own_link)) here,
            (refl, refl),
          )
    ];
  }

-- one that is not the first has one before it
pub found_before : (last before : List ℕ) (gates : List Gate) (at found : ℕ) → KnowsBy last before gates at
    → IsFirstWith gates at found → found < at → KnowsBy last before gates (at + 1)
found_before last before gates at found knows is earlier =
    one_more_known last before gates at knows
    (like_reached last before gates at knows (gate_at gates at) found earlier is.1)

-- A chain that is followed, to look for a gate with the operands of the one at a place.
module _ (before : List ℕ) (gates : List Gate) (at last : ℕ) where
  abbrev pub IsLike : ℕ → Type 0
  IsLike j = HasSameOperands (gate_at gates j) (gate_at gates at)

  -- what one comes to from a link is reached, and what is like the gate is still ahead
  pub record IsOnTheWay (link : ℕ) : Type 0 where
    pub left : (j : ℕ) → IsReached before link j → IsReached before last j
    pub like : (j : ℕ) → IsReached before last j → IsLike j → IsReached before link j

  pub followed : (link : ℕ) → 0 < link → ¬ IsLike (link - 1) → IsOnTheWay link → IsOnTheWay (link_at before (link - 1))
  followed link some other way =
      let place : ℕ = link - 1 in
      let is : link ≡ suc place = omega arith in
      let so : IsOnTheWay (suc place) = subst IsOnTheWay is way in
      record {
        left = λ j r. so.left j (on r);
        like = λ j r alike.
            ⊎_elim (λ (e : j ≡ place). absurd (other (subst IsLike e alike)))
            (λ (s : IsReached before (link_at before place) j). s) (one_on (so.like j r alike));
      }

  pub found_there : (link : ℕ) → 0 < link → ((j : ℕ) → IsReached before last j → (j < at) × IsFirst gates j)
      → IsOnTheWay link → IsLike (link - 1) → IsFirstWith gates at (link - 1)
  found_there link some firsts way alike =
      let place : ℕ = link - 1 in
      let is : suc place ≡ link = omega arith in
      let reached : IsReached before link place = subst (λ (l : ℕ). IsReached before l place) is here in
      let so = firsts place (way.left place reached) in
      let low : place ≤ at = omega (arith, so.0) in
      (low, alike, so.1)

  pub not_found : (link : ℕ) → link ≡ 0
      → ((k : ℕ) → k < at → IsLike k → ReachesLike before last gates (gate_at gates at))
      → IsOnTheWay link → IsFirstWith gates at at
  not_found link is known way =
      let low : at ≤ at = omega arith in (
        low,
        (refl, refl),
        λ k below alike.
            let found = known k below alike in
            nowhere before found.0
            (subst (λ (l : ℕ). IsReached before l found.0) is (way.like found.0 found.1 found.2)),
      )

pub no_link : (n k : ℕ) → link_at (replicate n 0) k ≡ 0
no_link n k = grind (arith, common_steps)

-- at first nothing is known
pub nothing_known : (last before : List ℕ) (gates : List Gate) → 0 < length last → length before ≡ length gates
    → ((k : ℕ) → link_at last k ≡ 0) → ((k : ℕ) → link_at before k ≡ 0) → KnowsBy last before gates 0
nothing_known last before gates some long no_last no_before = record {
  marks = some;
  room = long;
  falls = λ k. omega (arith, no_before k);
  firsts = λ mark j r. absurd (nowhere before j (subst (λ (l : ℕ). IsReached before l j) (no_last mark) r));
  known = λ k below. absurd (omega (arith, below));
}
