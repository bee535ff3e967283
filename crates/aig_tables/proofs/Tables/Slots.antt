-- Slots and trees, read as what they have of indices.
use Rattle.std.proofs.Common.{◌≡◌, ◌<◌, ◌≤◌, ◌∙◌, ◌≢◌, ◌+◌, ◌-◌, ◌^◌, ◌∷◌, ◌&&◌, ℕ, Bool, true, false}
use Rattle.std.proofs.Common.{zero, suc, cond, eqb}
use Rattle.std.proofs.Common.{Option, None, Some, List, refl, sym, ap, subst, arith, length, get_or, take, [], drop}
use Rattle.std.proofs.Common.{nat_cmp, nat_lt, BTreeMap, replicate, ⊎_elim, true≢false, is_some, length-set, ap₂, All}
use Rattle.std.specs.BTreeMap.{get as tree_get, Updates}
use Rattle.std.specs.FinMap.{FinMap, get}
use Rattle.std.specs.Option.{option_or}
use Rattle.std.specs.List.{position_or_len}
use Rattle.std.specs.Cmp.{unsigned_tied, eq_by_cmp_equiv}
use Rattle.std.proofs.lemmas.Bool.{cases_lt, cases_eq}
use Rattle.std.proofs.lemmas.Cmp.{nat_cmp_total}
use Rattle.std.proofs.lemmas.Grind.{common_steps}
use Rattle.std.proofs.lemmas.List.{drop-set-lt, drop-set-add, get_or-drop, get_or-take, length-take}
use Rattle.std.proofs.lemmas.List.{drop-replicate, length-replicate}
use Rattle.std.proofs.lemmas.List.Elements.{All-set, All-replicate}
use Rattle.std.proofs.Math.ListN.{set as put}
use Rattle.aig_tables.specs.declared.var_map.slot.Slot.{Slot}
use Rattle.aig_tables.specs.declared.var_map.spread.TheConstants.{WINDOW}
use Rattle.aig_tables.specs.Parts.Places.{start_of, window_of, ends_search, stored, seen, spread_at, map_of, IsSpread}
use Rattle.aig_tables.proofs.Tables.Maps.{HasNew, map_has}

pub none_of : {T : Type 0} (o : Option T) → is_some o ≡ false → o ≡ None
none_of None e = refl
none_of (Some x) e = absurd (true≢false e)

or_or : {T : Type 0} (a b c : Option T) → option_or a (option_or b c) ≡ option_or (option_or a b) c
or_or None b c = refl
or_or (Some x) b c = refl

small_index : (k : ℕ) → (nat_lt 0 k && nat_lt k (2 ^ 31)) ≡ true → k < 2 ^ 31
small_index k has = grind (arith, common_steps, has)

ends_within : {T : Type 0} (w : List (Slot T)) (k : ℕ) → position_or_len (ends_search k) w ≤ length w
ends_within [] k = omega arith
ends_within (x ∷ w) k = grind (arith, common_steps, ends_within w k)

-- where a search ends
module _ {T : Type 0} where
  pub full : (w : List (Slot T)) (q : ℕ) (o : Option T) → length w ≤ position_or_len (ends_search q) w → seen q w o ≡ o
  full [] q o past = refl
  full (x ∷ w) q o past = grind (arith, common_steps, full w q o)

  pub not_stored : (w : List (Slot T)) (q : ℕ) → length w ≤ position_or_len (ends_search q) w → stored q w ≡ None
  not_stored [] q past = refl
  not_stored (x ∷ w) q past = grind (arith, common_steps, not_stored w q)

  pub seen_here : (w : List (Slot T)) (q : ℕ) (o : Option T) (s : Slot T)
      → position_or_len (ends_search q) w < length w
      → s ≡ get_or w (position_or_len (ends_search q) w) s → s.index ≡ q → seen q w o ≡ Some s.value
  seen_here [] q o s below is same = absurd (omega (arith, below))
  seen_here (x ∷ w) q o s below is same = grind (arith, common_steps, seen_here w q o s)

  pub seen_nowhere : (w : List (Slot T)) (q : ℕ) (o : Option T) (s : Slot T)
      → position_or_len (ends_search q) w < length w
      → s ≡ get_or w (position_or_len (ends_search q) w) s → s.index ≢ q → seen q w o ≡ None
  seen_nowhere [] q o s below is other = absurd (omega (arith, below))
  seen_nowhere (x ∷ w) q o s below is other = grind (arith, common_steps, seen_nowhere w q o s)

  -- what is nowhere is not seen
  missing : (w : List (Slot T)) (q : ℕ) (o : Option T) → option_or (stored q w) o ≡ None → seen q w o ≡ None
  missing [] q o none = none
  missing (x ∷ w) q o none = grind (arith, common_steps, missing w q o)

  take_put : (n : ℕ) (ss : List (Slot T)) (i : ℕ) (e : Slot T) → take n (put ss i e) ≡ put (take n ss) i e
  take_put zero ss i e = refl
  take_put (suc n) [] i e = refl
  take_put (suc n) (x ∷ ss) zero e = refl
  take_put (suc n) (x ∷ ss) (suc i) e = ap (λ t. x ∷ t) (take_put n ss i e)

  take_has : (n : ℕ) (ss : List (Slot T)) (i : ℕ) (s : Slot T) → get_or ss i s ≡ s → get_or (take n ss) i s ≡ s
  take_has zero ss i s is = refl
  take_has (suc n) [] i s is = refl
  take_has (suc n) (x ∷ ss) zero s is = is
  take_has (suc n) (x ∷ ss) (suc i) s is = take_has n ss i s is

-- an empty slot that gets an index and its value
module _ {T : Type 0} (k : ℕ) (v : T) where
  abbrev filled : Slot T
  filled = record { index = k; value = v }

  -- in a window whose search ends there
  module _ (s : Slot T) (other : s.index ≢ k) where
    stored_new : (w : List (Slot T)) → position_or_len (ends_search k) w < length w
        → s ≡ get_or w (position_or_len (ends_search k) w) s
        → stored k (put w (position_or_len (ends_search k) w) filled) ≡ Some v
    stored_new [] below is = absurd (omega (arith, below))
    stored_new (x ∷ w) below is = grind (arith, common_steps, stored_new w)

    seen_new : (w : List (Slot T)) (o : Option T) → position_or_len (ends_search k) w < length w
        → s ≡ get_or w (position_or_len (ends_search k) w) s
        → seen k (put w (position_or_len (ends_search k) w) filled) o ≡ Some v
    seen_new [] o below is = absurd (omega (arith, below))
    seen_new (x ∷ w) o below is = grind (arith, common_steps, seen_new w o)

    was_empty : (w : List (Slot T)) → position_or_len (ends_search k) w < length w
        → s ≡ get_or w (position_or_len (ends_search k) w) s → s.index ≡ 0
    was_empty [] below is = absurd (omega (arith, below))
    was_empty (x ∷ w) below is = grind (arith, common_steps, was_empty w)

  -- in a window of another index
  module _ (s : Slot T) (empty : s.index ≡ 0) (q : ℕ) (some : q ≢ 0) (other : q ≢ k) where
    stored_still : (w : List (Slot T)) (i : ℕ) → get_or w i s ≡ s → stored q (put w i filled) ≡ stored q w
    stored_still [] i is = refl
    stored_still (x ∷ w) zero is = grind (arith, common_steps)
    stored_still (x ∷ w) (suc i) is = grind (arith, common_steps, stored_still w i is)

    seen_still : (w : List (Slot T)) (i : ℕ) (o : Option T) → k ≢ 0 → get_or w i s ≡ s
        → option_or (stored q w) o ≡ seen q w o → seen q (put w i filled) o ≡ seen q w o
    seen_still [] i o used is same = refl
    seen_still (x ∷ w) zero o used is same =
        let nothing = missing w q o in
        grind (arith, common_steps, nothing)
    seen_still (x ∷ w) (suc i) o used is same =
        let later = seen_still w i o used is in
        grind (arith, common_steps, later)

-- windows, with or without slots, after a slot was put
module _ {T : Type 0} where
  has_slots : (has : Bool) (w : List (Slot T)) (p : ℕ) → p < length (cond has w []) → has ≡ true
  has_slots true w p below = refl
  has_slots false w p below = absurd (omega (arith, below))

  module _ (n b at : ℕ) (ss : List (Slot T)) where
    cut_after : (has : Bool) (e : Slot T) → at < b → cond has (take n (drop b (put ss at e))) []
        ≡ cond has (take n (drop b ss)) []
    cut_after has e past = ap (λ t. cond has (take n t) []) (drop-set-lt b ss at e past)

    put_after : (has : Bool) (e : Slot T) → b ≤ at
        → cond has (take n (drop b (put ss at e))) [] ≡ put (cond has (take n (drop b ss)) []) (at - b) e
    put_after false e within = refl
    put_after true e within =
        let sum : b + (at - b) ≡ at = omega (arith, within) in
        ap (λ t. take n t) (subst (λ a. drop b (put ss a e) ≡ put (drop b ss) (at - b) e) sum
        (drop-set-add b ss (at - b) e))
        ∙ take_put n (drop b ss) (at - b) e

    has_there : (has : Bool) (s : Slot T) → b ≤ at → get_or ss at s ≡ s
        → get_or (cond has (take n (drop b ss)) []) (at - b) s ≡ s
    has_there false s within is = refl
    has_there true s within is =
        let sum : b + (at - b) ≡ at = omega (arith, within) in
        take_has n (drop b ss) (at - b) s
        (get_or-drop b ss (at - b) s ∙ subst (λ a. get_or ss a s ≡ s) (sym sum) is)

  one_more : (new old : Option T) (q k : ℕ) (v : T) → (q ≡ k → new ≡ Some v) → (q ≡ k → old ≡ None)
      → (q ≢ k → new ≡ old) → new ≡ option_or old (cond (eqb q k) (Some v) None)
  one_more new old q k v here none elsewhere = grind (arith, common_steps, here, none, elsewhere)

-- The empty slot in which the search for an index ends gets the index and its value.
module _ {T : Type 0} (starts : ℕ) (slots : List (Slot T)) (others : BTreeMap ℕ T) (k : ℕ) (v : T) (s : Slot T)
    (before : IsSpread starts slots others)
    (below : position_or_len (ends_search k) (window_of starts slots k) < length (window_of starts slots k))
    (is : s ≡ get_or (window_of starts slots k) (position_or_len (ends_search k) (window_of starts slots k)) s)
    (other : s.index ≢ k) where
  abbrev place : ℕ
  place = position_or_len (ends_search k) (window_of starts slots k)

  abbrev at : ℕ
  at = start_of starts k + place

  abbrev after : List (Slot T)
  after = put slots at (filled k v)

  abbrev may : ℕ → Bool
  may q = nat_lt 0 q && nat_lt q (2 ^ 31)

  kept : may k ≡ true
  kept = has_slots (may k) (take WINDOW (drop (start_of starts k) slots)) place below

  empty : s.index ≡ 0
  empty = was_empty k v s other (window_of starts slots k) below is

  has_it : get_or slots at s ≡ s
  has_it =
      let whole : window_of starts slots k ≡ take WINDOW (drop (start_of starts k) slots) =
      ap (λ b. cond b (take WINDOW (drop (start_of starts k) slots)) []) kept in
      let few : place < WINDOW =
      omega (arith, below, ap length whole, length-take WINDOW (drop (start_of starts k) slots)) in
      sym (get_or-drop (start_of starts k) slots place s)
      ∙ sym (get_or-take WINDOW (drop (start_of starts k) slots) place s few)
      ∙ ap (λ x. get_or x place s) (sym whole) ∙ sym is

  here : window_of starts after k ≡ put (window_of starts slots k) place (filled k v)
  here =
      let same : at - start_of starts k ≡ place = omega arith in
      put_after WINDOW (start_of starts k) at slots (may k) (filled k v) (omega arith)
      ∙ ap (λ i. put (window_of starts slots k) i (filled k v)) same

  was_none : spread_at starts slots others k ≡ None
  was_none = before.in_sight k ∙ seen_nowhere (window_of starts slots k) k _ s below is other

  stored_here : stored k (window_of starts after k) ≡ Some v
  stored_here = ap (stored k) here ∙ stored_new k v s other (window_of starts slots k) below is

  seen_there : (o : Option T) → seen k (window_of starts after k) o ≡ Some v
  seen_there o = ap (λ w. seen k w o) here ∙ seen_new k v s other (window_of starts slots k) o below is

  stored_after : (q : ℕ) → q ≢ k → stored q (window_of starts after q) ≡ stored q (window_of starts slots q)
  stored_after zero ne = refl
  stored_after (suc q) ne =
      ⊎_elim
      (λ (past : at < start_of starts (suc q)).
      ap (stored (suc q)) (cut_after WINDOW (start_of starts (suc q)) at slots (may (suc q)) (filled k v) past))
      (λ (within : start_of starts (suc q) ≤ at).
      ap (stored (suc q)) (put_after WINDOW (start_of starts (suc q)) at slots (may (suc q)) (filled k v) within)
      ∙ stored_still k v s empty (suc q) (omega arith) ne (window_of starts slots (suc q))
      (at - start_of starts (suc q))
      (has_there WINDOW (start_of starts (suc q)) at slots (may (suc q)) s within has_it))
      (cases_lt at (start_of starts (suc q)))

  used : (k : ℕ) → may k ≡ true → k ≢ 0
  used zero has = absurd (true≢false (sym has))
  used (suc k) has = omega arith

  seen_after : (q : ℕ) (o : Option T) → q ≢ k
      → option_or (stored q (window_of starts slots q)) o ≡ seen q (window_of starts slots q) o
      → seen q (window_of starts after q) o ≡ seen q (window_of starts slots q) o
  seen_after zero o ne same = refl
  seen_after (suc q) o ne same =
      ⊎_elim
      (λ (past : at < start_of starts (suc q)). ap (λ w. seen (suc q) w o)
      (cut_after WINDOW (start_of starts (suc q)) at slots (may (suc q)) (filled k v) past))
      (λ (within : start_of starts (suc q) ≤ at). ap (λ w. seen (suc q) w o)
      (put_after WINDOW (start_of starts (suc q)) at slots (may (suc q)) (filled k v) within)
      ∙ seen_still k v s empty (suc q) (omega arith) ne (window_of starts slots (suc q))
      (at - start_of starts (suc q)) o
      (used k kept) (has_there WINDOW (start_of starts (suc q)) at slots (may (suc q)) s within has_it) same)
      (cases_lt at (start_of starts (suc q)))

  pub more_in_slot : HasNew (spread_at starts slots others) (spread_at starts after others) k v
  more_in_slot q = one_more _ _ q k v
      (λ (same : q ≡ k). subst (λ i. spread_at starts after others i ≡ Some v) (sym same)
      (ap (λ o. option_or o (tree_get nat_cmp others k)) stored_here))
      (λ (same : q ≡ k). subst (λ i. spread_at starts slots others i ≡ None) (sym same) was_none)
      (λ (ne : q ≢ k). ap (λ o. option_or o (tree_get nat_cmp others q)) (stored_after q ne))

  pub spread_in_slot : IsSpread starts after others
  spread_in_slot = record {
    some = before.some;
    few = before.few;
    room = length-set slots at (filled k v) ∙ before.room;
    small = All-set (λ (x : Slot T). x.index < 2 ^ 31) slots at (filled k v) (small_index k kept) before.small;
    in_sight = λ q. ⊎_elim
        (λ (same : q ≡ k). subst (λ i. spread_at starts after others i
        ≡ seen i (window_of starts after i) (tree_get nat_cmp others i)) (sym same)
        (ap (λ o. option_or o (tree_get nat_cmp others k)) stored_here ∙ sym (seen_there (tree_get nat_cmp others k))))
        (λ (ne : q ≢ k). ap (λ o. option_or o (tree_get nat_cmp others q)) (stored_after q ne) ∙ before.in_sight q
        ∙ sym (seen_after q (tree_get nat_cmp others q) ne (before.in_sight q)))
        (cases_eq q k);
  }

-- The tree gets an index whose window has no room.
module _ {T : Type 0} (starts : ℕ) (slots : List (Slot T)) (others tree : BTreeMap ℕ T) (k : ℕ) where
  pub more_in_others : (v : T) → HasNew (tree_get nat_cmp others) (tree_get nat_cmp tree) k v
      → HasNew (spread_at starts slots others) (spread_at starts slots tree) k v
  more_in_others v more q = ap (option_or (stored q (window_of starts slots q))) (more q)
      ∙ or_or (stored q (window_of starts slots q)) (tree_get nat_cmp others q) (cond (eqb q k) (Some v) None)

  pub spread_in_others : length (window_of starts slots k) ≤ position_or_len (ends_search k) (window_of starts slots k)
      → ((q : ℕ) → q ≢ k → tree_get nat_cmp tree q ≡ tree_get nat_cmp others q)
      → IsSpread starts slots others → IsSpread starts slots tree
  spread_in_others past same before = record {
    some = before.some;
    few = before.few;
    room = before.room;
    small = before.small;
    in_sight = λ q. ⊎_elim
        (λ (is : q ≡ k). subst (λ i. spread_at starts slots tree i
        ≡ seen i (window_of starts slots i) (tree_get nat_cmp tree i)) (sym is)
        (ap (λ o. option_or o (tree_get nat_cmp tree k)) (not_stored (window_of starts slots k) k past)
        ∙ sym (full (window_of starts slots k) k (tree_get nat_cmp tree k) past)))
        (λ (ne : q ≢ k). subst (λ o. option_or (stored q (window_of starts slots q)) o
        ≡ seen q (window_of starts slots q) o) (sym (same q ne)) (before.in_sight q))
        (cases_eq q k);
  }

-- What a map of slots has of an index, and what it gets, by the place where the code's search for the index ends.
module _ {T : Type 0} {starts : ℕ} {slots ss w : List (Slot T)} {others : BTreeMap ℕ T} (k : ℕ)
    (before : IsSpread starts slots others) (cut : w ≡ window_of starts ss k) (same : ss ≡ slots) {p : ℕ}
    (place : p ≡ position_or_len (ends_search k) w) where
  window : w ≡ window_of starts slots k
  window = cut ∙ ap (λ x. window_of starts x k) same

  in_window : spread_at starts slots others k ≡ seen k w (tree_get nat_cmp others k)
  in_window = before.in_sight k ∙ ap (λ x. seen k x (tree_get nat_cmp others k)) (sym window)

  pub no_room : p ≡ length w
      → length (window_of starts slots k) ≤ position_or_len (ends_search k) (window_of starts slots k)
  no_room past = subst (λ x. length x ≤ position_or_len (ends_search k) x) window (omega (arith, past, place))

  module _ {s : Slot T} (some : p ≢ length w) (is : s ≡ get_or w p s) where
    within : position_or_len (ends_search k) w < length w
    within = omega (arith, ends_within w k, some, place)

    there : s ≡ get_or w (position_or_len (ends_search k) w) s
    there = subst (λ i. s ≡ get_or w i s) place is

    module _ (other : s.index ≢ k) {start : ℕ} (starts_there : start ≡ start_of starts k) (v : T) where
      ends_before : position_or_len (ends_search k) (window_of starts slots k) < length (window_of starts slots k)
      ends_before = subst (λ x. position_or_len (ends_search k) x < length x) window within

      ends_there : s ≡ get_or (window_of starts slots k) (position_or_len (ends_search k) (window_of starts slots k)) s
      ends_there = subst (λ x. s ≡ get_or x (position_or_len (ends_search k) x) s) window there

      same_place : start_of starts k + position_or_len (ends_search k) (window_of starts slots k) ≡ start + p
      same_place = sym (ap₂ (λ a b. a + b) starts_there (place ∙ ap (position_or_len (ends_search k)) window))

      pub more_put : HasNew (spread_at starts slots others)
          (spread_at starts (put slots (start + p) (filled k v)) others) k v
      more_put = subst (λ i. HasNew (spread_at starts slots others)
          (spread_at starts (put slots i (filled k v)) others) k v)
          same_place (more_in_slot starts slots others k v s before ends_before ends_there other)

      pub spread_put : IsSpread starts (put slots (start + p) (filled k v)) others
      spread_put = subst (λ i. IsSpread starts (put slots i (filled k v)) others) same_place
          (spread_in_slot starts slots others k v s before ends_before ends_there other)

  module _ {m : FinMap nat_cmp T} (view : map_of (spread_at starts slots others) ≡ m) {var : ℕ} (names : k ≡ var)
      (below : k < 2 ^ 32) where
    has : (o : Option T) → seen k w (tree_get nat_cmp others k) ≡ o → get m var ≡ o
    has o is = rw (← view, ← names) (map_has (spread_at starts slots others) k below ∙ in_window ∙ is)

    pub in_tree : p ≡ length w → get m var ≡ tree_get nat_cmp others var
    in_tree past = has (tree_get nat_cmp others var)
        (full w k _ (omega (arith, past, place)) ∙ ap (tree_get nat_cmp others) names)

    module _ {s : Slot T} (some : p ≢ length w) (is : s ≡ get_or w p s) where
      pub in_slot : s.index ≡ k → get m var ≡ Some s.value
      in_slot same = has (Some s.value) (seen_here w k _ s (within some is) (there some is) same)

      pub nowhere : s.index ≢ k → get m var ≡ None
      nowhere other = has None (seen_nowhere w k _ s (within some is) (there some is) other)

-- a tree that gets a value for an index that it lacked
module _ {T : Type 0} (others tree : BTreeMap ℕ T) (k : ℕ) (v : T) (more : Updates nat_cmp others tree k (Some v)) where
  updated : (q : ℕ) → tree_get nat_cmp tree q ≡ cond (eqb q k) (Some v) (tree_get nat_cmp others q)
  updated q =
      let tied = (eq_by_cmp_equiv nat_cmp_total).symm k q ∙ unsigned_tied q k in
      more.0 q ∙ ap (λ b. cond b (Some v) (tree_get nat_cmp others q)) tied

  pub tree_has_new : tree_get nat_cmp others k ≡ None → HasNew (tree_get nat_cmp others) (tree_get nat_cmp tree) k v
  tree_has_new none q = one_more _ _ q k v
      (λ (same : q ≡ k). grind (arith, common_steps, updated q, same))
      (λ (same : q ≡ k). ap (tree_get nat_cmp others) same ∙ none)
      (λ (ne : q ≢ k). grind (arith, common_steps, updated q, ne))

  pub others_stay : (q : ℕ) → q ≢ k → tree_get nat_cmp tree q ≡ tree_get nat_cmp others q
  others_stay q ne = grind (arith, common_steps, updated q, ne)

-- nothing is found in empty slots and an empty tree
module _ {T : Type 0} (any : T) where
  abbrev bare : Slot T
  bare = record { index = 0; value = any }

  none_stored : (q n m : ℕ) → q ≢ 0 → stored q (take n (replicate m bare)) ≡ None
  none_stored q zero m some = refl
  none_stored q (suc n) zero some = refl
  none_stored q (suc n) (suc m) some = grind (arith, common_steps, none_stored q n m some)

  none_cut : (has : Bool) (q n b m : ℕ) → q ≢ 0 → stored q (cond has (take n (drop b (replicate m bare))) []) ≡ None
  none_cut false q n b m some = refl
  none_cut true q n b m some = ap (λ w. stored q (take n w)) (drop-replicate b m bare) ∙ none_stored q n (m - b) some

  none_windowed : (starts m q : ℕ) → stored q (window_of starts (replicate m bare) q) ≡ None
  none_windowed starts m zero = refl
  none_windowed starts m (suc q) =
      none_cut (nat_lt 0 (suc q) && nat_lt (suc q) (2 ^ 31)) (suc q) WINDOW (start_of starts (suc q)) m (omega arith)

  no_entries : (others : BTreeMap ℕ T) (q : ℕ) → others.entries ≡ [] → tree_get nat_cmp others q ≡ None
  no_entries others q none = grind (arith, common_steps, none)

  module _ (starts m : ℕ) (slots : List (Slot T)) (others : BTreeMap ℕ T) (are : slots ≡ replicate m bare)
      (none : others.entries ≡ []) where
    stored_nowhere : (q : ℕ) → stored q (window_of starts slots q) ≡ None
    stored_nowhere q = ap (λ ss. stored q (window_of starts ss q)) are ∙ none_windowed starts m q

    pub none_spread : (q : ℕ) → spread_at starts slots others q ≡ None
    none_spread q = ap (λ o. option_or o (tree_get nat_cmp others q)) (stored_nowhere q) ∙ no_entries others q none

    pub bare_spread : 0 < starts → starts < 2 ^ 32 → m ≡ starts + WINDOW → IsSpread starts slots others
    bare_spread some few many = record {
      some = some;
      few = few;
      room = ap length are ∙ length-replicate m bare ∙ many;
      small = subst (All (λ (x : Slot T). x.index < 2 ^ 31)) (sym are)
          (All-replicate (λ (x : Slot T). x.index < 2 ^ 31) m bare (omega arith));
      in_sight = λ q. none_spread q
          ∙ sym (missing (window_of starts slots q) q (tree_get nat_cmp others q) (none_spread q));
    }
