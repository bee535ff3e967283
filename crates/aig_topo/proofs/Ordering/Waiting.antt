-- Who waits for whom, where gates are looked at, let wait, released and taken, the least ready one each time.
use Rattle.std.proofs.Common.{◌≡◌, ◌≢◌, ◌<◌, ◌≤◌, ◌+◌, ◌-◌, ◌∷◌, ◌++◌, ◌∙◌, ◌⊎◌, ◌||◌, ◌&&◌, rules, ℕ, suc, List, []}
use Rattle.std.proofs.Common.{eqb, Bool, length, get_or, true, false, Option, None, Some, refl, sym, ap, subst, inl}
use Rattle.std.proofs.Common.{inr, ⊎_elim, arith, true≢false, map, not, sum, length-append, get_or-set_same}
use Rattle.std.specs.List.{AllByRecursion}
use Rattle.std.proofs.Math.ListN.{set as put}
use Rattle.std.proofs.lemmas.Bool.{cases_lt}
use Rattle.std.proofs.lemmas.Bool.Decides.{eqb_tells}
use Rattle.aig_circuit.specs.declared.circuit.TheConstants.{LARGEST}
use Rattle.aig_circuit.specs.declared.circuit.Gate.{Gate}
use Rattle.aig_circuit.specs.Wellformed.{IsAmong}
use Rattle.aig_circuit.proofs.Checking.{joined}
use Rattle.aig_topo.specs.declared.least_ready.taking.Search.{Search}
use Rattle.aig_topo.specs.declared.lists.GateNeeds.{GateNeeds}
use Rattle.aig_topo.specs.declared.lists.GateNode.{GateNode}
use Rattle.aig_topo.specs.declared.lists.Lists.{Lists}
use Rattle.aig_topo.specs.declared.operands.Needs.{Needs}
use Rattle.aig_topo.specs.Order.{TakesLeast, IsFull, left_over}
use Rattle.aig_topo.specs.Lists.{needs_in, links_in, list_in, first_of, AreLists, AreNeedsOf}
use Rattle.aig_topo.specs.Needs.{linked, needs_at, how_many, AreThere}
use Rattle.aig_topo.specs.Progress.{Progress, CountsFor}
use Rattle.aig_topo.specs.Ready.{Tree, has, room}
use Rattle.aig_topo.specs.Waiting.{rest_by, HasAll, Suffices, AreApart, IsRoomy, IsServed, WaitsFor, RowsWait, Stands}
use Rattle.aig_topo.proofs.Ordering.LeastReady.{counts_one, among_or_not, listed_first, missing_first, none_left}
use Rattle.aig_topo.proofs.Ordering.LeastReady.{all_in, still_none, at_the_end}
use Rattle.aig_topo.proofs.Ordering.Counted.{among_first, in_longer}
use Rattle.aig_topo.proofs.Ordering.Cyclic.{among_last}
use Rattle.aig_topo.proofs.Ordering.Ranked.{as_long, are_there, as_many_counts, each_count}
use Rattle.aig_topo.proofs.Ordering.Rows.{as_many_needs, rest_here, rest_elsewhere, needs_elsewhere, as_many}
use Rattle.aig_topo.proofs.Ordering.Rows.{as_many_links, as_many_then, first_fits, there_then, rest_there}

-- what holds by a list holds by a longer one
still_served : (seen u n : ℕ) (list more needs : List ℕ) → HasAll list more → IsServed seen u list needs n
    → IsServed seen u more needs n
still_served seen u n list more needs has_all s = search (rules, still_none)

still_waits : (m seen u n : ℕ) (list more needs rest : List ℕ) → HasAll list more
    → WaitsFor m seen u list needs rest n → WaitsFor m seen u more needs rest n
still_waits m seen u n list more needs rest has_all w = search rules

-- a gate is put at the front of a list
module _ (rows new : List GateNode) (gate m : ℕ) (front : list_in new m ≡ gate ∷ list_in rows m)
    (others : (k : ℕ) → k ≢ m → list_in new k ≡ list_in rows k) where
  in_more : (k u : ℕ) → IsAmong u (list_in new k) → ((u ≡ gate) × (k ≡ m)) ⊎ IsAmong u (list_in rows k)
  in_more k u a = search (rules, eqb_tells)

  to_more : (k u : ℕ) → IsAmong u (list_in rows k) → IsAmong u (list_in new k)
  to_more k u a = search (rules, eqb_tells)

  apart_still : ((k : ℕ) → ¬ IsAmong gate (list_in rows k)) → AreApart (links_in rows) → AreApart (links_in new)
  apart_still nowhere apart k n u a b =
      ⊎_elim (search (rules, in_more))
      (λ (i : IsAmong u (list_in rows k)).
      ⊎_elim
      (λ (f : (u ≡ gate) × (n ≡ m)). absurd (nowhere k (rw f.0 at i)))
      (λ (j : IsAmong u (list_in rows n)). apart k n u i j) (in_more n u b))
      (in_more k u a)

-- the gate at the front is taken out of a list
module _ (rows new : List GateNode) (m u : ℕ) (front : list_in rows m ≡ u ∷ list_in new m)
    (others : (k : ℕ) → k ≢ m → list_in new k ≡ list_in rows k) where
  pub back : (k v : ℕ) → IsAmong v (list_in new k) → IsAmong v (list_in rows k)
  back k v a = search (rules, eqb_tells)

  pub was_there : IsAmong u (list_in rows m)
  was_there = subst (IsAmong u) (sym front) (inl refl)

  pub gone : AreLists (links_in rows) → AreApart (links_in rows) → (k : ℕ) → ¬ IsAmong u (list_in new k)
  gone lists apart k a =
      let same : k ≡ m = apart k m u (back k u a) was_there in search rules

  apart_too : AreApart (links_in rows) → AreApart (links_in new)
  apart_too apart k n v a b = apart k n v (back k v a) (back n v b)

-- who waits for a listed gate did so before, where their lists are the same
pub still_lacks : (rows new : List GateNode) (list more : List ℕ) (served : Option ℕ) → more ≡ list
    → ((g : ℕ) → IsAmong g list → list_in new g ≡ list_in rows g)
    → ((m u : ℕ) → served ≢ Some m → IsAmong u (list_in rows m) → ¬ IsAmong m list)
    → (m u : ℕ) → served ≢ Some m → IsAmong u (list_in new m) → ¬ IsAmong m more
still_lacks rows new list more served is same lacks m u s a b =
    let there : IsAmong m list = subst (IsAmong m) is b in
    lacks m u s (subst (IsAmong u) (same m there) a) there

abbrev pub search_of : Progress → Lists → Tree → ℕ → Search
search_of order lists ready seen = record { order = order; lists = lists; ready = ready; seen = seen }

module _ (all : List Needs) (lists : Lists) (ready : Tree) (seen : ℕ) where
  -- operands are counted of a gate that is taken out of its list
  pub recounted : (old new : Progress) (gate : ℕ) → CountsFor gate old new
      → RowsWait all (Some gate) (search_of old lists ready seen)
      → RowsWait all (Some gate) (search_of new lists ready seen)
  recounted old new gate for_gate wait =
      let down = for_gate.down in
      let out = wait.taken_out gate refl in
      let same : (u : ℕ) → u ≢ gate → get_or new.waiting u 0 ≡ get_or old.waiting u 0 = for_gate.others in
      subst (λ l. RowsWait all (Some gate)
      (search_of (record { list = l; waiting = new.waiting; steps = new.steps }) lists ready seen)) (sym down.list)
      (record {
        room = rw down.as_many wait.room;
        within = wait.within;
        in_turn = wait.in_turn;
        paid = down.paid ∙ wait.paid;
        listed = λ u a. subst (IsServed seen u old.list (needs_at all u))
            (sym (same u (λ e. out.1 (subst (λ v. IsAmong v old.list) e a)))) (wait.listed u a);
        ready = λ u h. let w = wait.ready u h in (
          subst (IsServed seen u old.list (needs_at all u))
              (sym (same u (λ e. true≢false (sym h ∙ (ap (has ready) e ∙ out.2))))) w.0,
          w.1,
        );
        waits = λ m u a. subst (WaitsFor m seen u old.list (needs_at all u) (rest_by lists.rows.items u))
            (sym (same u (λ e. out.3 m (subst (λ v. IsAmong v (list_in lists.rows.items m)) e a)))) (wait.waits m u a);
        each = wait.each;
        taken_out = wait.taken_out;
        unasked = λ u above. let w = wait.unasked u above in
            (w.0, same u (λ e. omega (arith, e, out.0, above)) ∙ w.1);
      })

module _ (all : List Needs) (lists : Lists) (ready : Tree) (seen : ℕ) where
  -- it is put into the list of one that it needs
  pub rows_wait_in_list : (old order : Progress) (new : Lists) (gate m rest : ℕ) → CountsFor gate old order
      → AreLists (links_in new.rows.items)
      → needs_in new.rows.items ≡ put (needs_in lists.rows.items) gate
      (record { left = first_of (links_in lists.rows.items) m; right = rest })
      → list_in new.rows.items m ≡ gate ∷ list_in lists.rows.items m
      → ((k : ℕ) → k ≢ m → list_in new.rows.items k ≡ list_in lists.rows.items k) → ¬ IsAmong m old.list
      → get_or order.waiting gate 0 ≡ suc (length (linked rest))
      → Suffices old.list (needs_at all gate) (m ∷ linked rest)
      → AllByRecursion (λ h. h < length old.waiting) (linked rest)
      → RowsWait all (Some gate) (search_of old lists ready seen) → RowsWait all None (search_of order new ready seen)
  rows_wait_in_list old order new gate m rest for_gate lists_new now front others lacks counted suffices fit waits =
      let rows : List GateNode = lists.rows.items in
      let more : List GateNode = new.rows.items in
      let list : List ℕ = order.list in
      let wait = recounted all lists ready seen old order gate for_gate waits in
      let same = for_gate.down.list in
      let missing : ¬ IsAmong m list = subst (λ l. ¬ IsAmong m l) (sym same) lacks in
      let enough : Suffices list (needs_at all gate) (m ∷ linked rest) =
      subst (λ l. Suffices l (needs_at all gate) (m ∷ linked rest)) (sym same) suffices in
      let out = wait.taken_out gate refl in
      let r = wait.room in
      let first : ℕ = first_of (links_in rows) m in
      let n : Needs = record { left = first; right = rest } in
      let there : gate < length rows = omega (arith, out.0, wait.within, r.many) in
      let long : length more ≡ length rows = as_many_then rows more gate n now in
      let fits : AllByRecursion (λ h. h < length rows) (linked first ++ linked rest) =
      joined (λ h. h < length rows) (linked first) (linked rest)
      (subst (λ c. AllByRecursion (λ h. h < c) (linked first)) (as_many_links rows)
      (first_fits (links_in rows) m r.lists))
      (subst (λ c. AllByRecursion (λ h. h < c) (linked rest)) (waits.room.counted ∙ sym r.many) fit) in
      let here : WaitsFor m seen gate list (needs_at all gate) (linked rest) (get_or order.waiting gate 0) =
      record { below = out.0; enough = enough; counted = counted } in record {
        room = record {
          few = r.few;
          many = long ∙ r.many;
          there = there_then rows more gate n now there fits r.there;
          counted = r.counted;
          ready = r.ready;
          lists = lists_new;
          apart = apart_still rows more gate m front others out.3 r.apart;
        };
        within = wait.within;
        in_turn = wait.in_turn;
        paid = wait.paid;
        listed = wait.listed;
        ready = wait.ready;
        waits = λ k u a. ⊎_elim
            (λ (e : (u ≡ gate) × (k ≡ m)).
            rw e.1 (subst (λ z. WaitsFor m seen z list (needs_at all z) (rest_by more z) (get_or order.waiting z 0))
            (sym e.0)
            (subst (λ xs. WaitsFor m seen gate list (needs_at all gate) xs (get_or order.waiting gate 0))
            (sym (rest_here rows more gate n now there)) here)))
            (λ (i : IsAmong u (list_in rows k)).
            let other : u ≢ gate = λ e. out.3 k (rw e at i) in
            subst (λ xs. WaitsFor k seen u list (needs_at all u) xs (get_or order.waiting u 0))
            (sym (rest_elsewhere rows more gate n now u other)) (wait.waits k u i))
            (in_more rows more gate m front others k u a);
        each = λ u l. ⊎_elim (λ (a : IsAmong u list). inl a)
            (λ rest. ⊎_elim (λ (h : has ready u ≡ true). inr (inl h))
            (λ late. ⊎_elim
            (λ (w : (k : ℕ) × IsAmong u (list_in rows k)).
            inr (inr (inl (w.0, to_more rows more gate m front others w.0 u w.1))))
            (λ (o : Some gate ≡ Some u). let e : gate ≡ u = cc in
            inr (inr (inl (m, subst (IsAmong u) (sym front) (inl (sym e)))))) late) rest) (wait.each u l);
        taken_out = λ u o. cc;
        unasked = λ u above. let w = wait.unasked u above in
            (needs_elsewhere rows more gate n now u (λ e. omega (arith, e, out.0, above)) ∙ w.0, w.1);
      }

  -- or it is put among those that are ready
  pub rows_wait_no_more : (old order : Progress) (now : Tree) (gate : ℕ) → CountsFor gate old order
      → left_over old.list (needs_at all gate) ≡ 0 → get_or order.waiting gate 0 ≡ 0
      → ((u : ℕ) → has now u ≡ (eqb u gate || has ready u)) → room now ≡ room ready
      → RowsWait all (Some gate) (search_of old lists ready seen) → RowsWait all None (search_of order lists now seen)
  rows_wait_no_more old order now gate for_gate left counted told bits waits =
      let wait = recounted all lists ready seen old order gate for_gate waits in
      let list : List ℕ = order.list in
      let none : left_over list (needs_at all gate) ≡ 0 =
      subst (λ l. left_over l (needs_at all gate) ≡ 0) (sym for_gate.down.list) left in
      let bits_too : IsRoomy (length all) lists.rows.items (length order.waiting) (room now) = rw bits wait.room in
      search (rules, eqb_tells)

  module _ (order : Progress) (served : Option ℕ) (stands : Stands all served (search_of order lists ready seen)) where
    -- the first gate is taken out of a list
    module _ (new : Lists) (m u : ℕ) (lists_new : AreLists (links_in new.rows.items))
        (same : needs_in new.rows.items ≡ needs_in lists.rows.items)
        (front : list_in lists.rows.items m ≡ u ∷ list_in new.rows.items m)
        (others : (k : ℕ) → k ≢ m → list_in new.rows.items k ≡ list_in lists.rows.items k) where
      -- it waits for some, so it is neither listed nor ready
      pub waited : WaitsFor m seen u order.list (needs_at all u) (rest_by lists.rows.items u) (get_or order.waiting u 0)
      waited = stands.waits.waits m u (was_there lists.rows.items new.rows.items m u front others)

      idle_not : (b : Bool) → has ready u ≡ b → b ≡ false
      idle_not true h = absurd (omega (arith, waited.counted, (stands.waits.ready u h).0.counted))
      idle_not false h = refl

      pub rows_taken_out : RowsWait all (Some u) (search_of order new ready seen)
      rows_taken_out =
          let rows : List GateNode = lists.rows.items in
          let less : List GateNode = new.rows.items in
          let wait = stands.waits in
          let r = wait.room in
          let before = back rows less m u front others in record {
            room = record {
              few = r.few;
              many = as_many rows less same ∙ r.many;
              there = subst AreThere (sym same) r.there;
              counted = r.counted;
              ready = r.ready;
              lists = lists_new;
              apart = apart_too rows less m u front others r.apart;
            };
            within = wait.within;
            in_turn = wait.in_turn;
            paid = wait.paid;
            listed = wait.listed;
            ready = wait.ready;
            waits = λ k v a. rw same (wait.waits k v (before k v a));
            each = search (rules, eqb_tells);
            taken_out = λ v o. let e : u ≡ v = cc in
                rw (← e) (
                  waited.below,
                  λ a. omega (arith, waited.counted, (wait.listed u a).counted),
                  idle_not (has ready u) refl,
                  gone rows less m u front others r.lists r.apart,
                );
            unasked = λ v above. let w = wait.unasked v above in (ap (λ ns. needs_at ns v) same ∙ w.0, w.1);
          }

      -- an operand of it is counted, the rest of what it needs is asked for, and it is entered again
      module _ (less : Progress) (ahead left : ℕ) (ahead_is : linked ahead ≡ rest_by lists.rows.items u)
          (left_is : left ≡ length (linked ahead)) (told : less.waiting ≡ put order.waiting u left)
          (steps : less.steps ≡ order.steps + 1) (list : less.list ≡ order.list) where
        counts : less.waiting ≡ put order.waiting u (get_or order.waiting u 0 - 1)
        counts = told ∙ ap (put order.waiting u) (omega (arith, left_is, ap length ahead_is, waited.counted))

        fits : u < length order.waiting
        fits = omega (arith, waited.below, stands.waits.within, stands.waits.room.counted)

        pub entered_again : IsAmong m order.list → RowsWait all (Some u) (search_of less new ready seen)
            × (AllByRecursion (λ h. h < length all) (linked ahead) × ((get_or less.waiting u 0 ≡ length (linked ahead))
            × Suffices less.list (needs_at all u) (linked ahead)))
        entered_again taken = (
          recounted all new ready seen order less u
              (counts_one u order less fits (omega (arith, waited.counted)) counts steps list) rows_taken_out,
          (
            rw ahead_is (subst (λ n. AllByRecursion (λ h. h < n) (rest_by lists.rows.items u)) stands.waits.room.many
                (rest_there lists.rows.items stands.waits.room.there u)),
            (
              ap (λ ws. get_or ws u 0) counts
                  ∙ get_or-set_same order.waiting u (get_or order.waiting u 0 - 1) 0 fits
                  ∙ omega (arith, waited.counted)
                  ∙ ap length (sym ahead_is),
              λ more has_all.
                  let has : HasAll order.list more = λ g a. has_all g (subst (IsAmong g) (sym list) a) in
                  waited.enough more has
                  ∙ listed_first more m (rest_by lists.rows.items u) (has m taken)
                  ∙ ap (left_over more) (sym ahead_is),
            ),
          ),
        )

    -- a gate's list is empty
    pub rows_served : (g : ℕ) → served ≡ Some g → list_in lists.rows.items g ≡ []
        → Stands all None (search_of order lists ready seen)
    rows_served g is none = record {
      waits = stands.waits;
      lacks = λ m u _ a. stands.lacks m u
          (λ s. let e : g ≡ m = cc in subst (IsAmong u) none (rw e a)) a;
    }

  module _ (order : Progress) (stands : Stands all None (search_of order lists ready seen)) where
    -- one more gate is looked at
    later : (u n : ℕ) (ns : List ℕ) → IsServed seen u order.list ns n → IsServed (seen + 1) u order.list ns n
    later u n ns s = record { below = omega (arith, s.below); none = s.none; counted = s.counted }

    not_yet : (b : Bool) → has ready seen ≡ b → b ≡ false
    not_yet true h = absurd (omega (arith, (stands.waits.ready seen h).0.below))
    not_yet false h = refl

    pub rows_looked_at : seen < length all → RowsWait all (Some seen) (search_of order lists ready (seen + 1))
    rows_looked_at there = let wait = stands.waits in record {
      room = wait.room;
      within = omega (arith, there);
      in_turn = wait.in_turn;
      paid = wait.paid;
      listed = search (rules, later, wait.listed);
      ready = search (rules, later, wait.ready);
      waits = λ m u a. let w = wait.waits m u a in
          record { below = omega (arith, w.below); enough = w.enough; counted = w.counted };
      each = search (rules, cases_lt);
      taken_out = search (rules, not_yet);
      unasked = λ u above. wait.unasked u (omega (arith, above));
    }

    -- who waits lacks some
    some_left : (m u : ℕ) → IsAmong u (list_in lists.rows.items m)
        → left_over order.list (needs_at all u) ≡ suc (left_over order.list (rest_by lists.rows.items u))
    some_left m u a =
        (stands.waits.waits m u a).enough order.list (λ g b. b)
        ∙ missing_first order.list m (rest_by lists.rows.items u) (stands.lacks m u (λ e. cc) a)

    -- where all were looked at and none is ready, no gate can be added
    module _ (none : (g : ℕ) → has ready g ≡ false) where
      pub nothing_left : seen ≡ length all → IsFull (length all) (needs_at all) order.list
      nothing_left looked g there served = search (rules, all_in, among_or_not, some_left)

      -- and a gate waits for what is left over, once the rest of what it needs is counted
      pub one_and_rest : (u : ℕ) → 0 < get_or order.waiting u 0 → u < seen
          → get_or order.waiting u 0 ≡ suc (length (rest_by lists.rows.items u))
      one_and_rest u some there = search rules

      pub left_is_counted : (u n : ℕ) → u < seen → (get_or order.waiting u 0 ≡ 0 → n ≡ 0)
          → (0 < get_or order.waiting u 0 → n ≡ suc (left_over order.list (rest_by lists.rows.items u)))
          → n ≡ left_over order.list (needs_at all u)
      left_is_counted u n there idle counted = search (rules, some_left)

    -- the least that is ready comes next
    module _ (g : ℕ) (first : has ready g ≡ true) (least : (h : ℕ) → has ready h ≡ true → g ≤ h) where
      goes_on_in_turn : TakesLeast (length all) (needs_at all) [] (order.list ++ g ∷ [])
      goes_on_in_turn =
          let seen_few : seen ≤ length all = stands.waits.within in
          let in_turn = stands.waits.in_turn in
          search (rules, at_the_end, none_left, all_in, cases_lt, some_left)

      longer : HasAll order.list (order.list ++ g ∷ [])
      longer h a = among_first h order.list (g ∷ []) a

      -- and then the others in its list are served
      pub rows_taken : (popped : Tree) → ((u : ℕ) → has popped u ≡ (not (eqb u g) && has ready u))
          → room popped ≡ room ready
          → Stands all (Some g) (search_of
          (record { list = order.list ++ g ∷ []; waiting = order.waiting; steps = order.steps + 1 }) lists popped seen)
      rows_taken popped rest bits =
          let list : List ℕ = order.list in
          let wait = stands.waits in
          let w = wait.ready g first in
          let more : List ℕ = list ++ g ∷ [] in record {
            waits = record {
              room = rw bits wait.room;
              within = wait.within;
              in_turn = goes_on_in_turn;
              paid = omega (arith, wait.paid, length-append list (g ∷ []));
              listed = λ u a. ⊎_elim
                  (λ (b : IsAmong u list).
                  still_served seen u (get_or order.waiting u 0) list more (needs_at all u) longer (wait.listed u b))
                  (λ (e : u ≡ g).
                  rw e (still_served seen g (get_or order.waiting g 0) list more (needs_at all g) longer w.0))
                  (in_longer list g u a);
              ready = λ u p. ⊎_elim
                  (λ (t : (eqb u g ≡ true) × (u ≡ g)).
                  absurd (true≢false (sym p ∙ (rest u ∙ ap (λ b. not b && has ready u) t.0))))
                  (λ (f : (eqb u g ≡ false) × (u ≢ g)).
                  let v = wait.ready u (sym (rest u ∙ ap (λ b. not b && has ready u) f.0) ∙ p) in (
                    still_served seen u (get_or order.waiting u 0) list more (needs_at all u) longer v.0,
                    λ a. ⊎_elim v.1 f.1 (in_longer list g u a),
                  ))
                  (eqb_tells u g);
              waits = λ k u a.
                  still_waits k seen u (get_or order.waiting u 0) list more (needs_at all u)
                  (rest_by lists.rows.items u)
                  longer (wait.waits k u a);
              each = λ u l. ⊎_elim (λ (a : IsAmong u list). inl (among_first u list (g ∷ []) a))
                  (λ others. ⊎_elim (λ (h : has ready u ≡ true).
                  ⊎_elim
                  (λ (t : (eqb u g ≡ true) × (u ≡ g)). inl (among_last list (g ∷ []) u (inl t.1)))
                  (λ (f : (eqb u g ≡ false) × (u ≢ g)). inr (inl ((rest u ∙ ap (λ b. not b && has ready u) f.0) ∙ h)))
                  (eqb_tells u g))
                  (λ late. ⊎_elim (λ (i : (k : ℕ) × IsAmong u (list_in lists.rows.items k)). inr (inr (inl i)))
                  (λ (o : None ≡ Some u). cc) late) others) (wait.each u l);
              taken_out = λ u o. cc;
              unasked = wait.unasked;
            };
            lacks = λ k u s a b. ⊎_elim (stands.lacks k u (λ e. cc) a) (λ (e : k ≡ g). s (ap Some (sym e)))
                (in_longer list g k b);
          }

-- at first no gate was looked at
pub stands_at_first : (gates : List Gate) (needs : GateNeeds) (ready : Tree) → length gates ≤ LARGEST
    → AreNeedsOf gates needs → ((g : ℕ) → has ready g ≡ false) → length gates ≤ room ready
    → Stands (needs_in needs.lists.rows.items) None
    (search_of (record { list = []; waiting = needs.counts.items; steps = 0 }) needs.lists ready 0)
stands_at_first gates needs ready few made none bits =
    let rows : List GateNode = needs.lists.rows.items in
    let all : List Needs = needs_in rows in
    let counts : List ℕ = needs.counts.items in
    let long : length all ≡ length gates = as_long gates all made.needs in
    let many : length rows ≡ length all = sym (as_many_needs rows) in
    let there : AreThere all = are_there gates all made.needs in
    let counted : length counts ≡ length all = as_many_counts gates rows counts made.needs made.counts ∙ sym long in
    let sums : sum counts ≡ 0 + sum (map how_many all) = omega (arith, ap sum made.counts) in
    let each : (u : ℕ) → get_or counts u 0 ≡ length (needs_at all u) =
    each_count gates rows counts made.needs made.counts in
    search (rules, made.empty)
