-- Texts that are put, and go out through a block, one after another. A writer of several texts joins their contracts
-- by these.
use Rattle.std.proofs.Common.{◌≡◌, ◌+◌, ◌-◌, ◌%◌, ◌<◌, ◌≤◌, ◌++◌, ◌∙◌, ℕ, List, [], arith, length, min, take, rules}
use Rattle.std.proofs.Common.{refl, sym, ap, append_assoc, Bool, true, false, drop, get_or, take-add, ap₂, subst}
use Rattle.std.proofs.Common.{length-append}
use Rattle.std.specs.List.{flat_map}
use Rattle.std.proofs.lemmas.Grind.{common_steps}
use Rattle.std.proofs.lemmas.List.{append-nil, take_min, take-append-le, take-append-drop}
use Rattle.std.proofs.Math.Seq.{take-append-add}
use Rattle.std.proofs.Math.Nat.{min-le_right}
use Rattle.aig_io.specs.declared.block.TheConstants.{ROOM}
use Rattle.aig_io.specs.Devices.{History, TookBeginning, failed_once, took}
use Rattle.aig_io.specs.Output.{WentOut, Out, Appended}
use Rattle.aig_io.proofs.Took.{took_twice}

-- n bytes were put into a block that held some: it was filled, and what is after it was held once blocks were sent
pub left_behind : (held count n left : ℕ) → held ≤ ROOM → count ≡ min (ROOM - held) n → count < n
    → left ≡ (n - count - 1) % ROOM + 1 → left ≡ (held + n - 1) % ROOM + 1
left_behind held count n left short filled more is = omega arith

-- a text was put after what is held, where a block has room for both
pub left_within : (held filled text : List ℕ) → filled ≡ held ++ text → 0 < length text → length filled ≤ ROOM
    → length filled ≡ (length held + length text - 1) % ROOM + 1
left_within held filled text e some within = grind (arith, common_steps)

-- a text has more bytes with another after it
pub some_first : (t u : List ℕ) → 0 < length t → 0 < length (t ++ u)
some_first t u some = omega (arith, length-append t u)

-- a text was put, and then another
pub left_twice : (h0 h1 h2 t u : List ℕ) → 0 < length t → 0 < length u
    → length h1 ≡ (length h0 + length t - 1) % ROOM + 1 → length h2 ≡ (length h1 + length u - 1) % ROOM + 1
    → length h2 ≡ (length h0 + length (t ++ u) - 1) % ROOM + 1
left_twice h0 h1 h2 t u some more p q = rw length-append (omega arith)

-- all of a text is taken where an empty block has room for it
pub all_filled : (block text rest filled : List ℕ) (count : ℕ) → filled ≡ block ++ take count text
    → count ≡ min (ROOM - length block) (length text) → text ≡ rest → block ≡ [] → length rest ≤ ROOM
    → filled ≡ block ++ rest
all_filled block text rest filled count value many same empty fits = grind (arith, common_steps)

-- Texts that go out through a block, one after another. A writer of several texts joins their contracts by these.

-- what was sent, then what is left, are what was held and both texts
joined : (h0 h1 h2 s1 s2 xs ys : List ℕ) → h0 ++ xs ≡ s1 ++ h1 → h1 ++ ys ≡ s2 ++ h2
    → h0 ++ (xs ++ ys) ≡ (s1 ++ s2) ++ h2
joined h0 h1 h2 s1 s2 xs ys p q = grind (arith, common_steps)

went_out_twice : (a b c : History) (h0 h1 h2 xs ys : List ℕ) → WentOut a b h0 h1 xs → WentOut b c h1 h2 ys
    → WentOut a c h0 h2 (xs ++ ys)
went_out_twice a b c h0 h1 h2 xs ys p q = record {
  sent = p.sent ++ q.sent;
  history = took_twice a b c p.sent q.sent p.history q.history;
  order = joined h0 h1 h2 p.sent q.sent xs ys p.order q.order;
}

-- what the sink took before, and then the first n bytes of a text
took_before : (a b c : History) (sent h : List ℕ) (n : ℕ) → b ≡ took sent a → c ≡ failed_once (took (take n h) b)
    → c ≡ failed_once (took (take (length sent + n) (sent ++ h)) a)
took_before a b c sent h n p q =
    rw take-append-add (q ∙ ap failed_once (took_twice a b (took (take n h) b) sent (take n h) p refl))

pub beginning_after : (a b c : History) (h0 h1 xs ys : List ℕ) → WentOut a b h0 h1 xs
    → TookBeginning (h1 ++ ys) b c → TookBeginning (h0 ++ (xs ++ ys)) a c
beginning_after a b c h0 h1 xs ys p q = record {
  count = length p.sent + q.count;
  history = rw (← append_assoc h0 xs ys, p.order, append_assoc) (took_before a b c p.sent (h1 ++ ys) q.count p.history
      q.history);
}

-- a beginning of a text is one of each longer text
beginning_of_more : (a b : History) (xs ys : List ℕ) → TookBeginning xs a b → TookBeginning (xs ++ ys) a b
beginning_of_more a b xs ys p =
    let same : take (min p.count (length xs)) (xs ++ ys) ≡ take p.count xs =
    take-append-le (min p.count (length xs)) xs ys (min-le_right p.count (length xs)) ∙ take_min p.count xs in
    record {
      count = min p.count (length xs);
      history = p.history
          ∙ ap (λ (bs : List ℕ). failed_once (took bs a)) (sym same);
    }

pub beginning_longer : (a b : History) (h xs ys : List ℕ) → TookBeginning (h ++ xs) a b
    → TookBeginning (h ++ (xs ++ ys)) a b
beginning_longer a b h xs ys p = search (rules, append_assoc, beginning_of_more)

-- all is held
kept : (a : History) (h xs : List ℕ) → WentOut a a h (h ++ xs) xs
kept a h xs = record {
  sent = [];
  history = ap (λ (bs : List ℕ). record a { bytes = bs }) (sym (append-nil a.bytes));
  order = refl;
}

-- Texts that are put one after another.

-- the texts of one item more
text_of_more : {X : Type 0} (f : X → List ℕ) (xs : List X) (i : ℕ) (d : X) → i < length xs
    → flat_map f (take i xs) ++ f (get_or xs i d) ≡ flat_map f (take (i + 1) xs)
text_of_more f xs i d low = grind (arith, common_steps)

-- a line of numbers with one more
pub row_of_more : (front : List ℕ) (f : ℕ → List ℕ) (xs : List ℕ) (i : ℕ) → i < length xs
    → (front ++ flat_map f (take i xs)) ++ f (get_or xs i 0) ≡ front ++ flat_map f (take (i + 1) xs)
row_of_more front f xs i low =
    append_assoc front _ _ ∙ ap (λ (text : List ℕ). front ++ text) (text_of_more f xs i 0 low)

module _ {W : Type 0} where
  begun_twice : (a b c : Out W) (t u : List ℕ) (failed : Bool) → b.failed ≡ failed → Appended a b t → Appended b c u
      → a.failed ≡ false → c.failed ≡ true → TookBeginning (a.held ++ (t ++ u)) a.history c.history
  begun_twice a b c t u true e p q start end = search (rules, beginning_longer)
  begun_twice a b c t u false e p q start end = search (rules, beginning_after)

  pub put_twice : (a b c : Out W) (t u : List ℕ) → Appended a b t → Appended b c u → Appended a c (t ++ u)
  put_twice a b c t u p q = search (rules, went_out_twice, begun_twice)

  -- a text is put into the block alone
  held : (a b : Out W) (text : List ℕ) → b ≡ record a { held = a.held ++ text } → Appended a b text
  held a b text e = search rules

  -- nothing is put, and nothing is sent
  pub put_nothing : (a : Out W) → Appended a a []
  put_nothing a = held a a [] (ap (λ (bytes : List ℕ). record a { held = bytes }) (sym (append-nil a.held)))

  -- a text for which room was made
  put_held : (a b c : Out W) (text : List ℕ) → c ≡ record b { held = b.held ++ text } → Appended a b []
      → Appended a c text
  put_held a b c text e p = put_twice a b c [] text p (held b c text e)

  -- the same, where the block alone was changed
  pub put_filled : (a b o : Out W) (filled text : List ℕ) → o ≡ b → Appended a b [] → filled ≡ o.held ++ text
      → Appended a (record o { held = filled }) text
  put_filled a b o filled text same p e =
      put_held a b (record o { held = filled }) text
      (rw e (ap (λ (x : Out W). record x { held = x.held ++ text }) same)) p

  -- what was put so far, and the next n bytes
  pub put_next : (a b c : Out W) (bytes : List ℕ) (at n : ℕ) → Appended a b (take at bytes)
      → Appended b c (take n (drop at bytes)) → Appended a c (take (at + n) bytes)
  put_next a b c bytes at n p q = rw take-add (put_twice a b c (take at bytes) (take n (drop at bytes)) p q)

  -- the first bytes of a text were put, and then those after them
  pub put_rest : (a b c : Out W) (bytes : List ℕ) (at : ℕ) → Appended a b (take at bytes) → Appended b c (drop at bytes)
      → Appended a c bytes
  put_rest a b c bytes at p q =
      subst (λ (text : List ℕ). Appended a c text) (take-append-drop at bytes)
      (put_twice a b c (take at bytes) (drop at bytes) p q)

  -- the texts of the items so far, and that of the next item
  pub put_more : {X : Type 0} (f : X → List ℕ) (xs : List X) (i : ℕ) (d x : X) (a b c : Out W) → x ≡ get_or xs i d
      → Appended a b (flat_map f (take i xs)) → Appended b c (f x) → i < length xs
      → Appended a c (flat_map f (take (i + 1) xs))
  put_more f xs i d x a b c is p q low =
      subst (λ (text : List ℕ). Appended a c text) (text_of_more f xs i d low)
      (put_twice a b c (flat_map f (take i xs)) (f (get_or xs i d)) p (subst (λ y. Appended b c (f y)) is q))

  -- an output of a text was finished, and the sink failed on the way
  pub beginning_sent : (o a b c : Out W) (text : List ℕ) → a ≡ o → o.held ≡ [] → o.failed ≡ false → Appended a b text
      → Appended b c [] → c.failed ≡ true → TookBeginning text o.history c.history
  beginning_sent o a b c text same empty start put sent broke =
      let begun = (put_twice a b c text [] put sent).begun (ap (λ (x : Out W). x.failed) same ∙ start) broke in
      subst (λ (bytes : List ℕ). TookBeginning bytes o.history c.history)
      (ap (λ (held : List ℕ). held ++ (text ++ [])) empty ∙ append-nil text)
      (subst (λ (x : Out W). TookBeginning (x.held ++ (text ++ [])) x.history c.history) same begun)

  -- an output of a text was finished, and the sink did not fail
  pub all_sent : (o a b c : Out W) (text : List ℕ) → a ≡ o → o.held ≡ [] → Appended a b text → Appended b c []
      → c.held ≡ []
      → c.failed ≡ false → c.history ≡ took text o.history
  all_sent o a b c text same empty put sent none good =
      let went = ((put_twice a b c text [] put sent).went good).1 in
      let is : text ≡ went.sent =
      sym (ap (λ (held : List ℕ). held ++ (text ++ [])) (ap (λ (x : Out W). x.held) same ∙ empty) ∙ append-nil text)
      ∙ went.order ∙ ap (λ (held : List ℕ). went.sent ++ held) none ∙ append-nil went.sent in
      went.history ∙ ap₂ took (sym is) (ap (λ (x : Out W). x.history) same)
