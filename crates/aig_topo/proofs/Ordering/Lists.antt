-- Lists in one table: what becomes of them where a gate is put at the front of one, or taken from there.
use Rattle.std.proofs.Common.{◌≡◌, ◌≢◌, ◌<◌, ◌≤◌, ◌∷◌, ◌∙◌, rules, ℕ, zero, suc, List, [], length, get_or, eqb, false}
use Rattle.std.proofs.Common.{refl, sym, ap, subst, inl, inr, ⊎_elim, arith}
use Rattle.std.specs.List.{AllByRecursion}
use Rattle.std.proofs.Math.ListN.{set as put}
use Rattle.std.proofs.lemmas.Bool.Decides.{eqb_tells}
use Rattle.std.proofs.lemmas.List.{get_or-set_same, get_or-set_other, get_or_default, length-set}
use Rattle.aig_circuit.specs.Wellformed.{IsAmong, AreDistinct}
use Rattle.aig_topo.specs.Lists.{Link, no_link, next_of, first_of, gates_up_to, list_of, LeadsTo, AreLists}
use Rattle.aig_circuit.proofs.Checking.{at_most_below}

-- where a link leads to some gates, they are what it gives
list_is : (most : ℕ) (links : List Link) (link : ℕ) (us : List ℕ) → LeadsTo links link us → length us ≤ most
    → gates_up_to most links link ≡ us
unfolding gates_up_to
list_is zero links link [] to few = refl
list_is (suc most) links link [] to few = rw to refl
list_is zero links link (u ∷ us) to few = absurd (omega (arith, few))
list_is (suc most) links link (u ∷ us) to few =
    search (rules, list_is most links (next_of links u) us to.1 (omega (arith, few)))

-- a table that has the same links after these gates
kept : (links more : List Link) (us : List ℕ) (link : ℕ)
    → ((v : ℕ) → IsAmong v us → next_of more v ≡ next_of links v) → LeadsTo links link us → LeadsTo more link us
kept links more [] link same to = to
kept links more (u ∷ us) link same to = (
  to.0,
  rw (same u (inl refl)) (kept links more us (next_of links u) (λ v a. same v (inr a)) to.1),
)

-- a list by its gates
abbrev IsList : List Link → ℕ → List ℕ → Type 0
IsList links k us =
    LeadsTo links (first_of links k) us × AreDistinct us × AllByRecursion (λ g. g < length links) us

told : (links : List Link) (k : ℕ) (us : List ℕ) → IsList links k us → list_of links k ≡ us
told links k us is =
    list_is (length links) links (first_of links k) us is.0 (at_most_below (length links) us is.1 is.2)

all_lists : (links : List Link) → ((k : ℕ) → (us : List ℕ) × IsList links k us) → AreLists links
all_lists links each = record {
  ends = λ k. let w = each k in
      subst (LeadsTo links (first_of links k)) (sym (told links k w.0 w.1)) w.1.0;
  once = λ k. let w = each k in subst AreDistinct (sym (told links k w.0 w.1)) w.1.1;
  below = λ k. let w = each k in
      subst (AllByRecursion (λ g. g < length links)) (sym (told links k w.0 w.1)) w.1.2;
}

-- one list or another
either_list : (P : ℕ → Type 0) (list : ℕ) → P list → ((k : ℕ) → k ≢ list → P k) → (k : ℕ) → P k
either_list P list here other k = search (rules, eqb_tells)

module _ (links more : List Link) (list gate : ℕ) (lists : AreLists links) (as_many : length more ≡ length links)
    (first_other : (k : ℕ) → k ≢ list → first_of more k ≡ first_of links k) where
  still_below : (k : ℕ) → AllByRecursion (λ g. g < length more) (list_of links k)
  still_below k = rw as_many (lists.below k)

  -- a list whose first link and whose gates' links are as they were
  as_before : ((k v : ℕ) → k ≢ list → IsAmong v (list_of links k) → next_of more v ≡ next_of links v) → (k : ℕ)
      → k ≢ list → IsList more k (list_of links k)
  as_before same k differs = (
    search (rules, first_other, kept, lists.ends k),
    lists.once k,
    still_below k,
  )

  -- a gate is put at the front of a list
  module _ (known : gate < length links) (nowhere : (k : ℕ) → ¬ IsAmong gate (list_of links k))
      (first_here : first_of more list ≡ suc gate) (next_here : next_of more gate ≡ first_of links list)
      (next_other : (v : ℕ) → v ≢ gate → next_of more v ≡ next_of links v) where
    untouched : (k v : ℕ) → IsAmong v (list_of links k) → next_of more v ≡ next_of links v
    untouched k v a = next_other v (λ e. nowhere k (rw e at a))

    with_gate : IsList more list (gate ∷ list_of links list)
    with_gate = search (rules, first_here, next_here, kept, untouched, still_below, lists.ends list)

    pub pushed : list_of more list ≡ gate ∷ list_of links list
    pushed = told more list (gate ∷ list_of links list) with_gate

    pub pushed_elsewhere : (k : ℕ) → k ≢ list → list_of more k ≡ list_of links k
    pushed_elsewhere k differs =
        told more k (list_of links k) (as_before (λ i v _ a. untouched i v a) k differs)

    pub pushed_lists : AreLists more
    pushed_lists = all_lists more (either_list (λ k. (us : List ℕ) × IsList more k us) list
        (gate ∷ list_of links list, with_gate)
        (λ k differs. (list_of links k, as_before (λ i v _ a. untouched i v a) k differs)))

  -- the gate at the front is taken
  split : (link : ℕ) (us : List ℕ) → LeadsTo links link us → link ≡ suc gate
      → (rest : List ℕ) × ((us ≡ gate ∷ rest) × LeadsTo links (next_of links gate) rest)
  split link [] to is = absurd (omega (arith, to, is))
  split link (u ∷ us) to is = search rules

  module _ (is : first_of links list ≡ suc gate) (first_here : first_of more list ≡ next_of links gate)
      (next_same : (v : ℕ) → next_of more v ≡ next_of links v) where
    parts : (rest : List ℕ) × ((list_of links list ≡ gate ∷ rest) × LeadsTo links (next_of links gate) rest)
    parts = split (first_of links list) (list_of links list) (lists.ends list) is

    rest_is : IsList more list parts.0
    rest_is = search (rules, still_below, first_here, kept)

    pub popped : list_of links list ≡ gate ∷ list_of more list
    popped = parts.1.0 ∙ ap (λ us. gate ∷ us) (sym (told more list parts.0 rest_is))

    pub popped_elsewhere : (k : ℕ) → k ≢ list → list_of more k ≡ list_of links k
    popped_elsewhere k differs =
        told more k (list_of links k) (as_before (λ i v _ _. next_same v) k differs)

    pub popped_lists : AreLists more
    popped_lists = all_lists more (either_list (λ k. (us : List ℕ) × IsList more k us) list (parts.0, rest_is)
        (λ k differs. (list_of links k, as_before (λ i v _ _. next_same v) k differs)))

-- a list with no first gate
pub nothing_there : (links : List Link) (list : ℕ) → first_of links list ≡ 0 → list_of links list ≡ []
nothing_there links list is = list_is (length links) links (first_of links list) [] is (omega arith)

-- where no list has a first gate, all are empty, whatever is after each gate
module _ (links : List Link) (none : (k : ℕ) → first_of links k ≡ 0) where
  pub all_empty : (k : ℕ) → list_of links k ≡ []
  all_empty k = nothing_there links k (none k)

  pub empty_lists : AreLists links
  empty_lists = all_lists links (λ k. ([], (none k, tt, tt)))

-- a gate that is first in a list is one of the table's
pub front_below : (links : List Link) (list gate : ℕ) → AreLists links → first_of links list ≡ suc gate
    → gate < length links
front_below links list gate lists is =
    let w = split links links list gate lists refl (λ k _. refl) (first_of links list) (list_of links list)
    (lists.ends list) is in search rules

-- the table with one link changed
module _ (links : List Link) (k : ℕ) (link : Link) where
  there_now : k < length links → get_or (put links k link) k no_link ≡ link
  there_now there = get_or-set_same links k link no_link there

  elsewhere : (v : ℕ) → v ≢ k → get_or (put links k link) v no_link ≡ get_or links v no_link
  elsewhere v differs = get_or-set_other links k v link no_link differs

  pub first_there : k < length links → first_of (put links k link) k ≡ link.first
  first_there there = ap (λ (l : Link). l.first) (there_now there)

  pub first_elsewhere : (v : ℕ) → v ≢ k → first_of (put links k link) v ≡ first_of links v
  first_elsewhere v differs = ap (λ (l : Link). l.first) (elsewhere v differs)

  pub next_there : k < length links → next_of (put links k link) k ≡ link.next
  next_there there = ap (λ (l : Link). l.next) (there_now there)

  pub next_elsewhere : (v : ℕ) → v ≢ k → next_of (put links k link) v ≡ next_of links v
  next_elsewhere v differs = ap (λ (l : Link). l.next) (elsewhere v differs)

  -- where another gate comes first, what is after each gate stays
  pub same_next : k < length links → link.next ≡ next_of links k
      → (v : ℕ) → next_of (put links k link) v ≡ next_of links v
  same_next there same v =
      ⊎_elim (search (rules, next_there))
      (λ (f : (eqb v k ≡ false) × (v ≢ k)). next_elsewhere v f.1) (eqb_tells v k)

  -- where another gate is after it, what comes first in each list stays
  pub same_first : k < length links → link.first ≡ first_of links k → (v : ℕ)
      → first_of (put links k link) v ≡ first_of links v
  same_first there same v =
      ⊎_elim (search (rules, first_there))
      (λ (f : (eqb v k ≡ false) × (v ≢ k)). first_elsewhere v f.1) (eqb_tells v k)

-- what an index reads is what the table has there
module _ (links : List Link) (at : ℕ) (link : Link) (there : at < length links) (is : link ≡ get_or links at link) where
  read : link ≡ get_or links at no_link
  read = is ∙ get_or_default links at link no_link there

  pub read_first : first_of links at ≡ link.first
  read_first = ap (λ (l : Link). l.first) (sym read)

  pub read_next : next_of links at ≡ link.next
  read_next = ap (λ (l : Link). l.next) (sym read)

-- what is true of the lists once the first gate of one was taken
pub record HaveLess (links more : List Link) (list gate : ℕ) : Type 0 where
  pub lists : AreLists more
  pub front : list_of links list ≡ gate ∷ list_of more list
  pub others : (k : ℕ) → k ≢ list → list_of more k ≡ list_of links k

pub have_less : (links : List Link) (list gate : ℕ) (lists : AreLists links) (there : list < length links)
    → first_of links list ≡ suc gate → (link : Link) → link.next ≡ next_of links list
    → link.first ≡ next_of links gate → HaveLess links (put links list link) list gate
have_less links list gate lists there is link same now =
    let as_many = length-set links list link in
    search (rules, first_elsewhere, first_there, same_next, popped_lists, popped, popped_elsewhere)

-- and once a gate was put at the front of one: first after the gate, then before it
pub record HaveMore (links more : List Link) (list gate : ℕ) : Type 0 where
  pub lists : AreLists more
  pub front : list_of more list ≡ gate ∷ list_of links list
  pub others : (k : ℕ) → k ≢ list → list_of more k ≡ list_of links k

module _ (links : List Link) (list gate : ℕ) (lists : AreLists links) (there : list < length links)
    (known : gate < length links) (nowhere : (k : ℕ) → ¬ IsAmong gate (list_of links k)) (behind before : Link)
    (behind_next : behind.next ≡ first_of links list) (behind_first : behind.first ≡ first_of links gate)
    (before_first : before.first ≡ suc gate)
    (before_next : before.next ≡ next_of (put links gate behind) list) where
  abbrev one : List Link
  one = put links gate behind

  abbrev two : List Link
  two = put one list before

  long : length one ≡ length links
  long = length-set links gate behind

  there_too : list < length one
  there_too = omega (arith, there, long)

  same_behind : (v : ℕ) → next_of two v ≡ next_of one v
  same_behind = same_next one list before there_too before_next

  first_other : (k : ℕ) → k ≢ list → first_of two k ≡ first_of links k
  first_other k differs =
      first_elsewhere one list before k differs ∙ same_first links gate behind known behind_first k

  first_here : first_of two list ≡ suc gate
  first_here = first_there one list before there_too ∙ before_first

  next_here : next_of two gate ≡ first_of links list
  next_here = same_behind gate ∙ next_there links gate behind known ∙ behind_next

  next_other : (v : ℕ) → v ≢ gate → next_of two v ≡ next_of links v
  next_other v differs = same_behind v ∙ next_elsewhere links gate behind v differs

  pub have_more : HaveMore links two list gate
  have_more =
      let as_many : length two ≡ length links = length-set one list before ∙ long in
      search (rules, pushed_lists, first_other, first_here, next_here, next_other, pushed, pushed_elsewhere)
