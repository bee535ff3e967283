-- Rows: what gates need and their lists, in one table.
use Rattle.std.proofs.lemmas.Grind.{common_steps}
use Rattle.std.proofs.Common.{◌≡◌, ◌≢◌, ◌<◌, ◌≤◌, ◌-◌, ◌∙◌, ◌∷◌, rules, ℕ, zero, suc, List, [], length, map, get_or}
use Rattle.std.proofs.Common.{take, take_all, refl, sym, ap, subst, ⊎_elim, eqb, true, false, arith}
use Rattle.std.specs.List.{AllByRecursion}
use Rattle.std.proofs.Math.ListN.{set as put}
use Rattle.std.proofs.lemmas.Bool.{cases_lt}
use Rattle.std.proofs.lemmas.Bool.Decides.{eqb_tells}
use Rattle.std.proofs.lemmas.List.{get_or-map, get_or-set_other, get_or-set_same, get_or_past, length-map, length-set}
use Rattle.std.proofs.lemmas.List.{map-set, set-get_or}
use Rattle.std.proofs.lemmas.Simd.{map-map}
use Rattle.aig_circuit.proofs.Checking.{back}
use Rattle.aig_circuit.specs.declared.circuit.Gate.{Gate}
use Rattle.aig_topo.specs.declared.lists.GateNode.{GateNode}
use Rattle.aig_topo.specs.declared.operands.Needs.{Needs}
use Rattle.aig_topo.specs.Lists.{Link, needs_in, needs_in_row, links_in, links_in_row, first_of, list_in, LeadsTo}
use Rattle.aig_topo.specs.Lists.{row_of, AreLists}
use Rattle.aig_topo.specs.Needs.{linked, under, needs_of, no_needs, AreThere}
use Rattle.aig_topo.specs.Waiting.{needs_by, rest_by}
use Rattle.aig_topo.proofs.Ordering.Lists.{read_first, front_below, all_empty, empty_lists}

pub needs_of_rows : (all : List Needs) → needs_in (map row_of all) ≡ all
needs_of_rows [] = refl
needs_of_rows (n ∷ ns) = ap (λ more. n ∷ more) (needs_of_rows ns)

-- no gate has a list yet
pub first_of_rows : (all : List Needs) (k : ℕ) → first_of (links_in (map row_of all)) k ≡ 0
first_of_rows (n ∷ ns) (suc k) = first_of_rows ns k
first_of_rows xs n = refl

-- what the rows of all gates say, once the first so many are all of them
module _ (gates : List Gate) (n : ℕ) (rows : List GateNode)
    (are : rows ≡ map (λ g. row_of (needs_of gates g)) (take n gates)) (enough : length gates ≤ n)
  where
    all_rows : rows ≡ map row_of (map (needs_of gates) gates)
    all_rows = search (rules, row_of, take_all, map-map)

    pub begun_needs : needs_in rows ≡ map (needs_of gates) gates
    begun_needs = ap needs_in all_rows ∙ needs_of_rows (map (needs_of gates) gates)

    no_first : (k : ℕ) → first_of (links_in rows) k ≡ 0
    no_first k =
        ap (λ more. first_of (links_in more) k) all_rows ∙ first_of_rows (map (needs_of gates) gates) k

    pub begun_lists : AreLists (links_in rows)
    begun_lists = empty_lists (links_in rows) no_first

    pub all_begun : (k : ℕ) → list_in rows k ≡ []
    all_begun = all_empty (links_in rows) no_first

-- there are as many of each part
pub as_many_needs : (rows : List GateNode) → length (needs_in rows) ≡ length rows
as_many_needs rows = length-map rows needs_in_row

pub as_many_links : (rows : List GateNode) → length (links_in rows) ≡ length rows
as_many_links rows = length-map rows links_in_row

-- tables with the same needs are as long
pub as_many : (rows more : List GateNode) → needs_in more ≡ needs_in rows → length more ≡ length rows
as_many rows more same = sym (as_many_needs more) ∙ ap length same ∙ as_many_needs rows

-- what an index reads is what each table has there
module _ (rows : List GateNode) (at : ℕ) (row : GateNode) (there : at < length rows)
    (is : row ≡ get_or rows at row) where
  pub read_needs : needs_in_row row ≡ get_or (needs_in rows) at (needs_in_row row)
  read_needs = ap needs_in_row is ∙ sym (get_or-map needs_in_row rows at row (needs_in_row row) there)

  pub read_link : links_in_row row ≡ get_or (links_in rows) at (links_in_row row)
  read_link = ap links_in_row is ∙ sym (get_or-map links_in_row rows at row (links_in_row row) there)

  -- another first gate leaves what gates need
  pub same_needs_in : (changed : GateNode) → needs_in_row changed ≡ needs_in_row row
      → needs_in (put rows at changed) ≡ needs_in rows
  same_needs_in changed same =
      map-set needs_in_row rows at changed
      ∙ ap (put (needs_in rows) at) (same ∙ read_needs)
      ∙ set-get_or (needs_in rows) at (needs_in_row row)

-- what each table has once one row is changed
pub needs_then : (rows : List GateNode) (at : ℕ) (changed : GateNode)
    → needs_in (put rows at changed) ≡ put (needs_in rows) at (needs_in_row changed)
needs_then rows at changed = map-set needs_in_row rows at changed

pub links_then : (rows : List GateNode) (at : ℕ) (changed : GateNode)
    → links_in (put rows at changed) ≡ put (links_in rows) at (links_in_row changed)
links_then rows at changed = map-set links_in_row rows at changed

-- the first link of a list, as it is read, leads into the table
module _ (rows : List GateNode) (at : ℕ) (row : GateNode) (there : at < length rows)
    (is : row ≡ get_or rows at row) where
  pub first_read : first_of (links_in rows) at ≡ row.first
  first_read = grind (arith, common_steps, read_first, as_many_links, read_link)

  pub first_there : AreLists (links_in rows) → 0 < row.first → row.first - 1 < length rows
  first_there lists some =
      omega (
        arith,
        front_below (links_in rows) at (row.first - 1) lists (omega (arith, first_read, some)),
        as_many_links rows,
      )

  pub first_is : AreLists (links_in rows) → (u : ℕ) → (us : List ℕ) → list_in rows at ≡ u ∷ us
      → row.first ≡ suc u
  first_is lists u us are =
      let to = subst (LeadsTo (links_in rows) (first_of (links_in rows) at)) are (lists.ends at) in
      sym first_read ∙ to.0

-- the first of a list is there
pub first_fits : (links : List Link) (k : ℕ) → AreLists links
    → AllByRecursion (λ h. h < length links) (linked (first_of links k))
first_fits links k lists =
    elim (first_of links k) as (λ n. first_of links k ≡ n → AllByRecursion (λ h. h < length links) (linked n)) [
      | zero ↦ λ _. tt
      | suc g ↦ λ is. (front_below links k g lists is, tt)
    ] refl

-- what a gate needs beside is there, as all that it needs
pub rest_there : (rows : List GateNode) → AreThere (needs_in rows) → (u : ℕ)
    → AllByRecursion (λ h. h < length rows) (rest_by rows u)
rest_there rows there u =
    let all : List Needs = needs_in rows in
    let n : Needs = get_or all u no_needs in
    rw (sym (as_many_needs rows))
    (⊎_elim (λ (in_all : u < length all).
    back (λ h. h < length all) (linked n.left) (linked n.right)
    (subst (AllByRecursion (λ h. h < length all)) (get_or-map under all u no_needs [] in_all) (there u)))
    (λ (past : length all ≤ u). rw (get_or_past all u no_needs past) tt)
    (cases_lt u (length all)))

-- where another is asked of one gate
module _ (rows more : List GateNode) (gate : ℕ) (n : Needs) (now : needs_in more ≡ put (needs_in rows) gate n) where
  pub as_many_then : length more ≡ length rows
  as_many_then =
      sym (as_many_needs more) ∙ ap length now ∙ length-set (needs_in rows) gate n ∙ as_many_needs rows

  pub rest_here : gate < length rows → rest_by more gate ≡ linked n.right
  rest_here there =
      ap (λ ns. linked (get_or ns gate no_needs).right) now
      ∙ ap (λ (m : Needs). linked m.right)
      (get_or-set_same (needs_in rows) gate n no_needs (omega (arith, there, as_many_needs rows)))

  pub rest_elsewhere : (u : ℕ) → u ≢ gate → rest_by more u ≡ rest_by rows u
  rest_elsewhere u other = search (rules, get_or-set_other)

  under_now : map under (needs_in more) ≡ put (map under (needs_in rows)) gate (under n)
  under_now = ap (map under) now ∙ map-set under (needs_in rows) gate n

  pub needs_elsewhere : (u : ℕ) → u ≢ gate → needs_by more u ≡ needs_by rows u
  needs_elsewhere u other =
      ap (λ xs. get_or xs u []) under_now ∙ get_or-set_other (map under (needs_in rows)) gate u (under n) [] other

  pub there_then : gate < length rows → AllByRecursion (λ h. h < length rows) (under n) → AreThere (needs_in rows)
      → AreThere (needs_in more)
  there_then there fits before u =
      let here : needs_by more gate ≡ under n =
      search (rules, under_now, get_or-set_same, length-map, as_many_needs) in
      rw (as_many_needs more ∙ as_many_then)
      (⊎_elim (λ (t : (eqb u gate ≡ true) × (u ≡ gate)).
      subst (AllByRecursion (λ h. h < length rows)) (sym (ap (needs_by more) t.1 ∙ here)) fits)
      (λ (f : (eqb u gate ≡ false) × (u ≢ gate)).
      subst (AllByRecursion (λ h. h < length rows)) (sym (needs_elsewhere u f.1))
      (rw (sym (as_many_needs rows)) (before u)))
      (eqb_tells u gate))
