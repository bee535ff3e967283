use Rattle.std.proofs.Common.{◌≡◌, ◌<◌, ◌≤◌, ◌+◌, ◌∙◌, ℕ, List, None, Some, ap, arith, get_or, length, subst, sym}
use Rattle.std.proofs.lemmas.List.{get_or_read}
use Rattle.std.specs.FinMap.{get}
use Rattle.aig_cone.specs.declared.found.Found.{Found}
use Rattle.aig_cone.specs.Parts.Search.{HasMarks, definers, needs_at, place_of, with_all}
use Rattle.aig_cone.proofs.Searching.{IsSearchedTo, begun, candidates, few_found, needs_found, none_needed, searched}
use Rattle.aig_cone.proofs.search.search_all.Goals as goal
use Rattle.aig_cone.proofs.search.search_all.Goals.{in-Some+in_ok-add_needs-in-Some, in-None}

pub loop-at-init : goal.loop-at-init
loop-at-init c = record {
  marks = c.requires.marks;
  searched = begun c.args.reach c.args.circuit.now c.args.found.now.list.items c.requires.apart;
}

pub loop-at-smaller : goal.loop-at-smaller
loop-at-smaller c =
    let few : length c.loop-at.found.list.items
    ≤ length (candidates c.args.reach c.args.circuit.now c.args.found.now.list.items) =
    few_found c.loop-at.invariant.searched in
    let below : c.loop-at.at < length c.loop-at.found.list.items =
    omega (arith, c.loop-at-test.true, c.len.ensures) in
    omega (arith, few, below)

pub loop-at-preserved : goal.loop-at-preserved
loop-at-preserved c =
    let now : List ℕ = c.loop-at.found.list.items in
    let at : ℕ = c.loop-at.at in
    let below : at < length now = omega (arith, c.loop-at-test.true, c.len.ensures) in
    let is : c.index.result.now ≡ get_or now at 0 = get_or_read now at c.index.result.now below c.index.ensures 0 in
    let told : get c.args.places.now c.index.result.now ≡ place_of (definers c.args.circuit.now) (get_or now at 0) =
    c.requires.places c.index.result.now ∙ ap (place_of (definers c.args.circuit.now)) is in
    elim c.match-get.branch [
      | in-Some+in_ok-add_needs-in-Some w ↦
          let placed : place_of (definers c.args.circuit.now) (get_or now at 0) ≡ Some w.in-Some.place =
          sym told ∙ sym w.in-Some.ensures in
          let items_are : c.match-get.found.list.items
          ≡ with_all now (needs_at c.args.reach c.args.circuit.now w.in-Some.place) =
          ap (λ (f : Found). f.list.items) w.found-is ∙ w.in_ok-add_needs-in-Some.ensures.added in
          record {
            marks = subst HasMarks (sym w.found-is) w.in_ok-add_needs-in-Some.ensures.marks;
            searched = subst (λ (xs : List ℕ). IsSearchedTo c.args.reach c.args.circuit.now
                c.args.found.now.list.items xs (at + 1)) (sym items_are)
                (needs_found c.loop-at.invariant.searched below w.in-Some.place placed);
          }
      | in-None w ↦
          let nowhere : place_of (definers c.args.circuit.now) (get_or now at 0) ≡ None =
          sym told ∙ sym w.in-None.ensures in
          record {
            marks = subst HasMarks (sym w.found-is) c.loop-at.invariant.marks;
            searched = subst (λ (f : Found). IsSearchedTo c.args.reach c.args.circuit.now
                c.args.found.now.list.items f.list.items (at + 1)) (sym w.found-is)
                (none_needed c.loop-at.invariant.searched below nowhere);
          }
    ]

pub returns-clause-searched : goal.returns-clause-searched
returns-clause-searched c =
    let all : length c.loop-at.found.list.items ≤ c.loop-at.at =
    omega (arith, c.loop-at-test.false, c.len.ensures) in
    searched c.loop-at.invariant.searched c.requires.formed all
