use Rattle.std.proofs.Common.{◌≡◌, ℕ, List, map}
use Rattle.std.specs.List.{AllByRecursion}
use Rattle.aig_image.specs.Parts.Numbers.{first_variables}
use Rattle.aig_image.specs.Parts.Ranked.{rank_label, HasRank}
use Rattle.aig_image.proofs.Numbering.Ranked.{named_apart, named_made}
use Rattle.aig_image.proofs.in_turn.KeptNumbers.by_ranks.Goals as goal

pub number_in_turn-requires : goal.number_in_turn-requires
number_in_turn-requires c =
    let first : List ℕ = first_variables c.args.circuit.now in
    let are : c.in-Some-2.first.ranks.items ≡ map (rank_label c.in-Some.ranks.ranks) first =
    rw c.in-Some-2.is at c.in_ok-first.ensures.ranks in
    let have : AllByRecursion (HasRank c.in-Some.ranks.ranks) first = rw c.in-Some-2.is at c.in_ok-first.ensures.all in
    rw (are, c.relabel_gates.ensures.gates)
    (named_apart c.in-Some.ranks first c.args.gates.now have
    (c.relabel_gates.ensures.all c.if-not-relabel_gates.false) c.requires)

pub returns-in-Some-3 : goal.returns-in-Some-3
returns-in-Some-3 c =
    let first : List ℕ = first_variables c.args.circuit.now in
    let are : c.in-Some-2.first.ranks.items ≡ map (rank_label c.in-Some.ranks.ranks) first =
    rw c.in-Some-2.is at c.in_ok-first.ensures.ranks in
    let have : AllByRecursion (HasRank c.in-Some.ranks.ranks) first = rw c.in-Some-2.is at c.in_ok-first.ensures.all in
    let made = rw c.in-Some-3.is at c.in_ok-numbers.ensures in
    named_made c.in-Some.ranks first c.args.gates.now have (c.relabel_gates.ensures.all c.if-not-relabel_gates.false)
    c.requires c.number_in_turn.new.gates c.in-Some-3.numbers
    (rw (are, c.relabel_gates.ensures.gates) at made)
