use Rattle.std.proofs.Common.{◌∙◌, ℕ, List, ap, map}
use Rattle.aig_circuit.specs.Literal.{variable_of}
use Rattle.aig_cone.specs.Parts.Search.{with_all}
use Rattle.aig_cone.proofs.Searching.{cone_is, given_apart}
use Rattle.aig_cone.proofs.search.cone_of.Goals as goal

pub search_all-requires-clause-apart : goal.search_all-requires-clause-apart
search_all-requires-clause-apart c =
    given_apart c.add_given.new.found.list.items c.args.literals.now
    (c.in_ok-add_given.ensures.added
    ∙ ap (λ (xs : List ℕ). with_all xs (map variable_of c.args.literals.now)) c.in_ok-found.ensures.none)

pub returns : goal.returns
returns c =
    cone_is c.args.reach c.args.circuit.now c.args.literals.now c.add_given.new.found.list.items
    c.search_all.new.found.list.items c.search_all.new.found.marks
    (c.in_ok-add_given.ensures.added
    ∙ ap (λ (xs : List ℕ). with_all xs (map variable_of c.args.literals.now)) c.in_ok-found.ensures.none)
    c.in_ok-search_all.ensures.marks c.in_ok-search_all.ensures.searched
