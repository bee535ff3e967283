use Rattle.std.proofs.Common.{◌≡◌, ◌<◌, ◌-◌, ◌∙◌, rules, ℕ, List, ap, sym, subst, arith, length, get_or}
use Rattle.std.specs.List.{AllByRecursion}
use Rattle.std.proofs.lemmas.List.{get_or_default}
use Rattle.aig_topo.specs.declared.lists.GateNode.{GateNode}
use Rattle.aig_topo.specs.declared.operands.Needs.{Needs}
use Rattle.aig_topo.specs.Lists.{needs_in, needs_in_row}
use Rattle.aig_topo.specs.Needs.{linked, no_needs}
use Rattle.aig_topo.specs.Waiting.{rest_by}
use Rattle.aig_topo.proofs.Ordering.Rows.{as_many_needs, read_needs, first_there, first_is, rest_there}
use Rattle.aig_topo.proofs.lists.Lists.first_rest.Goals as goal

pub index-requires-2 : goal.index-requires-2
index-requires-2 c = search (rules, first_there)

-- what a row needs beside, as it is read
read_rest : (rows : List GateNode) (at : ℕ) (row : GateNode) → at < length rows → row ≡ get_or rows at row
    → linked row.rest ≡ rest_by rows at
read_rest rows at row there is =
    ap (λ (n : Needs). linked n.right) (read_needs rows at row there is
    ∙ get_or_default (needs_in rows) at (needs_in_row row) no_needs (omega (arith, there, as_many_needs rows)))

pub returns-clause-rest : goal.returns-clause-rest
returns-clause-rest c = λ u us are.
    let rows : List GateNode = c.args.self.now.rows.items in
    let at : ℕ = c.index.result.now.first - 1 in
    let is = first_is rows c.args.list c.index.result.now c.requires.there c.index.ensures c.requires.lists u us are in
    let there = first_there rows c.args.list c.index.result.now c.requires.there c.index.ensures c.requires.lists
    (omega (arith, is)) in
    let same : at ≡ u = omega (arith, is) in
    rw same at (read_rest rows at c.index-2.result.now there c.index-2.ensures)

pub returns-clause-there : goal.returns-clause-there
returns-clause-there c =
    let rows : List GateNode = c.args.self.now.rows.items in
    let at : ℕ = c.index.result.now.first - 1 in
    let there = first_there rows c.args.list c.index.result.now c.requires.there c.index.ensures c.requires.lists
    (omega (arith, c.if-first-eq0.false)) in
    subst (AllByRecursion (λ h. h < length rows)) (sym (read_rest rows at c.index-2.result.now there c.index-2.ensures))
    (rest_there rows c.requires.needs at)
