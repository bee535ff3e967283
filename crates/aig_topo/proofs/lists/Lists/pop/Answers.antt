use Rattle.std.proofs.Common.{◌≡◌, ◌-◌, ◌<◌, rules, ℕ, suc, List, length, refl, sym, arith}
use Rattle.aig_topo.specs.declared.lists.GateNode.{GateNode}
use Rattle.aig_topo.specs.Lists.{Link, links_in, links_in_row, first_of}
use Rattle.aig_topo.proofs.Ordering.Lists.{nothing_there, read_next, have_less}
use Rattle.aig_topo.proofs.Ordering.Rows.{as_many_links, read_link, same_needs_in, links_then, first_read, first_there}
use Rattle.aig_topo.proofs.lists.Lists.pop.Goals as goal

pub returns-then-first-eq0-clause-none : goal.returns-then-first-eq0-clause-none
returns-then-first-eq0-clause-none c =
    nothing_there (links_in c.args.self.now.rows.items) c.args.list
    (search (rules, first_read))

pub index-requires-2 : goal.index-requires-2
index-requires-2 c =
    omega (
      arith,
      first_there c.args.self.now.rows.items c.args.list c.index.result.now c.requires.list c.index.ensures
          c.requires.lists (omega (arith, c.if-first-eq0.false)),
      c.args.self.now.rows.ok.0,
    )

pub returns : goal.returns
returns c =
    let rows : List GateNode = c.args.self.now.rows.items in
    let links : List Link = links_in rows in
    let gate : ℕ = c.index.result.now.first - 1 in
    let list_row : GateNode = c.index_mut.result.now in
    let gate_row : GateNode = c.index-2.result.now in
    let front : GateNode = record { next = list_row.next; rest = list_row.rest; first = gate_row.next } in
    let changed : Link = links_in_row front in
    let is = first_read rows c.args.list c.index.result.now c.requires.list c.index.ensures in
    let first : first_of links c.args.list ≡ suc gate = omega (arith, is, c.if-first-eq0.false) in
    let gate_in = first_there rows c.args.list c.index.result.now c.requires.list c.index.ensures c.requires.lists
    (omega (arith, c.if-first-eq0.false)) in
    let list_there : c.args.list < length links = omega (arith, c.requires.list, as_many_links rows) in
    let gate_there : gate < length links = omega (arith, gate_in, as_many_links rows) in
    let less = have_less links c.args.list gate c.requires.lists list_there first changed
    (sym (read_next links c.args.list (links_in_row list_row) list_there
    (read_link rows c.args.list list_row c.requires.list c.index_mut.ensures.value)))
    (sym (read_next links gate (links_in_row gate_row) gate_there
    (read_link rows gate gate_row gate_in c.index-2.ensures))) in
    let after = rw (← (links_then rows c.args.list front)) at less in
    record {
      lists = after.lists;
      needs = same_needs_in rows c.args.list list_row c.requires.list c.index_mut.ensures.value front refl;
      none = tt;
      same = tt;
      first = after.front;
      others = after.others;
    }
