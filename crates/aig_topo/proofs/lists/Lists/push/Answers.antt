use Rattle.std.proofs.Common.{◌≡◌, ◌<◌, ◌∙◌, ◌+◌, rules, List, ap, sym, subst, arith, length, get_or, refl, length-set}
use Rattle.std.proofs.Math.ListN.{set as put}
use Rattle.aig_topo.specs.declared.lists.GateNode.{GateNode}
use Rattle.aig_topo.specs.Lists.{Link, needs_in, links_in, links_in_row}
use Rattle.aig_topo.proofs.Ordering.Lists.{read_first, read_next, have_more, HaveMore}
use Rattle.aig_topo.proofs.Ordering.Rows.{as_many_links, read_link, first_read, same_needs_in, needs_then, links_then}
use Rattle.aig_topo.proofs.lists.Lists.push.Goals as goal

pub returns : goal.returns
returns c =
    let rows : List GateNode = c.args.self.now.rows.items in
    let links : List Link = links_in rows in
    let first_row : GateNode = c.index.result.now in
    let gate_row : GateNode = c.index_mut-row.result.now in
    let list_row : GateNode = c.index_mut.result.now in
    let changed : GateNode = record { next = first_row.first; rest = c.args.rest; first = gate_row.first } in
    let behind : Link = links_in_row changed in
    let front : GateNode = record { next = list_row.next; rest = list_row.rest; first = c.args.gate + 1 } in
    let before : Link = links_in_row front in
    let one : List GateNode = put rows c.args.gate changed in
    let links_one : links_in one ≡ put links c.args.gate behind = links_then rows c.args.gate changed in
    let there : c.args.list < length one =
    omega (arith, c.requires.list, length-set rows c.args.gate changed) in
    let list_link : links_in_row list_row ≡ get_or (put links c.args.gate behind) c.args.list (links_in_row list_row) =
    search (rules, read_link) in
    let list_there : c.args.list < length links = omega (arith, c.requires.list, as_many_links rows) in
    let gate_there : c.args.gate < length links = omega (arith, c.requires.gate, as_many_links rows) in
    let still_there : c.args.list < length (put links c.args.gate behind) =
    omega (arith, list_there, length-set links c.args.gate behind) in
    let is = first_read rows c.args.list first_row c.requires.list c.index.ensures in
    let more = have_more links c.args.list c.args.gate c.requires.lists list_there gate_there c.requires.nowhere
    behind before (sym is)
    (sym (read_first links c.args.gate (links_in_row gate_row) gate_there
    (read_link rows c.args.gate gate_row c.requires.gate c.index_mut-row.ensures.value)))
    (omega arith)
    (sym (read_next (put links c.args.gate behind) c.args.list (links_in_row list_row) still_there list_link)) in
    let after = subst (λ ls. HaveMore links ls c.args.list c.args.gate)
    (sym (links_then one c.args.list front ∙ ap (λ ls. put ls c.args.list before) links_one)) more in record {
      lists = after.lists;
      needs = same_needs_in one c.args.list list_row there c.index_mut.ensures.value front refl
          ∙ needs_then rows c.args.gate changed
          ∙ ap (λ first. put (needs_in rows) c.args.gate (record { left = first; right = c.args.rest })) (sym is);
      pushed = after.front;
      others = after.others;
    }
