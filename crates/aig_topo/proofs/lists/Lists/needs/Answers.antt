use Rattle.std.proofs.Common.{rules, List, sym}
use Rattle.aig_topo.specs.declared.lists.GateNode.{GateNode}
use Rattle.aig_topo.proofs.Ordering.Ranked.{here_needs}
use Rattle.aig_topo.proofs.Ordering.Rows.{as_many_needs, read_needs}
use Rattle.aig_topo.proofs.lists.Lists.needs.Goals as goal

pub returns : goal.returns
returns c =
    let rows : List GateNode = c.args.self.now.rows.items in
    sym (search (rules, here_needs, as_many_needs, read_needs))
