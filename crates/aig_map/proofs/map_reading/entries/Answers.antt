use Rattle.std.proofs.Common.{◌+◌, rules, inr, refl}
use Rattle.aig_map.specs.MapReading.{bad_line}
use Rattle.aig_map.proofs.BlockReading.Lines.{entries_more, entries_wrong, entries_done}
use Rattle.aig_map.proofs.map_reading.entries.Goals as goal

pub returns-in-None : goal.returns-in-None
returns-in-None g c =
    let entry = g.T.BlockEntry.entry c.args.max_var c.args.count in
    let wrong = entries_wrong entry c.loop-at.at c.args.count c.args.line c.loop-at.rest.now c.loop-at.found _
    c.loop-at-test.true c.in-None.ensures c.loop-at.invariant in
    rw c.bad_line.ensures (inr (bad_line (c.args.line + c.loop-at.at), refl, wrong))

pub loop-at-preserved : goal.loop-at-preserved
loop-at-preserved g c = search (rules, entries_more)

pub returns : goal.returns
returns g c = search (rules, entries_done)
