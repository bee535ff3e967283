use Rattle.std.proofs.Common.{◌≡◌, ◌+◌, ◌-◌}
use Rattle.aig_map.specs.MapReading.{entries_at}
use Rattle.aig_map.proofs.BlockReading.Lines.{behind_found}
use Rattle.aig_map.proofs.map_reading.entries.Given as goal

abbrev pub invariant-loop-at : goal.invariant-loop-at
invariant-loop-at g l =
    let entry = g.T.BlockEntry.entry l.max_var l.count in
    behind_found l.found (entries_at entry (l.line + l.at) (l.count - l.at) l.rest)
    ≡ entries_at entry l.line l.count l.bytes
