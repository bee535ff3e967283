use Rattle.std.proofs.Common.{◌≡◌, drop, flat_map}
use Rattle.aig_core.specs.Fault.{first_unknown}
use Rattle.aig_core.proofs.checks.faults.first_unknown_use.Given as goal

abbrev pub invariant-loop-entry : goal.invariant-loop-entry
invariant-loop-entry g l =
    first_unknown l.variables (flat_map g.T.Entry.used (drop l.entry-index l.entries))
    ≡ first_unknown l.variables (flat_map g.T.Entry.used l.entries)
