use Rattle.std.proofs.Common.{drop}
use Rattle.std.specs.List.{AllByRecursion}
use Rattle.aig_io.specs.Output.{Appended}
use Rattle.aig_wave.specs.Parts.Groups.{AreSignalGroups}
use Rattle.aig_wave.specs.Parts.SignalCodes.{IsSignalCode, changes_text}
use Rattle.aig_wave.proofs.dump_state.put_changes.Given as goal

-- the signals that are left make the text of all
abbrev pub invariant-loop-group : goal.invariant-loop-group
invariant-loop-group g l = record {
  groups : AreSignalGroups (drop l.group-index l.groups) l.rest;
  signal_codes : AllByRecursion IsSignalCode l.rest;
  left : (o : _) → Appended l.output o (changes_text l.time l.before l.line l.rest)
      → Appended l.fn.output o (changes_text l.time l.before l.line l.signal_codes);
}
