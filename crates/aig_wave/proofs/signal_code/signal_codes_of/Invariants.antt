use Rattle.std.proofs.Common.{◌≡◌, map, take}
use Rattle.std.specs.List.{AllByRecursion}
use Rattle.aig_wave.specs.Parts.SignalCodes.{IsSignalCode, signal_in}
use Rattle.aig_wave.proofs.signal_code.signal_codes_of.Given as goal

abbrev pub invariant-loop-signal : goal.invariant-loop-signal
invariant-loop-signal l = record {
  signals : map signal_in l.signal_codes.items ≡ take l.signal-index l.signals;
  signal_codes : AllByRecursion IsSignalCode l.signal_codes.items;
}
