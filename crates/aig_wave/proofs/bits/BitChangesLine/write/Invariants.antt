use Rattle.std.proofs.Common.{◌≡◌, ◌+◌, ◌*◌, ◌≤◌, ◌++◌, take}
use Rattle.aig_wave.specs.declared.signal_code.TheConstants.{TAIL}
use Rattle.aig_wave.specs.Parts.SignalCodes.{bits_text}
use Rattle.aig_wave.proofs.bits.BitChangesLine.write.Given as goal

abbrev pub invariant-loop-signal_code : goal.invariant-loop-signal_code
invariant-loop-signal_code l = record {
  within : l.end ≤ l.at + l.signal_code-index * (TAIL + 1);
  text : take l.end l.line
      ≡ take l.at l.fn.line ++ bits_text l.self.before.now l.self.line.now
      (take l.signal_code-index l.self.signal_codes.now);
}
