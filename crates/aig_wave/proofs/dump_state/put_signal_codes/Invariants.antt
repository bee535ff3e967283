use Rattle.std.proofs.Common.{take}
use Rattle.aig_io.specs.Output.{Appended}
use Rattle.aig_wave.specs.Parts.SignalCodes.{changes_text}
use Rattle.aig_wave.proofs.dump_state.put_signal_codes.Given as goal

abbrev pub invariant-loop-signal_code : goal.invariant-loop-signal_code
invariant-loop-signal_code g l =
    Appended l.fn.output l.output (changes_text l.time l.before l.line (take l.signal_code-index l.signal_codes))
