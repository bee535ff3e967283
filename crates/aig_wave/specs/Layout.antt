-- What a dump shows of a circuit, whatever its trace is.
use Rattle.std.specs.Prelude.{ℕ, List}
use Rattle.std.specs.List.{flat_map}
use Rattle.aig_circuit.specs.declared.circuit.Circuit.{Circuit}
use Rattle.aig_meaning.specs.Trace.{reset_state}
use Rattle.aig_step.specs.TraceText.{values_text}
use Rattle.aig_wave.specs.declared.signal.Signal.{Signal}
use Rattle.aig_wave.specs.Head.{head}
use Rattle.aig_wave.specs.Places.{kinds, next_place, width}
use Rattle.aig_wave.specs.Signals.{signals_of}

-- the head, the signals, the characters of the reset state, where in the line of a step those of the next state begin,
-- and how long that line is
pub record Layout : Type 0 where
  pub head : List ℕ
  pub signals : List Signal
  pub resets : List ℕ
  pub next : ℕ
  pub width : ℕ

abbrev pub layout_of : Circuit → Layout
layout_of c = record {
  head = head c;
  signals = flat_map (signals_of c) kinds;
  resets = values_text (reset_state c);
  next = next_place c;
  width = width c;
}
