-- Signals, each with the text that ends its changes.
use Rattle.std.specs.Prelude.{◌≡◌, ◌<◌, ◌≤◌, ◌==◌, ◌++◌, ℕ, List, [], ◌∷◌, codes, get_or, take, if◌then◌else◌}
use Rattle.std.specs.List.{AllByRecursion, flat_map}
use Rattle.aig_wave.specs.declared.signal.Signal.{Signal}
use Rattle.aig_wave.specs.declared.signal_code.SignalCode.{SignalCode}
use Rattle.aig_wave.specs.declared.signal_code.TheConstants.{TAIL}
use Rattle.aig_wave.specs.Frames.{frame}
use Rattle.aig_wave.specs.Head.{code}
use Rattle.aig_wave.specs.Wave.{change_text}

abbrev pub signal_in : SignalCode → Signal
signal_in t = t.signal

-- what ends a change
abbrev pub change_tail : Signal → List ℕ
change_tail s = code s ++ codes "\n"

-- it has that text
pub record IsSignalCode (t : SignalCode) : Type 0 where
  pub short : t.size ≤ TAIL
  pub text : take t.size t.tail ≡ change_tail (signal_in t)

-- the changes of signals, a line after another
abbrev pub changes_text : ℕ → List ℕ → List ℕ → List SignalCode → List ℕ
changes_text time before line ts = flat_map (λ t. change_text time (frame 0 before) (frame 0 line) (signal_in t)) ts

-- the change of a signal of one position that has this character, after another
abbrev pub bit_text : ℕ → ℕ → Signal → List ℕ
bit_text before bit s = if before == bit then [] else bit ∷ change_tail s

-- where the character of such a signal stands
abbrev pub place_of : SignalCode → ℕ
place_of t = (signal_in t).start

-- the changes of such signals
abbrev pub bits_text : List ℕ → List ℕ → List SignalCode → List ℕ
bits_text before line ts =
    flat_map (λ t. bit_text (get_or before (place_of t) 0) (get_or line (place_of t) 0) (signal_in t)) ts

-- they stand in a line of so many characters
abbrev pub AreIn : ℕ → List SignalCode → Type 0
AreIn n ts = AllByRecursion (λ t. place_of t < n) ts
