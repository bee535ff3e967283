-- Groups of signals, and where their characters stand.
use Rattle.std.specs.Prelude.{◌≡◌, ◌+◌, ◌-◌, ◌≤◌, ℕ, List, [], ◌∷◌, length, take, drop, true}
use Rattle.std.specs.List.{AllByRecursion}
use Rattle.aig_wave.specs.declared.bits.TheConstants.{GROUP}
use Rattle.aig_wave.specs.declared.group.Group.{Group}
use Rattle.aig_wave.specs.declared.signal.Signal.{Signal}
use Rattle.aig_wave.specs.declared.signal_code.SignalCode.{SignalCode}
use Rattle.aig_wave.specs.Parts.SignalCodes.{signal_in}

-- the characters of a group in a line
abbrev pub stretch : Group → List ℕ → List ℕ
stretch g line = take (g.end - g.start) (drop g.start line)

-- those of a signal stand among them
abbrev pub IsSignalWithin : Group → Signal → Type 0
IsSignalWithin g s = (g.start ≤ s.start) × (s.start + s.size ≤ g.end)

-- those of each signal do
abbrev pub Covers : Group → List SignalCode → Type 0
Covers g ts = AllByRecursion (λ t. IsSignalWithin g (signal_in t)) ts

-- each has one position
abbrev pub AreBits : List SignalCode → Type 0
AreBits ts = AllByRecursion (λ t. (signal_in t).size ≡ 1) ts

-- A group covers these signals. Where it is one of bits, they are few, and each has one position.
pub record IsGroup (g : Group) (ts : List SignalCode) : Type 0 where
  pub covers : Covers g ts
  pub few : g.bits ≡ true → length ts ≤ GROUP
  pub bits : g.bits ≡ true → AreBits ts

-- each group has as many signals as it counts, and there are no others
abbrev pub AreSignalGroups : List Group → List SignalCode → Type 0
AreSignalGroups [] ts = ts ≡ []
AreSignalGroups (g ∷ gs) ts = IsGroup g (take g.count ts) × AreSignalGroups gs (drop g.count ts)
