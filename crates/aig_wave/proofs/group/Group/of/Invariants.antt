use Rattle.std.proofs.Common.{◌≡◌, ◌≤◌, drop, length, true}
use Rattle.aig_wave.specs.declared.bits.TheConstants.{GROUP}
use Rattle.aig_wave.specs.declared.group.Group.{Group}
use Rattle.aig_wave.specs.Parts.Groups.{AreBits, Covers}
use Rattle.aig_wave.proofs.group.Group.of.Given as goal

-- what is no narrower, and covers the signals that are left, covers all
abbrev pub invariant-loop-signal_code : goal.invariant-loop-signal_code
invariant-loop-signal_code l = record {
  covers : (g : Group) → g.start ≤ l.group.start → l.group.end ≤ g.end
      → Covers g (drop l.signal_code-index l.signal_codes)
      → Covers g l.signal_codes;
  few : l.group.bits ≡ true → length l.signal_codes ≤ GROUP;
  bits : l.group.bits ≡ true → AreBits (drop l.signal_code-index l.signal_codes) → AreBits l.signal_codes;
}
