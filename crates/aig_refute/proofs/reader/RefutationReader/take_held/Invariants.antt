use Rattle.std.proofs.Common.{◌≡◌, drop, fold}
use Rattle.aig_refute.specs.Lines.{after, reading_of}
use Rattle.aig_refute.proofs.reader.RefutationReader.take_held.Given as goal

-- what is left of the bytes leads where all lead
abbrev pub invariant-loop-k : goal.invariant-loop-k
invariant-loop-k l = (l.self.held.items ≡ l.initial.self.held.items)
    × (fold after (reading_of l.self) (drop l.k l.initial.self.held.items)
    ≡ fold after (reading_of l.initial.self) l.initial.self.held.items)
