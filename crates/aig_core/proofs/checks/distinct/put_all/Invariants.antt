use Rattle.std.proofs.Common.{◌≡◌, ◌++◌, ℕ, List, length, take, flat_map}
use Rattle.aig_core.specs.declared.checks.distinct.TheConstants.{PARTS}
use Rattle.aig_core.specs.Parts.Parted.{AreParts}
use Rattle.aig_core.proofs.checks.distinct.put_all.Given as goal

abbrev pub invariant-loop-entry : goal.invariant-loop-entry
invariant-loop-entry g l = record {
  many : length l.parts ≡ PARTS;
  put : (all : List ℕ) → AreParts l.fn.parts all
      → AreParts l.parts (all ++ flat_map g.T.Entry.defined (take l.entry-index l.entry-items));
}
