use Rattle.std.proofs.Common.{◌∙◌, ap, arith, sym}
use Rattle.aig_refute.specs.Lines.{reading_of}
use Rattle.aig_refute.proofs.Lines.{held_on}
use Rattle.aig_refute.proofs.reader.RefutationReader.take_held.Goals as goal

pub loop-k-preserved : goal.loop-k-preserved
loop-k-preserved c = (
  sym (ap (λ s. s.reading.held) c.in_ok-take_plain.ensures) ∙ c.loop-k.invariant.0,
  held_on (reading_of c.args.self.now) (reading_of c.loop-k.self) _ c.args.self.now.held.items c.loop-k.k
      c.index-byte.result.now (omega arith) (rw c.loop-k.invariant.0 at c.index-byte.ensures) c.loop-k.invariant.1
      c.in_ok-take_plain.ensures,
)
