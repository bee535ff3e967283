use Rattle.aig_refute.proofs.Made.{all_made}
use Rattle.aig_refute.proofs.kernel.Kernel.resolvents.Goals as goal

pub returns : goal.returns
returns c = λ joined is a none all agrees.
    let apart = rw c.negation.ensures at (c.is_among_known.ensures c.if-is_among_known.false) in (
      c.resolvents.ensures joined is a none all agrees.0,
      all_made c.args.pivot a c.args.self.now.trail.items apart agrees.1,
      agrees.2,
    )
