use Rattle.std.proofs.Common.{refl}
use Rattle.aig_refute.proofs.Later.{grows_words}
use Rattle.aig_refute.proofs.kernel.Kernel.swap.Goals as goal

pub returns-clause-grows : goal.returns-clause-grows
returns-clause-grows c =
    grows_words c.args.self.now _ c.swap.ensures.holds c.swap.ensures.stored c.swap.ensures.base refl refl
