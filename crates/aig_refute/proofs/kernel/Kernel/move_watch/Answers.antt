use Rattle.std.proofs.Common.{refl}
use Rattle.aig_refute.proofs.Later.{grows_words}
use Rattle.aig_refute.proofs.kernel.Kernel.move_watch.Goals as goal

pub returns : goal.returns
returns c =
    grows_words c.args.self.now _ c.move_watch.ensures.holds c.move_watch.ensures.stored c.move_watch.ensures.base refl refl
