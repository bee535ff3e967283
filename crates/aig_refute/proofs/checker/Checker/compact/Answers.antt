use Rattle.std.proofs.Common.{refl}
use Rattle.aig_refute.proofs.Gained.{preserves_both, preserves_kernel, preserves_on}
use Rattle.aig_refute.proofs.checker.Checker.compact.Goals as goal

pub returns-in_err-insert : goal.returns-in_err-insert
returns-in_err-insert c =
    preserves_on c.args.self.now c.loop-k.self _ refl
    (preserves_both c.args.self.now _ _ (preserves_kernel c.args.self.now _ c.compact.ensures) c.loop-k.invariant)

pub returns-in_err-attach : goal.returns-in_err-attach
returns-in_err-attach c =
    preserves_both c.args.self.now _ _
    (preserves_on c.args.self.now c.loop-k.self _ refl
    (preserves_both c.args.self.now _ _ (preserves_kernel c.args.self.now _ c.compact.ensures) c.loop-k.invariant))
    c.attach.ensures

pub loop-k-preserved : goal.loop-k-preserved
loop-k-preserved c =
    preserves_both _ _ _ (preserves_on _ c.loop-k.self _ refl c.loop-k.invariant) c.attach.ensures

pub returns : goal.returns
returns c =
    preserves_both c.args.self.now _ _ (preserves_kernel c.args.self.now _ c.compact.ensures) c.loop-k.invariant
