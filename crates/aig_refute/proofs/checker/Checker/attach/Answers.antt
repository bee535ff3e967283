use Rattle.std.proofs.Common.{◌∙◌, subst, sym}
use Rattle.aig_refute.specs.Agree.{Grows}
use Rattle.aig_refute.specs.declared.kernel.Kernel.{Kernel}
use Rattle.aig_refute.proofs.Gained.{preserves_kernel, preserves_refuted}
use Rattle.aig_refute.proofs.Later.{grows_both}
use Rattle.aig_refute.proofs.checker.Checker.attach.Goals as goal

pub returns-in_err-watch : goal.returns-in_err-watch
returns-in_err-watch c =
    preserves_kernel c.args.self.now _ (subst (λ (k : Kernel). Grows c.args.self.now.propagation.kernel k)
    (sym c.watch.ensures) c.arrange.ensures)

pub returns-in_err-watch-2 : goal.returns-in_err-watch-2
returns-in_err-watch-2 c =
    preserves_kernel c.args.self.now _ (subst (λ (k : Kernel). Grows c.args.self.now.propagation.kernel k)
    (sym (c.watch-in-Some.ensures ∙ c.watch.ensures)) c.arrange.ensures)

pub returns-in-Some : goal.returns-in-Some
returns-in-Some c =
    preserves_kernel c.args.self.now _ (subst (λ (k : Kernel). Grows c.args.self.now.propagation.kernel k)
    (sym (c.watch-in-Some.ensures ∙ c.watch.ensures)) c.arrange.ensures)

pub returns-in_err-is_refuted : goal.returns-in_err-is_refuted
returns-in_err-is_refuted c =
    preserves_kernel c.args.self.now _ (grows_both _ _ _ c.arrange.ensures c.follow.ensures.grows)

pub returns-then-is_refuted : goal.returns-then-is_refuted
returns-then-is_refuted c =
    preserves_refuted c.args.self.now _ c.follow.new.self.kernel
    (grows_both _ _ _ c.arrange.ensures c.follow.ensures.grows) c.refute.ensures
    (λ a agrees. c.in_ok-is_refuted.ensures.conflict c.if-is_refuted.true a (c.arrange.ensures.agrees a agrees))

pub returns-else-is_refuted : goal.returns-else-is_refuted
returns-else-is_refuted c =
    preserves_kernel c.args.self.now _ (grows_both _ _ _ c.arrange.ensures c.follow.ensures.grows)
