use Rattle.std.proofs.Common.{sym, subst, ℕ, List, Bool}
use Rattle.aig_refute.specs.Store.{AreTrue, Holds}
use Rattle.aig_refute.proofs.Marks.{trues}
use Rattle.aig_refute.proofs.kernel.Kernel.read_watched.Goals as goal

pub returns-clause-last : goal.returns-clause-last
returns-clause-last c = λ other is a agrees.
    let self = c.args.self.now in
    let holds : Holds a c.deref.result.now = subst (λ (w : List ℕ). Holds a w) (sym c.deref.ensures.value) agrees.0 in
    let known : AreTrue a c.deref-2.result.now = subst (λ (m : List Bool). AreTrue a m) (sym c.deref-2.ensures.value)
    (trues a self.marks.items self.trail.items self.marked agrees.1) in
    c.read_watched.ensures.last other is a holds known
