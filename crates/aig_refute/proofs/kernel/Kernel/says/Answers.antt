use Rattle.std.proofs.Common.{◌∙◌, refl, sym, subst, ℕ, List, Bool}
use Rattle.aig_refute.specs.Store.{AreTrue, Holds}
use Rattle.aig_refute.specs.Agree.{known_by}
use Rattle.aig_refute.proofs.Marks.{trues}
use Rattle.aig_refute.proofs.Resting.{rests_one}
use Rattle.aig_refute.proofs.kernel.Kernel.says.Goals as goal

pub returns-in-Conflict-clause-conflict : goal.returns-in-Conflict-clause-conflict
returns-in-Conflict-clause-conflict c = λ is a agrees.
    let self = c.args.self.now in
    let holds : Holds a c.deref.result.now = subst (λ (w : List ℕ). Holds a w) (sym c.deref.ensures.value) agrees.0 in
    let known : AreTrue a c.deref-2.result.now = subst (λ (m : List Bool). AreTrue a m) (sym c.deref-2.ensures.value)
    (trues a self.marks.items self.trail.items self.marked agrees.1) in
    c.in-Conflict.ensures.conflict refl a holds known

pub returns-then-is_marked-clause-rests : goal.returns-then-is_marked-clause-rests
returns-then-is_marked-clause-rests c = λ is e clause.
    let self = c.args.self.now in
    let left = rw (c.deref.ensures.value, c.deref-2.ensures.value) at c.in-Unit.ensures.left in
    let marked = rw c.deref-in-Unit.ensures.value at c.is_marked.ensures in
    rests_one (known_by self) self.store.words.items e c.in-Unit.literal (left c.in-Unit.literal refl e clause)
    (sym marked ∙ c.if-is_marked.true)

pub returns-else-is_marked-clause-unit : goal.returns-else-is_marked-clause-unit
returns-else-is_marked-clause-unit c = λ literal is a agrees.
    let self = c.args.self.now in
    let holds : Holds a c.deref.result.now = subst (λ (w : List ℕ). Holds a w) (sym c.deref.ensures.value) agrees.0 in
    let known : AreTrue a c.deref-2.result.now = subst (λ (m : List Bool). AreTrue a m) (sym c.deref-2.ensures.value)
    (trues a self.marks.items self.trail.items self.marked agrees.1) in
    c.in-Unit.ensures.unit literal is a holds known
