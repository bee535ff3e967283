use Rattle.std.proofs.Common.{◌<◌, ◌∙◌, ℕ, length, arith, ap, sym}
use Rattle.aig_circuit.specs.Literal.{negation_of}
use Rattle.aig_cnf.specs.Clauses.{is_true}
use Rattle.aig_refute.proofs.Marks.{consistent}
use Rattle.aig_refute.proofs.Readings.{negation_false}
use Rattle.aig_refute.proofs.kernel.Kernel.is_consistent.Goals as goal

pub returns-then-is_marked-clause-no : goal.returns-then-is_marked-clause-no
returns-then-is_marked-clause-no c = λ is a agrees.
    let self = c.args.self.now in
    let literal : ℕ = c.index.result.now in
    let inside : c.loop-k.k < length self.trail.items = omega arith in
    let marked = rw (c.deref.ensures.value, c.negation.ensures) at c.is_marked.ensures in
    negation_false a literal (self.marked (is_true a) agrees.1 (negation_of literal) (sym marked ∙ c.if-is_marked.true))
    (ap (is_true a) c.index.ensures ∙ agrees.1 c.loop-k.k literal inside)

pub returns-clause-yes : goal.returns-clause-yes
returns-clause-yes c = λ is literal known.
    let self = c.args.self.now in
    consistent self.marks.items self.trail.items self.marked
    (λ m lt. c.loop-k.invariant m (omega arith)) literal known
