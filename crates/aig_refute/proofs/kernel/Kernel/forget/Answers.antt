use Rattle.std.proofs.Common.{◌≡◌, List, Bool, arith, length}
use Rattle.aig_refute.proofs.Marks.{marked_before}
use Rattle.aig_refute.proofs.Spans.{all_written}
use Rattle.aig_refute.proofs.kernel.Kernel.forget.Goals as goal

pub invariant_of-self : goal.invariant_of-self
invariant_of-self c =
    let self = c.args.self.now in
    let new : List Bool = c.unmark.new.marks in
    let len : self.marks.len ≡ length new = omega (arith, c.unmark.auto, c.deref_mut.ensures.len) in
    let gone = rw c.deref.ensures.value at c.unmark.ensures.gone in
    let others = rw c.deref_mut.ensures.value at c.unmark.ensures.others in
    record {
      marked = rw (all_written new self.marks.items self.marks.len len, c.truncate.ensures.items)
          (marked_before self.marks.items new self.trail.items c.args.base self.marked gone others);
    }
