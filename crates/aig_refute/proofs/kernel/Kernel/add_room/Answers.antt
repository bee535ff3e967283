use Rattle.std.proofs.Common.{◌∙◌, sym}
use Rattle.aig_refute.proofs.kernel.Kernel.add_room.Goals as goal

pub invariant_of-self : goal.invariant_of-self
invariant_of-self c = record {
  marked = λ p all literal h. c.args.self.now.marked p all literal (sym (c.push_unmarked.ensures literal) ∙ h);
}
