use Rattle.std.proofs.Common.{◌≡◌, ◌&&◌, drop, flat_map}
use Rattle.aig_core.specs.Fault.{first_repeat, with_all}
use Rattle.aig_core.specs.Parts.InOrder.{are_in_order}
use Rattle.aig_core.proofs.checks.faults.define_in_order.Given as goal

abbrev pub invariant-loop-entry : goal.invariant-loop-entry
invariant-loop-entry g l =
    let variables = flat_map g.T.Entry.defined in
    let follow = are_in_order g.T.Entry.defined g.T.Entry.used in
    record {
      seen : with_all l.seen (variables (drop l.entry-index l.entries)) ≡ with_all l.fn.seen (variables l.entries);
      told : first_repeat l.seen (variables (drop l.entry-index l.entries))
          ≡ first_repeat l.fn.seen (variables l.entries);
      order : (l.in_order && follow l.seen (drop l.entry-index l.entries)) ≡ follow l.fn.seen l.entries;
    }
