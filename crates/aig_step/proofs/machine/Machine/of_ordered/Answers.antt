use Rattle.std.proofs.Common.{rules}
use Rattle.aig_step.proofs.Running.Machines.{can_run, kept_means_the_same}
use Rattle.aig_step.proofs.machine.Machine.of_ordered.Goals as goal

pub invariant_of-result : goal.invariant_of-result
invariant_of-result c =
    rw (c.in_ok-parts.ensures, c.in-Ok.ensures, c.as_slice.ensures)
    (can_run c.args.circuit.now c.requires.formed c.requires.ordered)

pub returns : goal.returns
returns c = search (rules, kept_means_the_same)
