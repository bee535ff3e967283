use Rattle.std.proofs.Common.{refl}
use Rattle.aig_rows.specs.Rows.{latch_form, latch_of}
use Rattle.aig_arrays.proofs.Loops.{three_right, three_wrong}
use Rattle.aig_arrays.proofs.entries.LatchFromWords.read_entry.Goals as goal

pub returns-in-Some : goal.returns-in-Some
returns-in-Some c =
    rw (← c.from.view_is, c.bad_entry.ensures)
    (three_wrong latch_of latch_form c.args.bound c.args._carried c.from.inside.at c.from.inside.rest.now c.in-Some.kind
    c.in-len3-up.len_at_least refl (c.in-Some.ensures c.args._carried))

pub returns : goal.returns
returns c =
    rw (← c.from.view_is, c.reset_of.ensures)
    (three_right latch_of latch_form c.args.bound c.args._carried c.from.inside.at c.from.inside.rest.now
    c.in-len3-up.len_at_least refl (c.in_default-fault_in_latch.ensures c.args._carried))
