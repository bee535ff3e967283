use Rattle.std.proofs.Common.{refl}
use Rattle.aig_rows.specs.Rows.{size_form, size_of}
use Rattle.aig_arrays.proofs.Loops.{one_right, one_wrong}
use Rattle.aig_arrays.proofs.entries.U32FromWords.read_entry.Goals as goal

pub returns-in-Some : goal.returns-in-Some
returns-in-Some c =
    rw (← c.from.view_is, c.bad_entry.ensures)
    (one_wrong size_of size_form c.args.bound c.args.carried c.from.inside.at c.from.inside.rest.now c.in-Some.kind
    c.in-len1-up.len_at_least refl c.in-Some.ensures)

pub returns : goal.returns
returns c =
    rw (← c.from.view_is)
    (one_right size_of size_form c.args.bound c.args.carried c.from.inside.at c.from.inside.rest.now
    c.in-len1-up.len_at_least refl c.in_default-fault_in_size.ensures)
