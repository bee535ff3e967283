use Rattle.std.proofs.Common.{refl}
use Rattle.aig_rows.specs.Rows.{gate_form, gate_of}
use Rattle.aig_arrays.proofs.Loops.{three_right, three_wrong}
use Rattle.aig_arrays.proofs.entries.GateFromWords.read_entry.Goals as goal

pub returns-in-Some : goal.returns-in-Some
returns-in-Some c =
    rw (← c.from.view_is, c.bad_entry.ensures)
    (three_wrong gate_of gate_form c.args.bound c.args._carried c.from.inside.at c.from.inside.rest.now c.in-Some.kind
    c.in-len3-up.len_at_least refl (c.in-Some.ensures c.args._carried))

pub returns : goal.returns
returns c =
    rw (← c.from.view_is)
    (three_right gate_of gate_form c.args.bound c.args._carried c.from.inside.at c.from.inside.rest.now
    c.in-len3-up.len_at_least refl (c.in_default-fault_in_gate.ensures c.args._carried))
