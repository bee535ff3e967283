use Rattle.std.proofs.Common.{◌∙◌, ◌+◌, ◌++◌, ℕ, List, ap, arith, length}
use Rattle.aig_circuit.specs.declared.circuit.Latch.{Latch}
use Rattle.aig_rows.specs.declared.row.NextState.{NextState}
use Rattle.aig_text.specs.Parts.NextStates.{latches_by}
use Rattle.aig_text.proofs.Loops.Latches.{latches_count, latches_read}
use Rattle.aig_text.proofs.section.read_first_latches.Goals as goal

pub add_latches-requires : goal.add_latches-requires
add_latches-requires c =
    let rows = rw c.new-nexts.ensures at c.in-Ok.ensures.rows in
    let n =
    latches_count c.args.header.now.max_var c.args.due c.in-Ok.left c.args.at.now c.read_first_rows.new.at
    c.read_first_rows.new.found rows in
    omega (arith, n, c.requires.variables, c.len.ensures, ap length c.as_slice.ensures)

pub returns-clause-part : goal.returns-clause-part
returns-clause-part c =
    let h = c.args.header.now in
    let before = c.args.circuit.now in
    let rows = rw c.new-nexts.ensures at c.in-Ok.ensures.rows in
    latches_read h c.args.due c.in-Ok.left before (record before { latches = c.add_latches.new.latches })
    c.args.at.now c.read_first_rows.new.at c.read_first_rows.new.found (1 + h.inputs + c.len.result) rows
    (ap (λ (ls : List Latch). record before { latches = ls })
    (c.in_ok-add_latches.ensures
    ∙ ap (λ (ns : List NextState). before.latches ++ latches_by (1 + h.inputs + c.len.result) ns) c.as_slice.ensures))
    (ap (λ (n : ℕ). 1 + h.inputs + n) c.len.ensures)
