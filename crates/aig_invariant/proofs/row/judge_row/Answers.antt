use Rattle.std.proofs.Common.{◌≡◌, ◌≢◌, false, length, map, rules, true}
use Rattle.std.proofs.lemmas.List.{length-map}
use Rattle.aig_circuit.specs.declared.circuit.Latch.{Latch}
use Rattle.aig_invariant.specs.Invariant.{is_off_start}
use Rattle.aig_invariant.specs.Parts.Rows.{cube_at, is_row, row_of}
use Rattle.aig_invariant.proofs.Judging.{says_bad, says_off, says_other}
use Rattle.aig_invariant.proofs.row.judge_row.Goals as goal

pub returns-then-not-is_row-clause-err : goal.returns-then-not-is_row-clause-err
returns-then-not-is_row-clause-err c =
    let no : is_row c.args.text.now ≡ false = search rules in
    rw c.fault_in.ensures (says_bad _ _ c.args.text.now no)

pub returns-then-row-latches-clause-err : goal.returns-then-row-latches-clause-err
returns-then-row-latches-clause-err c =
    let is : is_row c.args.text.now ≡ true = search rules in
    let resets = map (λ (l : Latch). l.reset) c.args.latches.now in
    let apart : length (row_of c.args.text.now) ≢ length resets =
    search (rules, length-map c.args.latches.now (λ (l : Latch). l.reset), c.row_of-row.ensures) in
    rw c.fault_in-then-row-latches.ensures (says_other resets _ c.args.text.now is apart)

pub returns-then-not-is_off_start-clause-err : goal.returns-then-not-is_off_start-clause-err
returns-then-not-is_off_start-clause-err c =
    let is : is_row c.args.text.now ≡ true = search rules in
    let resets = map (λ (l : Latch). l.reset) c.args.latches.now in
    let same : length (row_of c.args.text.now) ≡ length resets =
    search (rules, length-map c.args.latches.now (λ (l : Latch). l.reset), c.row_of-row.ensures) in
    let met : false ≡ is_off_start resets (cube_at c.args.text.now) = search (rules, c.row_of-row.ensures) in
    rw c.fault_in-then-not-is_off_start.ensures (says_off resets _ c.args.text.now false is same met)

pub returns-clause-ok : goal.returns-clause-ok
returns-clause-ok c =
    let is : is_row c.args.text.now ≡ true = search rules in
    let resets = map (λ (l : Latch). l.reset) c.args.latches.now in
    let same : length (row_of c.args.text.now) ≡ length resets =
    search (rules, length-map c.args.latches.now (λ (l : Latch). l.reset), c.row_of-row.ensures) in
    let off : true ≡ is_off_start resets (cube_at c.args.text.now) = search (rules, c.row_of-row.ensures) in
    says_off resets _ c.args.text.now true is same off
