use Rattle.std.proofs.Common.{length, refl}
use Rattle.aig_fault.specs.declared.kind.Kind.TheVariants as kinds
use Rattle.aig_rows.specs.Scanning.{numbers_at}
use Rattle.aig_rows.specs.Reading.{checked_row, row_of, unless_wrong, fault_in_row}
use Rattle.aig_rows.specs.Laws.{HoldsRow}
use Rattle.aig_rows.proofs.Grammar.NumberLines.{row_reads, row_is_read}
use Rattle.aig_rows.proofs.Steps.{by_scanner}
use Rattle.aig_rows.proofs.laws.rows_are_judged.Goals as goal

pub returns : goal.returns
unfolding row_of checked_row
returns c =
    λ form bound carried l met. by_scanner (HoldsRow form l)
    (λ ns. unless_wrong ns (fault_in_row form bound carried ns)) kinds.BadLine (checked_row form bound carried)
    (numbers_at l.ended form.least (length form.others) l.text)
    (λ ns held. row_is_read l form.least (length form.others) ns held.0 held.1)
    (λ ns read. row_reads l form.least (length form.others) ns met read) (λ ns. refl) refl
