use Rattle.std.proofs.Common.{length}
use Rattle.aig_rows.proofs.Grammar.NumberLines.{row_reads, row_is_read}
use Rattle.aig_rows.proofs.laws.rows_read_exactly.Goals as goal

pub returns : goal.returns
returns c =
    λ form l ns met. (
      λ read. row_reads l form.least (length form.others) ns met read,
      λ held. row_is_read l form.least (length form.others) ns held.0 held.1,
    )
