use Rattle.std.proofs.Common.{arith}
use Rattle.aig_text.specs.Sections.{least_header_numbers, most_header_numbers}
use Rattle.aig_text.proofs.Grammar.Headers.{header_reads, header_is_read}
use Rattle.aig_text.proofs.laws.headers_read_exactly.Goals as goal

pub returns : goal.returns
returns c =
    λ word l ns plain. (
      λ read. header_reads word l least_header_numbers most_header_numbers ns (omega arith) read.0 read.1,
      λ held. header_is_read word l least_header_numbers most_header_numbers ns (omega arith) plain held.0 held.1,
    )
