use Rattle.std.proofs.Common.{length, drop, min, Some, refl, arith}
use Rattle.aig_circuit.specs.Wellformed.{largest_index}
use Rattle.aig_fault.specs.declared.kind.Kind.TheVariants as kinds
use Rattle.aig_text.specs.Sections.{least_header_numbers, most_header_numbers}
use Rattle.aig_rows.specs.Scanning.{more_numbers_at}
use Rattle.aig_text.specs.Reading.{header_within, header_of}
use Rattle.aig_text.specs.Laws.{HoldsHeader}
use Rattle.aig_text.proofs.Grammar.Headers.{header_reads, header_is_read}
use Rattle.aig_rows.proofs.Steps.{by_scanner}
use Rattle.aig_text.proofs.laws.headers_are_judged.Goals as goal

pub returns : goal.returns
unfolding header_of header_within
returns c =
    λ word limit l plain. (
      λ other. rw other refl,
      λ begins. rw begins (
          by_scanner (HoldsHeader word l) (λ ns. header_within (min limit largest_index) (Some ns)) kinds.BadHeader
          (header_within (min limit largest_index))
          (more_numbers_at l.ended least_header_numbers most_header_numbers (drop (length word) l.text))
          (λ ns held.
          (header_is_read word l least_header_numbers most_header_numbers ns (omega arith) plain held.0 held.1).1)
          (λ ns read. header_reads word l least_header_numbers most_header_numbers ns (omega arith) begins read)
          (λ ns. refl) refl
          ),
    )
