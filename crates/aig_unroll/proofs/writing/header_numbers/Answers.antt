use Rattle.std.proofs.Common.{rules}
use Rattle.std.proofs.lemmas.List.FromFn.{length-range_with_len}
use Rattle.aig_unroll.proofs.Ordering.Frames.{bad_length, gates_length, outputs_length}
use Rattle.aig_unroll.proofs.writing.header_numbers.Goals as goal

pub returns : goal.returns
returns c = search (rules, length-range_with_len, outputs_length, gates_length, bad_length)
