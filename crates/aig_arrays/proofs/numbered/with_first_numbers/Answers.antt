use Rattle.std.proofs.Common.{rules}
use Rattle.aig_arrays.proofs.Numbering.{first_at_front}
use Rattle.aig_arrays.proofs.numbered.with_first_numbers.Goals as goal

pub returns-clause-ok : goal.returns-clause-ok
returns-clause-ok c = search (rules, first_at_front)
