use Rattle.std.proofs.Common.{rules}
use Rattle.aig_arrays.proofs.Placing.{both_at_front}
use Rattle.aig_arrays.proofs.put.put_words.Goals as goal

pub returns : goal.returns
returns c = search (rules, both_at_front)
