use Rattle.std.proofs.Common.{rules}
use Rattle.std.proofs.lemmas.Bool.{eqb-true, eqb-false}
use Rattle.aig_unroll.proofs.InFrame.{chain_begins, chain_before, gates_fit}
use Rattle.aig_unroll.proofs.frames.Frames.chain.Goals as goal
use Rattle.aig_unroll.proofs.frames.Frames.chain.Goals.{then-self-eq0, else-self-eq0}

pub overflow_mul-result : goal.overflow_mul-result
overflow_mul-result c = search (rules, gates_fit)

pub returns-then-is_empty : goal.returns-then-is_empty
returns-then-is_empty c = search (rules, eqb-true, chain_begins)

pub returns-else-is_empty : goal.returns-else-is_empty
returns-else-is_empty c = search (rules, eqb-false, chain_before)
