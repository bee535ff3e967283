use Rattle.std.proofs.Common.{get_or, rules, arith}
use Rattle.std.proofs.lemmas.Nat.{ones-le}
use Rattle.aig_tables.proofs.Tables.Ranks.{one_more_word}
use Rattle.aig_tables.proofs.var_map.ranks.count_bits.Goals as goal

pub loop-word-preserved : goal.loop-word-preserved
loop-word-preserved c =
    let words = c.loop-word.words in
    let i = c.loop-word.word-index in
    let word = get_or words i (record { bits = 0; before = 0 }) in
    let few = ones-le 32 word.bits (search rules) in (
      one_more_word words i c.loop-word.before word.bits (search rules) c.loop-word.invariant.0,
      omega (arith, few, c.loop-word.invariant.1),
    )
