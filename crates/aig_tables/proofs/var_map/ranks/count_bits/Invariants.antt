use Rattle.std.proofs.Common.{◌*◌, ◌≤◌}
use Rattle.aig_tables.specs.Parts.Ranks.{IsRanking}
use Rattle.aig_tables.proofs.var_map.ranks.count_bits.Given as goal

abbrev pub invariant-loop-word : goal.invariant-loop-word
invariant-loop-word l = IsRanking l.words l.word-index l.before × (l.before ≤ 32 * l.word-index)
