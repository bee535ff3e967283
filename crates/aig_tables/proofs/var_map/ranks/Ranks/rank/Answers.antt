use Rattle.std.proofs.Common.{◌-◌, ◌+◌, ◌%◌, ◌/◌, ◌^◌, ◌∙◌, ap, arith, count_ones}
use Rattle.std.specs.Int.Bits.{bit_and}
use Rattle.std.proofs.lemmas.List.{get_or_read}
use Rattle.std.proofs.lemmas.Nat.{one_shl, and_mask}
use Rattle.aig_tables.specs.declared.var_map.ranks.Word.{Word}
use Rattle.aig_tables.proofs.Tables.Ranks.{has_word}
use Rattle.aig_tables.proofs.var_map.ranks.Ranks.rank.Goals as goal

pub returns : goal.returns
returns c =
    let word = c.index-word.result.now in
    let k = c.args.index % 32 in
    ap (λ m. word.before + count_ones (bit_and word.bits (m - 1))) (one_shl k 32 (omega arith))
    ∙ ap (λ b. word.before + count_ones b) (and_mask word.bits k)
    ∙ ap (λ (w : Word). w.before + count_ones (w.bits % 2 ^ k))
    (get_or_read c.args.self.now.words.items (c.args.index / 32) word
    (has_word c.args.self.now.words.items c.args.self.now.count c.args.self.now.ranking c.args.index c.requires)
    c.index-word.ensures _)
