use Rattle.std.proofs.Common.{arith}
use Rattle.aig_library.proofs.Placings.{all_words}
use Rattle.aig_library.proofs.arrays.length_of_words.Goals as goal

pub returns : goal.returns
returns c =
    let shown = c.args.shown.now in
    omega (arith, all_words shown.circuit shown.counts c.requires shown.numbers.items)
