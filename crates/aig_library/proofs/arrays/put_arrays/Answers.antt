use Rattle.std.proofs.Common.{◌∙◌, arith, length-append}
use Rattle.aig_arrays.specs.Words.{circuit_words}
use Rattle.aig_library.proofs.Placings.{all_words, put_behind, words_end}
use Rattle.aig_library.proofs.arrays.put_arrays.Goals as goal

pub put_words-requires-clause-room : goal.put_words-requires-clause-room
put_words-requires-clause-room c =
    let shown = c.args.shown.now in
    omega (arith, length-append (circuit_words shown.circuit) shown.numbers.items, c.requires.room.0)

pub returns-clause-words : goal.returns-clause-words
returns-clause-words c =
    let shown = c.args.shown.now in
    put_behind (circuit_words shown.circuit) shown.numbers.items c.args.words.now c.put_words.new.words
    c.copy_from_slice.new.self c.words-at.result _
    (c.words-at.ensures.value ∙ words_end shown.circuit shown.counts c.requires.counts) (omega arith)
    c.put_words.ensures (c.copy_from_slice.ensures.after ∙ c.as_slice.ensures.value)

pub slice_bounds-copy_from_slice-end : goal.slice_bounds-copy_from_slice-end
slice_bounds-copy_from_slice-end c =
    let shown = c.args.shown.now in
    omega (
      arith,
      all_words shown.circuit shown.counts c.requires.counts shown.numbers.items,
      c.requires.room.0,
      c.put_words.auto.words,
    )
