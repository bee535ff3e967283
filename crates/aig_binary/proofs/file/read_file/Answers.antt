use Rattle.std.proofs.Common.{◌∙◌, sym, ⊎_elim}
use Rattle.aig_text.specs.AsciiGrammar.{IsAsciiText}
use Rattle.aig_binary.specs.BinaryGrammar.{IsBinaryText}
use Rattle.aig_binary.proofs.Files.{no_binary_file}
use Rattle.aig_binary.proofs.file.read_file.Goals as goal

pub returns-else-first_word_is-clause-only : goal.returns-else-first_word_is-clause-only
returns-else-first_word_is-clause-only c = λ d is.
    ⊎_elim (λ (a : IsAsciiText c.args.bytes.now c.args.limits.max_var d). c.read_ascii.ensures.only d a)
    (λ (b : IsBinaryText c.args.bytes.now c.args.limits.max_var d).
    absurd (no_binary_file c.args.bytes.now c.args.limits.max_var d
    (sym c.first_word_is.ensures ∙ c.if-first_word_is.false) b))
    is
