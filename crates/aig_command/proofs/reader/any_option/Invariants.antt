use Rattle.std.proofs.Common.{◌≡◌, drop, string_bytes}
use Rattle.std.specs.List.{list_any}
use Rattle.aig_command.specs.Answer.{is_option}
use Rattle.aig_command.proofs.reader.any_option.Given as goal

abbrev pub invariant-loop-word : goal.invariant-loop-word
invariant-loop-word l =
    list_any (λ word. is_option l.long l.short (string_bytes word)) (drop l.word-index l.words)
    ≡ list_any (λ word. is_option l.long l.short (string_bytes word)) l.words
