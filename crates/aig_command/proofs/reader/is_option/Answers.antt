use Rattle.std.proofs.Common.{◌≡◌, ◌∙◌, ◌||◌, ap, rules, sym, nat_eq, bytes_eq}
use Rattle.std.specs.List.{starts_with}
use Rattle.std.proofs.lemmas.Str.Pattern.{starts_text}
use Rattle.aig_command.proofs.reader.is_option.Goals as goal

pub returns-else-eq : goal.returns-else-eq
returns-else-eq c =
    let begins = starts_text c.starts_with.result c.args.short.now c.args.word.now c.starts_with.ensures.cases in
    let other : bytes_eq c.args.word.now c.args.long.now ≡ c.eq.result = search rules in
    begins ∙ sym (ap (λ b. b || starts_with nat_eq c.args.word.now c.args.short.now) (other ∙ c.if-eq.false))
