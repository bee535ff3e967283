use Rattle.std.proofs.Common.{◌∙◌, rules}
use Rattle.std.proofs.lemmas.Bool.{not-true, not-false}
use Rattle.aig_text.proofs.Kept.{no_symbol, symbol_far, symbol_twice, symbol_right}
use Rattle.aig_text.proofs.tail_lines.read_symbol.Goals as goal

pub returns-in_default-clause-symbol : goal.returns-in_default-clause-symbol
returns-in_default-clause-symbol c = search (rules, no_symbol)

pub returns-then-from-found-clause-symbol : goal.returns-then-from-found-clause-symbol
returns-then-from-found-clause-symbol c = search (rules, symbol_far)

pub returns-then-not-branch-clause-symbol : goal.returns-then-not-branch-clause-symbol
returns-then-not-branch-clause-symbol c =
    let count = c.from.ensures ∙ c.count_named.ensures in search (rules, symbol_twice, not-false)

pub returns-clause-symbol : goal.returns-clause-symbol
returns-clause-symbol c =
    let count = c.from.ensures ∙ c.count_named.ensures in search (rules, symbol_right, not-true)
