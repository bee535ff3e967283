use Rattle.std.proofs.Common.{rules}
use Rattle.aig_rows.proofs.Kept.Numbers.{digits_end}
use Rattle.aig_rows.proofs.number.leading_digits.Goals as goal

pub returns-then-not-is_ascii_digit-clause-count : goal.returns-then-not-is_ascii_digit-clause-count
returns-then-not-is_ascii_digit-clause-count c = search (rules, digits_end)

pub returns-then-not-is_ascii_digit-clause-value : goal.returns-then-not-is_ascii_digit-clause-value
returns-then-not-is_ascii_digit-clause-value c = search (rules, returns-then-not-is_ascii_digit-clause-count)

pub returns-clause-count : goal.returns-clause-count
returns-clause-count c = search (rules, digits_end)

pub returns-clause-value : goal.returns-clause-value
returns-clause-value c = search (rules, digits_end)
