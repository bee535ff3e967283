use Rattle.std.proofs.Common.{◌∙◌, rules, sym, eqb-true}
use Rattle.aig_lines.proofs.Cutting.{line_some, line_none, no_lines}
use Rattle.std.proofs.lemmas.Bool.{eqb-false}
use Rattle.aig_lines.proofs.line.split_line.Goals as goal

pub returns-then-is_empty-clause-lines : goal.returns-then-is_empty-clause-lines
returns-then-is_empty-clause-lines c = no_lines _ (eqb-true _ _ (sym c.is_empty.ensures ∙ c.if-is_empty.true))

pub returns-in-Some-clause-lines : goal.returns-in-Some-clause-lines
returns-in-Some-clause-lines c =
    search (rules, line_some, c.split_at-in-Some.ensures.back, c.split_at.ensures.back, c.split_at.ensures.front)

pub returns-in-None-clause-lines : goal.returns-in-None-clause-lines
returns-in-None-clause-lines c = search (rules, eqb-false, line_none)
