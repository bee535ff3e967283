use Rattle.std.proofs.Common.{rules, append_assoc, length-set}
use Rattle.std.proofs.lemmas.List.{length-take-le, take_more_set}
use Rattle.aig_lines.proofs.Feeds.{stands}
use Rattle.aig_step.proofs.trace.write_text_column.Goals as goal

pub returns-clause-text : goal.returns-clause-text
returns-clause-text c = search (rules, length-take-le, length-set, stands, take_more_set, append_assoc)
