use Rattle.std.proofs.Common.{rules}
use Rattle.aig_text.proofs.Kept.{header_found, no_header_found}
use Rattle.aig_text.proofs.header_line.read_header.Goals as goal

pub returns-in-Some-clause-value : goal.returns-in-Some-clause-value
returns-in-Some-clause-value c = search (rules, header_found)

pub returns-in-None-clause-value : goal.returns-in-None-clause-value
returns-in-None-clause-value c = search (rules, no_header_found)
