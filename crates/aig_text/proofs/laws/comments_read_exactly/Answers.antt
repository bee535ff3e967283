use Rattle.aig_text.proofs.Grammar.Symbols.{comment_reads, comment_is_read}
use Rattle.aig_text.proofs.laws.comments_read_exactly.Goals as goal

pub returns : goal.returns
returns c = λ l. (comment_reads l, comment_is_read l)
