use Rattle.aig_binary.proofs.Front.{header_behind}
use Rattle.aig_binary.proofs.reader.filled_header.Goals as goal

pub returns-clause-behind : goal.returns-clause-behind
returns-clause-behind c =
    header_behind c.args.limits.max_var c.args.at.now c.header.new.at c.in_ok-promised.promised
    c.in_ok-promised.ensures.header
