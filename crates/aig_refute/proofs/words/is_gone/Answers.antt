use Rattle.std.proofs.Common.{rules, arith}
use Rattle.aig_refute.proofs.Stored.{gone_always}
use Rattle.aig_refute.proofs.words.is_gone.Goals as goal

pub returns : goal.returns
returns c = λ gone is clause stands.
    gone_always c.args.words.now c.args.at c.args.end is (omega arith) (search rules) clause stands
