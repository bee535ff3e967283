use Rattle.aig_commands.proofs.Unrolled.{unrolling_read}
use Rattle.aig_commands.proofs.unrolling.read_unrolling.Goals as goal

pub returns-clause-read : goal.returns-clause-read
returns-clause-read g c =
    unrolling_read c.args.request.now c.in_ok-found.found c.unrolled_answer.result _ _ c.unrolled_answer.ensures.text
    c.unrolled_answer.ensures.err c.in_ok-found.ensures
