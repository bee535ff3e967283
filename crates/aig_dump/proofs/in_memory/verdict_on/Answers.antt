use Rattle.aig_dump.proofs.Lents.{judged, not_judged}
use Rattle.aig_dump.proofs.in_memory.verdict_on.Goals as goal

pub returns-clause-ok : goal.returns-clause-ok
returns-clause-ok c =
    judged c.args.witness.now _ c.gives_its_bytes.ensures c.args.found.now c.judge_witness-judged.result
    (rw c.in_ok-source.ensures at c.judge_witness-judged.ensures.read)

pub returns-clause-err : goal.returns-clause-err
returns-clause-err c =
    not_judged c.args.witness.now _ c.gives_its_bytes.ensures c.args.found.now c.judge_witness-judged.result
    (rw c.in_ok-source.ensures at c.judge_witness-judged.ensures.read)
