use Rattle.aig_dump.proofs.RunDumps.{judged_run}
use Rattle.aig_dump.proofs.witnessing.read_and_dump.Goals as goal

pub returns-in-Ok : goal.returns-in-Ok
returns-in-Ok g c = record {
  read = judged_run c.args.found _ _ (λ made. made.0) (λ made. made.1.items) c.in-Ok.bytes.items
      c.judge_and_dump-made.result c.in-Ok.ensures.ok
      (rw c.as_slice.ensures.value at c.judge_and_dump-made.ensures.ok)
      (rw c.as_slice.ensures.value at c.judge_and_dump-made.ensures.err);
}
