use Rattle.aig_claims.specs.LoopMark.{marked}
use Rattle.aig_dump.proofs.RunTexts.{marked_texts}
use Rattle.aig_dump.proofs.run_dump.dump_lasso.Goals as goal

pub returns-in_ok-made-in-Ok-clause-ok : goal.returns-in_ok-made-in-Ok-clause-ok
returns-in_ok-made-in-Ok-clause-ok c = λ claim text.
    let made = marked_texts c.args.found claim c.args.start c.args.first.now c.args.steps.now c.in-Ok.steps.items text
    c.in-Ok.ensures in
    (rw (c.in_ok-marked.ensures.ok, c.as_slice.ensures.value) at c.in_ok-made-in-Ok.ensures)
    (marked c.args.start claim) made
