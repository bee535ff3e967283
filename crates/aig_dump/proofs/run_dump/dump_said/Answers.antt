use Rattle.std.proofs.Common.{◌∙◌, sym}
use Rattle.aig_dump.proofs.RunDumps.{lacks_mark, marked_shown, plain_shown}
use Rattle.aig_dump.proofs.RunTexts.{run_texts}
use Rattle.aig_dump.proofs.run_dump.dump_said.Goals as goal

pub returns-in-Some-clause-ok : goal.returns-in-Some-clause-ok
returns-in-Some-clause-ok c = λ claim witness is says.
    marked_shown c.dump_lasso.result (λ run. run.items) c.args.found claim c.args.verdict c.in-Some.start
    (sym c.loop_start.ensures ∙ c.in-Some.is)
    (c.dump_lasso.ensures.ok claim
    (run_texts c.args.found claim c.args.verdict witness c.args.said.now _ _ is says c.state_and_steps.ensures))

pub returns-in-Some-clause-err : goal.returns-in-Some-clause-err
returns-in-Some-clause-err c =
    lacks_mark c.dump_lasso.result c.args.found c.args.verdict c.in-Some.start
    (sym c.loop_start.ensures ∙ c.in-Some.is) c.dump_lasso.ensures.err

pub returns-in_ok-dump_from-in-None-clause-ok : goal.returns-in_ok-dump_from-in-None-clause-ok
returns-in_ok-dump_from-in-None-clause-ok c = λ claim witness is says.
    plain_shown c.args.found claim c.args.verdict _ (sym c.loop_start.ensures ∙ c.in-None.is)
    (c.in_ok-dump_from-in-None.ensures claim
    (run_texts c.args.found claim c.args.verdict witness c.args.said.now _ _ is says c.state_and_steps.ensures))
