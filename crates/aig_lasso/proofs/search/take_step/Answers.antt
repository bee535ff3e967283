use Rattle.std.proofs.Common.{◌∙◌, ap, refl, subst, sym}
use Rattle.aig_step.specs.Parts.Stepping.{Stepping, in_next_state}
use Rattle.aig_lasso.specs.Parts.Searching.{TookRow}
use Rattle.aig_lasso.proofs.Steps.{says_some, took}
use Rattle.aig_lasso.proofs.search.take_step.Goals as goal

pub returns-then-not-evaluate_text-clause-took : goal.returns-then-not-evaluate_text-clause-took
returns-then-not-evaluate_text-clause-took c = λ k rows stands.
    absurd (says_some k c.args.stepper.now c.args.run.now rows c.args.number stands c.requires c.step.result.now
    c.step.ensures (c.evaluate_text.ensures.bad c.if-not-evaluate_text.true))

pub returns-clause-took : goal.returns-clause-took
returns-clause-took c = λ k rows stands.
    let run = c.args.run.now in
    let said = c.evaluate_text.ensures.good c.if-not-evaluate_text.false in
    let went = c.enter_next_state.ensures ∙ ap in_next_state said.2.stays in (
      refl,
      subst (λ (s : Stepping). TookRow k s run rows c.args.number) (sym went)
          (took k c.args.stepper.now run rows c.args.number stands c.requires c.step.result.now c.step.ensures said.0
          c.evaluate_text.new.self.values said.1 said.2.assigned),
    )
