use Rattle.std.proofs.Common.{◌∙◌, ap, subst}
use Rattle.std.proofs.lemmas.Result.{IfErr-weaker}
use Rattle.clap.specs.Words.{App, FailsBy, fault_of, is_simple_and_free, takes}
use Rattle.aig_command.specs.Answer.{texts}
use Rattle.aig_command.proofs.Answered.{free}
use Rattle.aig_command.proofs.reader.parse.Goals as goal

pub returns-clause-passes : goal.returns-clause-passes
returns-clause-passes c =
    IfErr-weaker c.try_get_matches_from.result _ _
    (λ e h t. h (ap (λ (a : App). takes a (texts c.args.words.now)) c.in_ok-aiger.ensures.0 ∙ t))
    c.try_get_matches_from.ensures.passes

pub returns-clause-kinds : goal.returns-clause-kinds
returns-clause-kinds c =
    let is = c.in_ok-aiger.ensures.0 in
    subst (λ (a : App). FailsBy (fault_of a (texts c.args.words.now)) c.try_get_matches_from.result) is
    (c.try_get_matches_from.ensures.kinds (ap is_simple_and_free is ∙ free))
