use Rattle.std.proofs.Common.{codes, refl}
use Rattle.aig_command.specs.Asked.{aiginfo, aigmiter, aigselect, aigtodot, aigunroll, to_aig}
use Rattle.aig_command.proofs.ByName.{met_answered}
use Rattle.aig_command.proofs.reader.read_matches.Goals as goal

pub returns-in-aigtoaig-clause-answer : goal.returns-in-aigtoaig-clause-answer
returns-in-aigtoaig-clause-answer c =
    met_answered _ to_aig (codes "aigtoaig") (λ rows. refl) _ _ _ _ c.in-aigtoaig.is c.in-Some.ensures.name
    c.in-Some.ensures.rows c.to_aig.ensures.answer

pub returns-in-aigunroll-clause-answer : goal.returns-in-aigunroll-clause-answer
returns-in-aigunroll-clause-answer c =
    met_answered _ aigunroll (codes "aigunroll") (λ rows. refl) _ _ _ _ c.in-aigunroll.is c.in-Some.ensures.name
    c.in-Some.ensures.rows c.aigunroll.ensures.answer

pub returns-in-aigmiter-clause-answer : goal.returns-in-aigmiter-clause-answer
returns-in-aigmiter-clause-answer c =
    met_answered _ aigmiter (codes "aigmiter") (λ rows. refl) _ _ _ _ c.in-aigmiter.is c.in-Some.ensures.name
    c.in-Some.ensures.rows c.aigmiter.ensures.answer

pub returns-in-aiginfo-clause-answer : goal.returns-in-aiginfo-clause-answer
returns-in-aiginfo-clause-answer c =
    met_answered _ aiginfo (codes "aiginfo") (λ rows. refl) _ _ _ _ c.in-aiginfo.is c.in-Some.ensures.name
    c.in-Some.ensures.rows c.aiginfo.ensures.answer

pub returns-in-aigselect-clause-answer : goal.returns-in-aigselect-clause-answer
returns-in-aigselect-clause-answer c =
    met_answered _ aigselect (codes "aigselect") (λ rows. refl) _ _ _ _ c.in-aigselect.is c.in-Some.ensures.name
    c.in-Some.ensures.rows c.aigselect.ensures.answer

pub returns-in-aigtodot-clause-answer : goal.returns-in-aigtodot-clause-answer
returns-in-aigtodot-clause-answer c =
    met_answered _ aigtodot (codes "aigtodot") (λ rows. refl) _ _ _ _ c.in-aigtodot.is c.in-Some.ensures.name
    c.in-Some.ensures.rows c.aigtodot.ensures.answer
