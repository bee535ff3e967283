use Rattle.aig_command.specs.declared.request.UnrolledForm.TheVariants as forms
use Rattle.aig_commands.proofs.Texts.{unrolled_begins}
use Rattle.aig_commands.proofs.unrolling.simplified_answer.Goals as goal

pub returns-in_ok-written-in-Binary-clause-some : goal.returns-in_ok-written-in-Binary-clause-some
returns-in_ok-written-in-Binary-clause-some c = unrolled_begins forms.Binary c.in_ok-written-in-Binary.written

pub returns-in_ok-written-in-Ascii-clause-some : goal.returns-in_ok-written-in-Ascii-clause-some
returns-in_ok-written-in-Ascii-clause-some c = unrolled_begins forms.Ascii c.into_checked-in-Ascii-2.result
