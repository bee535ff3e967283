use Rattle.aig_command.specs.declared.request.UnrolledForm.TheVariants as forms
use Rattle.aig_commands.proofs.Texts.{unrolled_begins}
use Rattle.aig_commands.proofs.conversion.convert_as.Goals as goal

pub returns-then-ascii-clause-some : goal.returns-then-ascii-clause-some
returns-then-ascii-clause-some c = unrolled_begins forms.Ascii c.args.circuit

pub returns-then-keep_map-clause-some : goal.returns-then-keep_map-clause-some
returns-then-keep_map-clause-some c = unrolled_begins forms.Binary c.in_ok-into_binary_with_map.field-0

pub returns-clause-some : goal.returns-clause-some
returns-clause-some c = unrolled_begins forms.Binary c.in_ok-into_binary.field-0
