use Rattle.std.proofs.Common.{◌∙◌, rules}
use Rattle.clap.specs.Words.{found_of, values_left}
use Rattle.clap.proofs.WalkLemmas.{typed_values-rows}
use Rattle.aig_command.proofs.Chosen.{none_more, one_more}
use Rattle.aig_command.proofs.options.all_chosen.Goals as goal

pub returns-in_default : goal.returns-in_default
returns-in_default c =
    let same = c.get_many.ensures ∙ typed_values-rows (found_of c.args.matches.now) c.args.name.now in
    search rules

pub loop-value-init : goal.loop-value-init
loop-value-init c =
    let same = c.get_many.ensures ∙ typed_values-rows (found_of c.args.matches.now) c.args.name.now in
    search rules

pub loop-value-preserved-in-Continue-1 : goal.loop-value-preserved-in-Continue-1
loop-value-preserved-in-Continue-1 c =
    rw c.in_ok-push.ensures.ok
    (one_more (values_left c.loop-value.value-iterator) (values_left c.next.new.self) c.loop-value.chosen _ c.in-Ok.number
    (rw c.in-Ok.is at c.in-Some-value.ensures.steps) c.loop-value.invariant)

pub loop-value-preserved : goal.loop-value-preserved
loop-value-preserved c =
    none_more (values_left c.loop-value.value-iterator) (values_left c.next.new.self) c.loop-value.chosen _
    c.in_default-value.field-0 (rw c.in_default-value.is at c.in-Some-value.ensures.steps) c.loop-value.invariant
