use Rattle.std.proofs.Common.{◌≡◌, ◌∙◌, sym, subst}
use Rattle.std.proofs.lemmas.Option.{IfSome_then}
use Rattle.std.proofs.lemmas.Result.{IfOk-weaker}
use Rattle.aig_image.specs.Parts.InTurn.{AreMadeInTurn, DefineApart}
use Rattle.aig_image.specs.Parts.Numbers.{first_variables}
use Rattle.aig_image.proofs.Imaging.InTurn.{standing_apart}
use Rattle.aig_image.proofs.Imaging.OwnImage.{made_as_they_stand}
use Rattle.aig_image.proofs.in_turn.InTurn.as_they_stand.Goals as goal

pub of_gates-requires : goal.of_gates-requires
of_gates-requires c =
    subst (DefineApart (first_variables c.args.circuit.now)) (sym (c.into_vec.ensures ∙ c.in_ok-gates.ensures))
    (standing_apart c.args.circuit.now c.requires)

pub returns : goal.returns
returns c =
    let circuit = c.args.circuit.now in
    let are : c.into_vec.result.items ≡ circuit.gates = c.into_vec.ensures ∙ c.in_ok-gates.ensures in
    IfOk-weaker c.of_gates.result _ _
    (λ some made. IfSome_then some made
    (λ m a. made_as_they_stand circuit c.requires m
    (subst (λ gs. AreMadeInTurn (first_variables circuit) gs m.gates.items m.numbers) are a)))
    c.of_gates.ensures
