use Rattle.std.proofs.Common.{◌≡◌, ◌<◌, rules, length, sym, subst}
use Rattle.std.specs.List.{AllByRecursion}
use Rattle.std.proofs.lemmas.Option.{IfSome_then}
use Rattle.std.proofs.lemmas.Result.{IfOk-weaker}
use Rattle.aig_image.specs.Parts.InTurn.{AreMadeInTurn, DefineApart}
use Rattle.aig_image.specs.Parts.Numbers.{first_variables}
use Rattle.aig_image.specs.Reordered.{taken}
use Rattle.aig_image.proofs.Imaging.InTurn.{order_there, taken_apart}
use Rattle.aig_image.proofs.in_turn.InTurn.by_order.Goals as goal

pub take_gates-requires : goal.take_gates-requires
take_gates-requires c =
    subst (λ gates. AllByRecursion (λ at. at < length gates) c.list.result.now) (sym c.as_slice.ensures)
    (search (rules, order_there))

are_taken : (c : goal.After-into_vec)
    → c.into_vec.result.items ≡ taken c.args.circuit.now.gates c.args.order.now.list
are_taken c = search rules

pub of_gates-requires : goal.of_gates-requires
of_gates-requires c =
    subst (DefineApart (first_variables c.args.circuit.now)) (sym (are_taken c))
    (taken_apart c.args.circuit.now c.args.order.now.list c.requires.good c.requires.least)

pub returns : goal.returns
returns c =
    let circuit = c.args.circuit.now in
    let order = c.args.order.now.list in
    let are : c.into_vec.result.items ≡ taken circuit.gates order = search rules in
    IfOk-weaker c.of_gates.result _ _
    (λ some made. IfSome_then some made
    (λ m a. let of_taken = subst (λ gs. AreMadeInTurn (first_variables circuit) gs m.gates.items m.numbers) are a in
    record {
      order = order;
      least = c.requires.least;
      count = of_taken.count;
      numbers = of_taken.numbers;
      gates = of_taken.made;
    }))
    c.of_gates.ensures
