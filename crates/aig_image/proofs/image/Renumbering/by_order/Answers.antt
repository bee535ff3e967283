use Rattle.std.proofs.Common.{◌<◌, rules, length, sym, subst}
use Rattle.std.specs.List.{AllByRecursion}
use Rattle.aig_image.proofs.Imaging.InTurn.{order_there, taken_apart}
use Rattle.aig_image.proofs.Imaging.Renewed.{fits}
use Rattle.aig_image.proofs.image.Renumbering.by_order.Goals as goal

pub take_gates-requires : goal.take_gates-requires
take_gates-requires c =
    subst (λ gates. AllByRecursion (λ at. at < length gates) c.list.result.now) (sym c.as_slice.ensures)
    (search (rules, order_there))

pub new-requires : goal.new-requires
new-requires c =
    let apart = taken_apart c.args.circuit.now c.args.order.now.list c.requires.good c.requires.least in
    record {
      few = search (rules, fits);
      once = search rules;
    }

pub returns : goal.returns
returns c = search rules
