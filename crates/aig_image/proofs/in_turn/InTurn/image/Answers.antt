use Rattle.std.proofs.Common.{◌∙◌, sym, subst}
use Rattle.aig_checked.specs.BinaryOrder.{IsInBinaryOrder}
use Rattle.aig_circuit.specs.Wellformed.{IsWellFormed}
use Rattle.aig_image.specs.Image.{IsBinaryImage}
use Rattle.aig_image.specs.Parts.InTurn.{new_number}
use Rattle.aig_image.proofs.Imaging.Ordered.{image_is_ordered}
use Rattle.aig_image.proofs.Imaging.Renewed.{told_fits, told_is_image}
use Rattle.aig_image.proofs.Relabelling.Relabelled.{with_gates}
use Rattle.aig_image.proofs.in_turn.InTurn.image.Goals as goal

pub relabel-rest-requires : goal.relabel-rest-requires
relabel-rest-requires c =
    let of_it = c.requires.of_it in
    told_fits c.args.circuit of_it.order c.requires.good of_it.least (new_number c.args.self.numbers)
    of_it.numbers

is_image : (c : goal.After-from_vec)
    → IsBinaryImage c.args.circuit (record (with_gates c.from_vec.result c.relabel-rest.result) {
      max_var = c.count.result;
    })
is_image c =
    let of_it = c.requires.of_it in
    told_is_image c.args.circuit of_it.order c.requires.good of_it.least (new_number c.args.self.numbers)
    of_it.numbers c.relabel-rest.result c.new.result c.from_vec.result c.count.result c.new.ensures
    c.relabel-rest.ensures (c.from_vec.ensures ∙ of_it.gates) (c.count.ensures ∙ of_it.count)

is_ordered : (c : goal.After-from_vec)
    → IsWellFormed (record (with_gates c.from_vec.result c.relabel-rest.result) { max_var = c.count.result })
    × IsInBinaryOrder (record (with_gates c.from_vec.result c.relabel-rest.result) { max_var = c.count.result })
is_ordered c = image_is_ordered c.args.circuit _ c.requires.good (is_image c)

pub from_well_ordered-requires-clause-well_formed :
    goal.from_well_ordered-requires-clause-well_formed
from_well_ordered-requires-clause-well_formed c = (is_ordered c).0

pub from_well_ordered-requires-clause-in_order : goal.from_well_ordered-requires-clause-in_order
from_well_ordered-requires-clause-in_order c = (is_ordered c).1

pub returns : goal.returns
returns c =
    let of_it = c.requires.of_it in
    subst (IsBinaryImage c.args.circuit) (sym c.from_well_ordered.ensures)
    (told_is_image c.args.circuit of_it.order c.requires.good of_it.least (new_number c.args.self.numbers)
    of_it.numbers c.relabel-rest.result c.new.result c.from_vec.result c.count.result c.new.ensures
    c.relabel-rest.ensures (c.from_vec.ensures ∙ of_it.gates) (c.count.ensures ∙ of_it.count))
