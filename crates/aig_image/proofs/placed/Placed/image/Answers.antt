use Rattle.std.proofs.Common.{◌+◌, sym, subst, arith}
use Rattle.aig_checked.specs.BinaryOrder.{IsInBinaryOrder}
use Rattle.aig_circuit.specs.Wellformed.{IsWellFormed}
use Rattle.aig_image.specs.Image.{IsBinaryImage}
use Rattle.aig_image.specs.Parts.Placed.{placed_number}
use Rattle.aig_image.proofs.Imaging.Ordered.{image_is_ordered}
use Rattle.aig_image.proofs.Imaging.Placed.{numbered, placed_fits, placed_is_image}
use Rattle.aig_image.proofs.Imaging.Renewed.{told_fits}
use Rattle.aig_image.proofs.Relabelling.Relabelled.{with_gates}
use Rattle.aig_image.proofs.placed.Placed.image.Goals as goal

pub overflow_cast-count : goal.overflow_cast-count
overflow_cast-count c =
    let self = c.args.self in
    let fits = placed_fits c.args.circuit self c.args.gates.items c.requires.good c.requires.of_it in
    omega (arith, fits, c.len.ensures, self.numbers.ok.0)

pub overflow_add-count : goal.overflow_add-count
overflow_add-count c =
    let self = c.args.self in
    let fits = placed_fits c.args.circuit self c.args.gates.items c.requires.good c.requires.of_it in
    omega (arith, fits, c.count.ensures, c.len.ensures, self.numbers.ok.0)

pub relabel-rest-requires : goal.relabel-rest-requires
relabel-rest-requires c =
    let of_it = c.requires.of_it in
    told_fits c.args.circuit of_it.order c.requires.good of_it.least (placed_number c.args.self)
    (numbered c.args.circuit of_it.order c.requires.good of_it.least c.args.self of_it.placed)

is_ordered : (c : goal.After-from_vec)
    → IsWellFormed (record (with_gates c.from_vec.result c.relabel-rest.result) {
      max_var = c.count.result + c.len.result;
    })
    × IsInBinaryOrder (record (with_gates c.from_vec.result c.relabel-rest.result) {
      max_var = c.count.result + c.len.result;
    })
is_ordered c =
    let self = c.args.self in
    image_is_ordered c.args.circuit _ c.requires.good
    (placed_is_image c.args.circuit self c.args.gates.items c.requires.good c.requires.of_it c.relabel-rest.result
    c.new.result c.from_vec.result (c.count.result + c.len.result) c.new.ensures c.relabel-rest.ensures
    c.from_vec.ensures (omega (arith, c.count.ensures, c.len.ensures, self.numbers.ok.0)))

pub from_well_ordered-requires-clause-well_formed :
    goal.from_well_ordered-requires-clause-well_formed
from_well_ordered-requires-clause-well_formed c = (is_ordered c).0

pub from_well_ordered-requires-clause-in_order : goal.from_well_ordered-requires-clause-in_order
from_well_ordered-requires-clause-in_order c = (is_ordered c).1

pub returns : goal.returns
returns c =
    let self = c.args.self in
    subst (IsBinaryImage c.args.circuit) (sym c.from_well_ordered.ensures)
    (placed_is_image c.args.circuit self c.args.gates.items c.requires.good c.requires.of_it c.relabel-rest.result
    c.new.result c.from_vec.result (c.count.result + c.len.result) c.new.ensures c.relabel-rest.ensures
    c.from_vec.ensures (omega (arith, c.count.ensures, c.len.ensures, self.numbers.ok.0)))
