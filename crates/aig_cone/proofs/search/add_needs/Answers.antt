use Rattle.std.proofs.Common.{◌<◌, ap, arith, length, sym}
use Rattle.aig_cone.specs.Parts.Search.{with_all}
use Rattle.aig_cone.proofs.Searching.{nothing_needed}
use Rattle.aig_cone.proofs.search.add_needs.Goals as goal

pub returns-in-OneStep-clause-added : goal.returns-in-OneStep-clause-added
returns-in-OneStep-clause-added c =
    let low : c.args.place < length c.args.circuit.now.latches =
    omega (arith, c.if-place-latches.false, c.len-latches.ensures) in
    ap (with_all c.args.found.now.list.items)
    (sym (nothing_needed c.args.reach c.args.circuit.now c.args.place c.in-OneStep.is low))
