use Rattle.std.proofs.Common.{◌∙◌, ap, sum}
use Rattle.aig_circuit.specs.Wellformed.{largest_index}
use Rattle.aig_arrays.proofs.Loops.{sizes_given}
use Rattle.aig_arrays.proofs.sections.read_section.Goals as goal

pub returns-in-JusticeSizes-clause-sizes : goal.returns-in-JusticeSizes-clause-sizes
returns-in-JusticeSizes-clause-sizes c =
    let read = c.read_rows-in-JusticeSizes in
    sizes_given largest_index c.total-before.result c.args.counts.now.justice c.args.from.now read.new.from
    c.args.circuit.now.justice.sizes read.new.found read.result (c.total-before.ensures ∙ ap sum c.as_slice.ensures)
    c.requires.sizes read.ensures
