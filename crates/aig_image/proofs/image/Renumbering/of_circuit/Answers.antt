use Rattle.std.proofs.Common.{rules}
use Rattle.aig_meaning.proofs.Related.{distinct_front}
use Rattle.aig_topo.proofs.Ordering.Ranked.{variables}
use Rattle.aig_image.specs.Parts.Numbers.{first_variables}
use Rattle.aig_image.proofs.Imaging.OwnImage.{few, first, in_place}
use Rattle.aig_image.proofs.image.Renumbering.of_circuit.Goals as goal

pub of_ordered-requires : goal.of_ordered-requires
of_ordered-requires c =
    let circuit = c.args.circuit.now in
    record {
      few = few circuit c.requires;
      once = distinct_front (first_variables circuit) (variables circuit.gates) c.requires.once;
    }

pub returns-in-Some-clause-renumbering : goal.returns-in-Some-clause-renumbering
returns-in-Some-clause-renumbering c = search (rules, in_place, first)
