use Rattle.std.proofs.Common.{◌∙◌, ap}
use Rattle.aig_circuit.specs.declared.circuit.Circuit.{Circuit}
use Rattle.aig_text.specs.Sections.{listed_in, sections}
use Rattle.aig_text.specs.Reading.{sections_at}
use Rattle.aig_text.proofs.Loops.Sections.{all_begins}
use Rattle.aig_text.proofs.pieces.Progress.new.Goals as goal

pub returns-clause-from : goal.returns-clause-from
returns-clause-from c = λ at.
    all_begins c.args.format c.args.header.now c.empty_circuit-circuit.result c.section_rows-due.result at
    c.section_rows-due.ensures.rows
    ∙ ap (λ (d : Circuit). sections_at (listed_in c.args.format) c.args.header.now sections d at)
    c.empty_circuit-circuit.ensures
