use Rattle.std.proofs.Common.{rules, refl}
use Rattle.aig_step.specs.TraceText.{row_text}
use Rattle.aig_step.specs.Parts.Stepping.{row_of}
use Rattle.aig_step.proofs.LineValues.{row_is_read, vector_back}
use Rattle.aig_trace.proofs.tracer.Tracer.take_step.Goals as goal

pub take_row-requires-clause-whole : goal.take_row-requires-clause-whole
take_row-requires-clause-whole g c =
    let said = c.evaluate_text.ensures.good c.if-not-evaluate_text.false in
    search (rules, vector_back)

pub returns-clause-good : goal.returns-clause-good
returns-clause-good g c = λ _.
    let said = c.evaluate_text.ensures.good c.if-not-evaluate_text.false in
    let row = row_of c.evaluate_text.new.self in
    rw (← c.self.view_is)
    (record {
      given = said.0;
      line = row_text c.self.inside.columns row;
      said = said.1;
      steps = record {
        row = row;
        is_row = search (rules, row_is_read);
        from = search rules;
        inputs = search rules;
        leads = search rules;
        is = refl;
      };
      put = c.take_row.ensures.took;
    })
