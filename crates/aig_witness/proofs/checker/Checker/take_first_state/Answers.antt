use Rattle.std.proofs.Common.{ap}
use Rattle.aig_step.specs.Parts.Stepping.{Stepping}
use Rattle.aig_witness.specs.declared.checker.Due.TheVariants as due
use Rattle.aig_witness.proofs.checker.Checker.take_first_state.Goals as goal

pub returns-clause-good : goal.returns-clause-good
returns-clause-good c = λ _.
    rw (← c.self.view_is)
    (record {
      first = c.read_first_state.new.stepper.state;
      said = c.read_first_state.ensures.good c.if-not-read_first_state.false;
      leads = ap (λ (s : Stepping). record {
        circuit = s.circuit;
        due = due.Steps;
        state = s.state;
        search = c.self.inside.search;
      })
          c.read_first_state.ensures.stays;
    })
