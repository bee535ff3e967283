use Rattle.std.specs.Prelude.{◌≡◌, List, drop}
use Rattle.aig_circuit.specs.declared.circuit.Circuit.{Circuit}
use Rattle.aig_meaning.specs.Meaning.{Row}
use Rattle.aig_lasso.specs.Parts.Searching.{StandsBefore, all_hold}
use Rattle.aig_lasso.proofs.search.run_through.Given as goal

abbrev pub invariant-loop-step : goal.invariant-loop-step
invariant-loop-step l = record {
  circuit : l.stepper.circuit ≡ l.fn.stepper.circuit;
  on : (c : Circuit) (rows : List Row) → StandsBefore c l.fn.stepper l.fn.run rows 0
      → StandsBefore c l.stepper l.fn.run rows l.step × (all_hold (drop l.step rows) ≡ all_hold rows);
}
