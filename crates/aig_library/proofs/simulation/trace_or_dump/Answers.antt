use Rattle.std.proofs.Common.{◌∙◌, IfErr, IfOk, inr, rules, sym}
use Rattle.std.proofs.lemmas.Result.{err_from_is_err_and}
use Rattle.aig_commands.specs.Simulation.{IsWrittenText}
use Rattle.aig_dump.specs.InMemory.{IsBadStimulus, StopsInMemory}
use Rattle.aig_library.specs.Answers.{IsSimulationRefused}
use Rattle.aig_library.specs.Asked.{simulation}
use Rattle.aig_library.proofs.Answered.{stops_as}
use Rattle.aig_library.proofs.Dumps.{written_dump, written_trace}
use Rattle.aig_library.proofs.simulation.trace_or_dump.Goals as goal
use Rattle.aig_library.proofs.simulation.trace_or_dump.Goals.{then-has, else-has}

pub returns-clause-ok : goal.returns-clause-ok
returns-clause-ok c =
    let request = simulation c.args.options c.args.max_var in
    let text : IfOk c.if-has.text (λ v. IsWrittenText request c.args.model.now c.args.stimulus.now v.items) =
    elim c.if-has.branch [
      | then-has w ↦ rw w.text-is (written_dump (λ v. v.items) w.dump-text.result request _ _ _
          (sym c.has.ensures ∙ w.if-has.true) c.in_ok-found.ensures.ok w.dump-text.ensures.none_bad
          w.dump-text.ensures.text)
      | else-has w ↦ rw w.text-is (written_trace (λ v. v.items) w.trace-text.result request _ _ _
          (sym c.has.ensures ∙ w.if-has.false) c.in_ok-found.ensures.ok w.trace-text.ensures.none_bad
          (rw w.columns_of.ensures at w.trace-text.ensures.text))
    ] in
    search (rules, text)

pub returns-in_err-text-clause-err : goal.returns-in_err-text-clause-err
returns-in_err-text-clause-err c =
    let h = err_from_is_err_and c.from_residual-in_err-text.result c.from_residual-in_err-text.ensures.1 in
    let found = c.in_ok-found.found in
    let stimulus = c.args.stimulus.now in
    let stopped = c.in_err-text.field-0.0 in
    let why : IfErr c.if-has.text (StopsInMemory (IsBadStimulus found stimulus)) =
    elim c.if-has.branch [
      | then-has w ↦ rw w.text-is w.dump-text.ensures.err
      | else-has w ↦ rw w.text-is w.trace-text.ensures.err
    ] in
    let bad : StopsInMemory (IsBadStimulus found stimulus) stopped = rw c.in_err-text.was at why in
    rw (h.1, h.2) (stops_as (IsBadStimulus found stimulus)
    (IsSimulationRefused (simulation c.args.options c.args.max_var) c.args.model.now stimulus) stopped
    (λ fault is. inr (found, c.in_ok-found.ensures.ok, is)) bad)
