use Rattle.std.proofs.Common.{◌≡◌, ◌+◌, ◌++◌, ◌∷◌, ◌∙◌, List, [], map, take, ap, sym, subst}
use Rattle.std.proofs.lemmas.List.{take_all, take_more}
use Rattle.aig_circuit.specs.declared.circuit.Circuit.{Circuit}
use Rattle.aig_circuit.specs.declared.value.Val.{Val}
use Rattle.aig_meaning.specs.Meaning.{IsRow, Row}
use Rattle.aig_meaning.specs.Trace.{IsTrace, reset_state, state_after}
use Rattle.aig_meaning.proofs.Traces.{reset_state_is_first, trace_goes_on}
use Rattle.aig_lanes.specs.Runs.{row_of}
use Rattle.aig_step.proofs.Running.Machines.{state_after_last}
use Rattle.aig_runs.proofs.alone.trace_run.Goals as goal

pub loop-given-init : goal.loop-given-init
loop-given-init c =
    let circuit = c.args.simulator.now.circuit in
    let none : [] ≡ map row_of c.new-rows.result = sym (ap (map row_of) c.new-rows.ensures) in
    record {
      circuit = c.reset.ensures.circuit;
      traced =
          subst (λ (rs : List Row). IsTrace circuit (reset_state circuit) [] rs) none
          (reset_state_is_first circuit, tt);
      state =
          c.reset.ensures.reset.state ∙ ap reset_state c.reset.ensures.circuit
          ∙ ap (state_after (reset_state circuit)) none;
    }

pub loop-given-preserved : goal.loop-given-preserved
loop-given-preserved c =
    let circuit = c.args.simulator.now.circuit in
    let first = reset_state circuit in
    let items = c.as_slice-given-items.result.now in
    let i = c.loop-given.given-index in
    let given = c.given-item.result in
    let rows = map row_of c.loop-given.rows in
    let step = c.in_ok-add_step.ensures.stepped in
    let grown = c.in_ok-add_step.ensures.added in
    let is_row : IsRow circuit step.row =
    subst (λ (k : Circuit). IsRow k step.row) c.loop-given.invariant.circuit step.is_row in
    let vectors : take i items ++ step.row.inputs ∷ [] ≡ take (i + 1) items =
    ap (λ (v : List Val). take i items ++ v ∷ []) (step.inputs ∙ c.given-item.is)
    ∙ sym (take_more items i given c.loop-given-test.true) in
    record {
      circuit = step.circuit ∙ c.loop-given.invariant.circuit;
      traced =
          subst (λ (rs : List Row). IsTrace circuit first (take (i + 1) items) rs) (sym grown)
          (subst (λ (vs : List (List Val)). IsTrace circuit first vs (rows ++ step.row ∷ [])) vectors
          (trace_goes_on circuit first (take i items) rows step.row c.loop-given.invariant.traced
          (step.from ∙ c.loop-given.invariant.state) is_row));
      state = step.state ∙ sym (ap (state_after first) grown ∙ state_after_last first rows step.row);
    }

pub returns-clause-traced : goal.returns-clause-traced
returns-clause-traced c =
    let circuit = c.args.simulator.now.circuit in
    let items = c.as_slice-given-items.result.now in
    subst (λ (vs : List (List Val)). IsTrace circuit (reset_state circuit) vs (map row_of c.loop-given.rows))
    (take_all c.loop-given.given-index items c.loop-given-test.false ∙ c.as_slice-given-items.ensures)
    c.loop-given.invariant.traced
