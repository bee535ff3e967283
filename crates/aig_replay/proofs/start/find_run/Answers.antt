use Rattle.std.proofs.Common.{◌≡◌, ◌+◌, ◌∙◌, List, ap, arith, length, map, subst, sym}
use Rattle.aig_circuit.specs.declared.circuit.Circuit.{Circuit}
use Rattle.aig_circuit.specs.declared.circuit.Latch.{Latch}
use Rattle.aig_circuit.specs.declared.value.Val.{Val}
use Rattle.aig_meaning.specs.Meaning.{MeansTheSame}
use Rattle.aig_meaning.specs.Trace.{Follow}
use Rattle.aig_step.specs.Parts.Stepping.{Stepping}
use Rattle.aig_unroll.specs.Unrolled.{resets_of, uninitialised}
use Rattle.aig_reach.specs.Cut.{cut_steps}
use Rattle.aig_replay.specs.Starting.{assigned, first_characters}
use Rattle.aig_replay.proofs.Starting.{enough, says_run, state_after, state_is, state_there}
use Rattle.aig_replay.proofs.start.find_run.Goals as goal

-- the resets of the circuit that is run are those of its latches as the code reads them
resets_are : (ls parts : List Latch) (m d : Circuit) → ls ≡ parts → parts ≡ m.latches → m ≡ d
    → map (λ (l : Latch). l.reset) ls ≡ resets_of d
resets_are ls parts m d one two three =
    ap (λ (ks : List Latch). map (λ (l : Latch). l.reset) ks) (one ∙ two ∙ ap (λ (e : Circuit). e.latches) three)

pub returns-then-bits-used-clause-found : goal.returns-then-bits-used-clause-found
returns-then-bits-used-clause-found c = λ k rows formed means are long trace.
    let resets = resets_are _ _ _ _ c.as_slice-latches.ensures c.parts.ensures.latches c.machine.ensures in
    let put = c.put_first_state-used.ensures.state ∙ ap (first_characters c.args.bits.now 0) resets in
    let uses = c.put_first_state-used.ensures.used ∙ ap uninitialised resets in
    let low = enough k _ means _ are _ put c.args.count c.put_first_state-used.result uses long in
    absurd (omega (arith, c.if-bits-used.true, low))

pub returns-then-bits-used-clause-state : goal.returns-then-bits-used-clause-state
returns-then-bits-used-clause-state c = λ k means are.
    let resets = resets_are _ _ _ _ c.as_slice-latches.ensures c.parts.ensures.latches c.machine.ensures in
    let put = c.put_first_state-used.ensures.state ∙ ap (first_characters c.args.bits.now 0) resets in
    state_is k _ means _ are _ put

pub returns-then-not-read_state-clause-found : goal.returns-then-not-read_state-clause-found
returns-then-not-read_state-clause-found c = λ k rows formed means are long trace.
    let resets = resets_are _ _ _ _ c.as_slice-latches.ensures c.parts.ensures.latches c.machine.ensures in
    let put = c.put_first_state-used.ensures.state ∙ ap (first_characters c.args.bits.now 0) resets in
    absurd (state_there k _ means _ are _ put (c.read_state.ensures.bad c.if-not-read_state.true))

pub returns-then-not-read_state-clause-state : goal.returns-then-not-read_state-clause-state
returns-then-not-read_state-clause-state c = λ k means are.
    let resets = resets_are _ _ _ _ c.as_slice-latches.ensures c.parts.ensures.latches c.machine.ensures in
    let put = c.put_first_state-used.ensures.state ∙ ap (first_characters c.args.bits.now 0) resets in
    state_is k _ means _ are _ put

pub returns-in-Some-clause-found : goal.returns-in-Some-clause-found
returns-in-Some-clause-found c = λ k rows formed means are long trace.
    let resets = resets_are _ _ _ _ c.as_slice-latches.ensures c.parts.ensures.latches c.machine.ensures in
    let put = c.put_first_state-used.ensures.state ∙ ap (first_characters c.args.bits.now 0) resets in
    let uses = c.put_first_state-used.ensures.used ∙ ap uninitialised resets in
    let same = sym (ap (λ (s : Stepping). s.circuit) c.read_state.ensures.stays) in
    let said = c.read_state.ensures.good c.if-not-read_state.false in
    let at = state_after k _ means _ are _ put c.read_state.new.self.state said in
    let steps = cut_steps (assigned c.args.bits.now) (1 + uninitialised (resets_of k)) (length k.inputs) c.args.count in
    sym c.in-Some.is
    ∙ c.find_hit.ensures k steps rows formed (subst (λ (e : Circuit). MeansTheSame k e) same means)
    (says_run k _ means _ are _ put c.args.count c.put_first_state-used.result uses long)
    (subst (λ (vs : List Val). Follow k vs steps rows) (sym at) trace.1)

pub returns-in-Some-clause-state : goal.returns-in-Some-clause-state
returns-in-Some-clause-state c = λ k means are.
    let resets = resets_are _ _ _ _ c.as_slice-latches.ensures c.parts.ensures.latches c.machine.ensures in
    let put = c.put_first_state-used.ensures.state ∙ ap (first_characters c.args.bits.now 0) resets in
    state_is k _ means _ are _ put

pub returns-in-None-clause-found : goal.returns-in-None-clause-found
returns-in-None-clause-found c = λ k rows formed means are long trace.
    let resets = resets_are _ _ _ _ c.as_slice-latches.ensures c.parts.ensures.latches c.machine.ensures in
    let put = c.put_first_state-used.ensures.state ∙ ap (first_characters c.args.bits.now 0) resets in
    let uses = c.put_first_state-used.ensures.used ∙ ap uninitialised resets in
    let same = sym (ap (λ (s : Stepping). s.circuit) c.read_state.ensures.stays) in
    let said = c.read_state.ensures.good c.if-not-read_state.false in
    let at = state_after k _ means _ are _ put c.read_state.new.self.state said in
    let steps = cut_steps (assigned c.args.bits.now) (1 + uninitialised (resets_of k)) (length k.inputs) c.args.count in
    sym c.in-None.is
    ∙ c.find_hit.ensures k steps rows formed (subst (λ (e : Circuit). MeansTheSame k e) same means)
    (says_run k _ means _ are _ put c.args.count c.put_first_state-used.result uses long)
    (subst (λ (vs : List Val). Follow k vs steps rows) (sym at) trace.1)

pub returns-in-None-clause-state : goal.returns-in-None-clause-state
returns-in-None-clause-state c = λ k means are.
    let resets = resets_are _ _ _ _ c.as_slice-latches.ensures c.parts.ensures.latches c.machine.ensures in
    let put = c.put_first_state-used.ensures.state ∙ ap (first_characters c.args.bits.now 0) resets in
    state_is k _ means _ are _ put
