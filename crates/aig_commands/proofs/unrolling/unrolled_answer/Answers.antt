use Rattle.aig_commands.specs.Jobs.{text_of}
use Rattle.aig_commands.proofs.Texts.{unrolled_begins}
use Rattle.aig_commands.proofs.Unrolled.{plain_text, simplified_text}
use Rattle.aig_commands.proofs.unrolling.unrolled_answer.Goals as goal

pub returns-then-request-clause-text : goal.returns-then-request-clause-text
returns-then-request-clause-text c =
    let is = c.in_ok-circuit.ensures.ok in
    let answer = c.in_ok-simplified_answer in
    simplified_text c.args.request.now c.args.found c.in_ok-circuit.circuit is.0 is.1 c.if-request.true
    (text_of answer.field-0) answer.ensures.text

pub returns-clause-text : goal.returns-clause-text
returns-clause-text c =
    let is = c.in_ok-circuit-2.ensures.ok in
    plain_text c.args.request.now c.args.found c.in_ok-circuit-2.circuit is.0 is.1 c.if-request.false

pub returns-clause-some : goal.returns-clause-some
returns-clause-some c = unrolled_begins c.args.request.now.form c.in_ok-circuit-2.circuit
