use Rattle.std.proofs.Common.{◌≡◌, ◌+◌, ◌∙◌, ap, arith, get_or, length-set, set, sym}
use Rattle.aig_array_steps.specs.Parts.Values.{gate_byte, with_gates}
use Rattle.aig_array_steps.specs.Parts.Words.{AreGateWords}
use Rattle.aig_array_steps.proofs.Threes.{behind, behind_length, right_ahead}
use Rattle.aig_array_steps.proofs.Values.{gates_ahead, no_gate_ahead}
use Rattle.aig_array_steps.proofs.evaluate.put_gates.Goals as goal

pub loop-rest-preserved : goal.loop-rest-preserved
loop-rest-preserved c =
    let v = c.loop-rest.variable in
    let words = c.loop-rest.rest.now in
    let table = c.loop-rest.table in
    let long = c.in-len3-up.len_at_least in
    let byte : c.and.result ≡ gate_byte table (get_or words 1 0) (get_or words 2 0) =
    cc (c.and.ensures, c.literal_value.ensures.value, c.literal_value-in-len3-up.ensures.value) in
    record {
      room = omega (arith, behind_length words long, length-set table v c.and.result);
      ordered = ((right_ahead AreGateWords v words long).0 c.loop-rest.invariant.ordered).1;
      left = ap (λ b. with_gates (v + 1) (behind words) (set table v b)) byte
          ∙ sym (gates_ahead v words table long)
          ∙ c.loop-rest.invariant.left;
    }

pub returns : goal.returns
returns c =
    sym (no_gate_ahead c.loop-rest.variable c.loop-rest.rest.now c.loop-rest.table c.in_default.len_below)
    ∙ c.loop-rest.invariant.left
