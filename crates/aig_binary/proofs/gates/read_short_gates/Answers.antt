use Rattle.std.proofs.Common.{◌≡◌, ◌+◌, ◌<◌, ◌∙◌, ◌∷◌, ℕ, [], length, length-append, ap, arith}
use Rattle.aig_binary.specs.BinaryReading.{gate_at}
use Rattle.aig_binary.proofs.OneByOne.{gate_on, gate_taken}
use Rattle.aig_binary.proofs.gates.read_short_gates.Goals as goal

pub loop-at-preserved : goal.loop-at-preserved
loop-at-preserved c =
    let found = c.loop-at.found in
    let rest = c.loop-at.rest.now in
    let n : length found ≡ c.loop-at.at = c.loop-at.invariant.counted in
    let few : length found < c.args.count = omega (arith, n, c.loop-at-test.true) in
    let h = ap (λ (k : ℕ). gate_at (c.args.variable + k) rest) n ∙ c.in-Some.ensures.gate in
    record {
      counted = rw c.in_ok-push.ensures.ok (omega (arith, n, length-append found (c.in-Some.gate ∷ [])));
      taken =
          gate_taken c.args.variable c.args.count c.args.found.now found c.args.bytes.now rest few
          c.loop-at.invariant.on c.loop-at.invariant.taken.0 c.in-Some.behind.now c.in-Some.gate
          c.loop-at.invariant.taken.1 h;
      on = λ more.
          rw c.in_ok-push.ensures.ok
          (gate_on c.args.variable c.args.count c.args.found.now found c.args.bytes.now rest few
          c.loop-at.invariant.on c.in-Some.behind.now more c.in-Some.gate h);
    }
