use Rattle.std.proofs.Common.{◌≡◌, ◌++◌, ◌+◌, ◌<◌, ◌∙◌, ◌∷◌, Err, List, ℕ, [], length, length-append, inr, ap, sym}
use Rattle.std.proofs.Common.{arith, drop, refl}
use Rattle.aig_fault.specs.Stopping.{refusal}
use Rattle.aig_fault.specs.declared.kind.Kind.{Kind}
use Rattle.aig_fault.specs.declared.stopped.Stopped.{Stopped}
use Rattle.aig_fault.specs.declared.fault.Place.TheVariants as places
use Rattle.aig_text.proofs.LastBytes.{rest_is}
use Rattle.aig_binary.specs.Begun.{gates_from}
use Rattle.aig_binary.specs.BinaryReading.{gate_at}
use Rattle.aig_binary.proofs.OneByOne.{gate_on, gate_refused, gate_taken, rest_taken}
use Rattle.aig_binary.proofs.gates.read_first_gates.Goals as goal

pub returns-in-Err : goal.returns-in-Err
returns-in-Err c =
    let found = c.read_short_gates.new.found in
    let rest = c.split_at.result.1.now in
    let back = c.split_at.ensures.back in
    let on : (more : List ℕ) → gates_from c.args.variable c.args.count c.args.found.now (c.args.bytes.now ++ more)
    ≡ gates_from c.args.variable c.args.count found (rest ++ more) =
    λ more. c.loop-used.invariant.on more ∙ rw back (c.in_ok-used.ensures.on more) in
    let n : length found ≡ c.len-at.result = sym c.len-at.ensures in
    let few : length found < c.args.count = omega (arith, n, c.in_ok-used.ensures.fewer, c.if-at-count.false) in
    let h = ap (λ (k : ℕ). gate_at (c.args.variable + k) rest) n ∙ c.in-Err.ensures.gate in
    record {
      on = tt;
      all = tt;
      fewer = tt;
      within = tt;
      err =
          inr (λ more.
          gate_refused c.args.variable c.args.count c.args.found.now found c.args.bytes.now rest few on more
          c.in-Err.kind (λ e. let no = c.if-is_cut.ensures.1 e in cc) h
          ∙ ap (λ (k : ℕ). Err (refusal c.in-Err.kind (places.Gate (k + 1)) 0))
          (n ∙ sym c.from.ensures) ∙ ap (λ (e : Stopped). Err e) (sym c.refused.ensures));
    }

pub loop-used-preserved : goal.loop-used-preserved
loop-used-preserved c =
    let found = c.read_short_gates.new.found in
    let rest = c.split_at.result.1.now in
    let left = c.loop-used.invariant in
    let back = c.split_at.ensures.back in
    let on : (more : List ℕ) → gates_from c.args.variable c.args.count c.args.found.now (c.args.bytes.now ++ more)
    ≡ gates_from c.args.variable c.args.count found (rest ++ more) =
    λ more. left.on more ∙ rw back (c.in_ok-used.ensures.on more) in
    let cut = rest_taken c.args.bytes.now left.taken.0 c.loop-used.rest.now c.in_ok-used.used left.taken.1 in
    let n : length found ≡ c.len-at.result = sym c.len-at.ensures in
    let few : length found < c.args.count = omega (arith, n, c.in_ok-used.ensures.fewer, c.if-at-count.false) in
    let h = ap (λ (k : ℕ). gate_at (c.args.variable + k) rest) n ∙ c.in-Ok.ensures.gate in
    record {
      fewer = rw c.in_ok-push-in-Ok.ensures.ok (omega (arith, few, length-append found (c.in-Ok.gate ∷ [])));
      taken =
          gate_taken c.args.variable c.args.count c.args.found.now found c.args.bytes.now rest few on cut.0
          c.in-Ok.behind.now c.in-Ok.gate (cut.1 ∙ ap (λ (bs : List ℕ). cut.0 ++ bs) (sym back)) h;
      on = λ more.
          rw c.in_ok-push-in-Ok.ensures.ok
          (gate_on c.args.variable c.args.count c.args.found.now found c.args.bytes.now rest few on
          c.in-Ok.behind.now more c.in-Ok.gate h);
    }

pub loop-used-smaller : goal.loop-used-smaller
loop-used-smaller c =
    let found = c.read_short_gates.new.found in
    let more = length-append found (c.in-Ok.gate ∷ []) in
    let few : length found < c.args.count =
    omega (arith, c.len-at.ensures, c.in_ok-used.ensures.fewer, c.if-at-count.false) in
    rw c.in_ok-push-in-Ok.ensures.ok (omega (arith, few, more, c.in_ok-used.ensures.grown))

pub returns-then-at-count-clause-on : goal.returns-then-at-count-clause-on
returns-then-at-count-clause-on c =
    let left = c.loop-used.invariant in
    let back = c.split_at.ensures.back in
    let cut = rest_taken c.args.bytes.now left.taken.0 c.loop-used.rest.now c.in_ok-used.used left.taken.1 in
    λ more. rw (back, rest_is c.args.bytes.now cut.0 (drop c.in_ok-used.used c.loop-used.rest.now) cut.1)
    (left.on more ∙ c.in_ok-used.ensures.on more)

pub returns-then-is_cut-clause-on : goal.returns-then-is_cut-clause-on
returns-then-is_cut-clause-on c =
    let left = c.loop-used.invariant in
    let back = c.split_at.ensures.back in
    let cut = rest_taken c.args.bytes.now left.taken.0 c.loop-used.rest.now c.in_ok-used.used left.taken.1 in
    λ more. rw (back, rest_is c.args.bytes.now cut.0 (drop c.in_ok-used.used c.loop-used.rest.now) cut.1)
    (left.on more ∙ c.in_ok-used.ensures.on more)

pub returns-then-is_cut-clause-all : goal.returns-then-is_cut-clause-all
returns-then-is_cut-clause-all c =
    let found = c.read_short_gates.new.found in
    let rest = c.split_at.result.1.now in
    let left = c.loop-used.invariant in
    let back = c.split_at.ensures.back in
    let cut = rest_taken c.args.bytes.now left.taken.0 c.loop-used.rest.now c.in_ok-used.used left.taken.1 in
    let same = rest_is c.args.bytes.now cut.0 rest (cut.1 ∙ ap (λ (bs : List ℕ). cut.0 ++ bs) (sym back)) in
    let n : length found ≡ c.len-at.result = sym c.len-at.ensures in
    rw same (inr (
    ap (λ (k : ℕ). gate_at (c.args.variable + k) rest) n ∙ c.in-Err.ensures.gate
    ∙ ap (λ (k : Kind). Err k) (c.if-is_cut.ensures.0 refl)))
