use Rattle.std.proofs.Common.{arith, map, sym}
use Rattle.std.proofs.lemmas.List.{length-map}
use Rattle.aig_circuit.specs.declared.circuit.Latch.{Latch}
use Rattle.aig_lasso.specs.Runs.{value_held}
use Rattle.aig_lasso.proofs.Characters.{too_few}
use Rattle.aig_lasso.proofs.start.may_start_in.Goals as goal

pub returns-then-latches-first : goal.returns-then-latches-first
returns-then-latches-first c =
    let latches = c.args.latches.now in
    let first = c.args.first.now in
    sym (too_few (map (λ (l : Latch). l.reset) latches) (map value_held first) (λ same.
    omega (
      arith,
      same,
      length-map latches (λ (l : Latch). l.reset),
      length-map first value_held,
      c.if-latches-first.true,
    )))
