use Rattle.std.proofs.Common.{◌≡◌, ◌∙◌, List, [], ◌∷◌, ap, arith, length, refl}
use Rattle.std.proofs.lemmas.List.{length-map}
use Rattle.aig_circuit.specs.declared.circuit.Circuit.{Circuit}
use Rattle.aig_circuit.specs.declared.circuit.Latch.{Latch}
use Rattle.aig_step.proofs.LineValues.{same_size}
use Rattle.aig_trace.proofs.taker.Taker.new.Goals as goal

no_latches : (latches : List Latch) → length latches ≡ 0 → latches ≡ []
no_latches [] none = refl
no_latches (l ∷ ls) none = absurd (omega (arith, none))

pub new-requires-clause-stateless : goal.new-requires-clause-stateless
new-requires-clause-stateless c =
    no_latches c.args.tracer.circuit.latches
    (omega (
      arith,
      simp length-map at (ap length c.requires.resets),
      ap (λ (k : Circuit). length k.latches) c.circuit-circuit.ensures.value,
      c.len.ensures,
      c.if-len-gt0.false,
    ))

pub new-requires-clause-line : goal.new-requires-clause-line
new-requires-clause-line c =
    c.line_room.ensures.size
    ∙ same_size c.args.checked.now c.args.tracer.circuit c.line_room.ensures.formed c.requires
