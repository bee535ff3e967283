-- What the definitions of this crate say of one another.
use Rattle.std.specs.Prelude.{◌≡◌, ◌↔◌, ◌+◌, ◌*◌, ℕ, List, [], ◌∷◌, None, length}
use Rattle.std.specs.List.{AllByRecursion, flat_map, range_with_len}
use Rattle.aig_circuit.specs.declared.circuit.Circuit.{Circuit}
use Rattle.aig_circuit.specs.declared.circuit.Reset.{Reset}
use Rattle.aig_circuit.specs.declared.circuit.Reset.TheVariants as resets
use Rattle.aig_circuit.specs.declared.value.Val.{Val}
use Rattle.aig_circuit.specs.Wellformed.{IsWellFormed}
use Rattle.aig_checked.specs.BinaryOrder.{IsInBinaryOrder}
use Rattle.aig_meaning.specs.Meaning.{Row}
use Rattle.aig_meaning.specs.Trace.{IsTrace}
use Rattle.aig_unroll.specs.Unrolled.{IsTooLarge, IsUnrolled, at, copied, outputs_at, resets_of, unrolled}
use Rattle.aig_unroll.specs.SideBySide.{inputs_side_by_side, side_by_side}

-- a well-formed circuit has exactly one unrolled circuit
abbrev pub OneUnrolledCircuit : Type 0
OneUnrolledCircuit = (c : Circuit) (frames : ℕ) → IsWellFormed c
    → (d : Circuit) × IsUnrolled c frames d × ((other : Circuit) → IsUnrolled c frames other → other ≡ d)

-- it is well formed and in binary order, where it is not too large
abbrev pub UnrolledIsOrdered : Type 0
UnrolledIsOrdered = (c d : Circuit) (frames : ℕ) → IsWellFormed c → IsUnrolled c frames d → ¬ IsTooLarge c frames
    → IsWellFormed d × IsInBinaryOrder d

-- Where all latches start at 0 and there are no bad states and no constraints, it has the inputs of all frames, the
-- gates of all frames and the outputs of all frames, and nothing else.
pub record IsPlainlyUnrolled (c : Circuit) (frames : ℕ) (d : Circuit) : Type 0 where
  pub max_var : d.max_var ≡ frames * (length c.inputs + length c.gates)
  pub inputs : d.inputs ≡ range_with_len 1 (frames * length c.inputs)
  pub latches : d.latches ≡ []
  pub outputs : d.outputs ≡ flat_map (outputs_at c frames) (range_with_len 0 frames)
  pub gates : d.gates ≡ flat_map
      (λ t. copied (at c frames t) (1 + frames * length c.inputs + t * length c.gates) c.gates)
      (range_with_len 0 frames)
  pub bad : d.bad ≡ []
  pub constraints : d.constraints ≡ []
  pub justice : d.justice ≡ record { sizes = []; literals = [] }
  pub fairness : d.fairness ≡ []
  pub symbols : d.symbols ≡ []
  pub comment : d.comment ≡ None

abbrev pub UnrollingIsPlain : Type 0
UnrollingIsPlain = (c : Circuit) (frames : ℕ)
    → AllByRecursion (λ (r : Reset). r ≡ resets.Zero) (resets_of c) → c.bad ≡ [] → c.constraints ≡ []
    → IsPlainlyUnrolled c frames (unrolled c frames)

-- For a trace from any first state, the unrolled circuit has exactly one trace of the one vector that sets its inputs
-- side by side: one row, with the outputs of the trace's rows side by side, and each bad state while all constraints
-- have held so far.
abbrev pub UnrollingKeepsTraces : Type 0
UnrollingKeepsTraces = (c d : Circuit) (first : List Val) (vectors : List (List Val)) (rows : List Row)
    → IsWellFormed c → IsWellFormed d → IsUnrolled c (length vectors) d → IsTrace c first vectors rows
    → (others : List Row)
    → IsTrace d [] (inputs_side_by_side c first vectors ∷ []) others
    ↔ (others ≡ side_by_side c first vectors rows ∷ [])
