-- A witness that is confirmed, in the unrolled circuit.
use Rattle.std.proofs.lemmas.Grind.{common_steps}
use Rattle.std.proofs.Common.{◌≡◌, ◌+◌, ◌*◌, ◌<◌, ◌++◌, ◌∷◌, ◌∙◌, ℕ, zero, suc, List, [], ap, arith, get_or, length}
use Rattle.std.proofs.Common.{map, refl, subst, sym, take}
use Rattle.std.specs.List.{All}
use Rattle.std.proofs.Math.Seq.{take-append-add}
use Rattle.std.proofs.lemmas.List.{append-nil, get_or-append-add, get_or-map, length-append, length-map, length-take}
use Rattle.aig_circuit.specs.declared.circuit.Circuit.{Circuit}
use Rattle.aig_circuit.specs.declared.value.Val.{Val}
use Rattle.aig_circuit.specs.declared.value.Val.TheVariants.{Zero, One}
use Rattle.aig_circuit.specs.Values.{value_and}
use Rattle.aig_meaning.specs.Meaning.{IsRow, Row, literal_value}
use Rattle.aig_meaning.specs.Trace.{Follow, IsTrace}
use Rattle.aig_witness.specs.Witness.{IsHeld, IsBad, IsConfirmedAt}
use Rattle.aig_commands.specs.Laws.{ConfirmedWitnessesSetUnrolledCircuits}
use Rattle.aig_unroll.specs.Unrolled.{IsUnrolled}
use Rattle.aig_unroll.specs.SideBySide.{and_all, bad_side_by_side, side_by_side}
use Rattle.aig_unroll.proofs.Traces.Whole.{unrolling_keeps_traces}

-- the beginning of a trace is the trace of the beginning of its vectors
begins : (c : Circuit) (state : List Val) (n : ℕ) (vectors : List (List Val)) (rows : List Row)
    → Follow c state vectors rows → Follow c state (take n vectors) (take n rows)
begins c state zero vectors rows follow = tt
begins c state (suc n) [] [] follow = tt
begins c state (suc n) [] (row ∷ rows) follow = absurd follow
begins c state (suc n) (vector ∷ vectors) [] follow = absurd follow
begins c state (suc n) (vector ∷ vectors) (row ∷ rows) follow =
    (follow.0, follow.1, follow.2, begins c row.next n vectors rows follow.3)

-- a row for each vector
as_long : (c : Circuit) (state : List Val) (vectors : List (List Val)) (rows : List Row)
    → Follow c state vectors rows → length vectors ≡ length rows
as_long c state [] [] follow = refl
as_long c state [] (row ∷ rows) follow = absurd follow
as_long c state (vector ∷ vectors) [] follow = absurd follow
as_long c state (vector ∷ vectors) (row ∷ rows) follow = ap suc (as_long c row.next vectors rows follow.3)

-- a value for each bad state
bad_long : (c : Circuit) (row : Row) → IsRow c row → length row.bad ≡ length c.bad
bad_long c row is = ap length is.1.bad_shown ∙ length-map c.bad (literal_value is.0)

-- where all constraints are 1, their `and` is
all_one : (values : List Val) → All (λ (v : Val). v ≡ One) values → and_all One values ≡ One
all_one [] ones = refl
all_one (v ∷ vs) ones =
    ap (λ (x : Val). and_all (value_and One x) vs) (ones 0 v (omega arith))
    ∙ all_one vs (λ i d below. ones (suc i) d (omega (arith, below)))

-- a place at which there is a 1 is one of the list
within : (values : List Val) (i : ℕ) → get_or values i Zero ≡ One → i < length values
within [] i is = cc
within (v ∷ vs) zero is = omega arith
within (v ∷ vs) (suc i) is = let behind = within vs i is in omega (arith, behind)

-- the bad state of the last row, after those of the rows before it
last_bad : (c : Circuit) (state : List Val) (vectors : List (List Val)) (property : ℕ) (before : List Row) (row : Row)
    → Follow c state vectors (before ++ row ∷ []) → All IsHeld before → IsHeld row → IsBad property row
    → get_or (bad_side_by_side One (before ++ row ∷ [])) (length before * length c.bad + property) Zero ≡ One
last_bad c state [] property [] row follow held holds is = absurd follow
last_bad c state (vector ∷ vectors) property [] row follow held holds is =
    grind (arith, common_steps, all_one, append-nil, get_or-map, within)
last_bad c state [] property (r ∷ rs) row follow held holds is = absurd follow
last_bad c state (vector ∷ vectors) property (r ∷ rs) row follow held holds is =
    let front = map (value_and One) r.bad in
    let long : length front ≡ length c.bad = length-map r.bad (value_and One) ∙ bad_long c r follow.2 in
    let place : length (r ∷ rs) * length c.bad + property ≡ length front + (length rs * length c.bad + property) =
    omega arith in
    let others : All IsHeld rs = λ i d under. held (suc i) d (omega (arith, under)) in
    rw (all_one r.constraints (held 0 r (omega arith)), place, get_or-append-add)
    (last_bad c r.next vectors property rs row follow.3 others holds is)

-- what a trace confirms
reached : (c d : Circuit) (first : List Val) (steps : List (List Val)) (rows : List Row) (property step : ℕ)
    → IsTrace c first steps rows → IsConfirmedAt property rows step
    → (length (take (step + 1) steps) ≡ step + 1)
    × IsTrace c first (take (step + 1) steps) (take (step + 1) rows)
    × (get_or (bad_side_by_side One (take (step + 1) rows)) (step * length c.bad + property) Zero ≡ One)
reached c d first steps rows property step trace is =
    let long = as_long c first steps rows trace.1 in
    let parted : length rows ≡ length is.before + length (is.row ∷ is.behind) =
    ap length is.parted ∙ length-append is.before (is.row ∷ is.behind) in
    let front : take (step + 1) rows ≡ is.before ++ is.row ∷ [] =
    rw (is.place, is.parted) (take-append-add is.before (is.row ∷ is.behind) 1) in
    let begun = begins c first (step + 1) steps rows trace.1 in (
      length-take (step + 1) steps ∙ omega (arith, long, parted, is.place),
      (trace.0, begun),
      rw (front, is.place)
          (last_bad c first (take (step + 1) steps) property is.before is.row (rw front at begun) is.held is.holds
          is.is_bad),
    )

pub confirmed_witnesses_set_unrolled_circuits : ConfirmedWitnessesSetUnrolledCircuits
confirmed_witnesses_set_unrolled_circuits c d claim step well well_too unrolled verdict =
    let vectors = take (step + 1) claim.steps in
    let rows = take (step + 1) verdict.rows in
    let is = reached c d claim.first claim.steps verdict.rows claim.property step verdict.trace
    verdict.is_verdict.confirmed in
    let frames = subst (λ (n : ℕ). IsUnrolled c n d) (sym is.0) unrolled in (
      side_by_side c claim.first vectors rows,
      is.2,
      unrolling_keeps_traces c d claim.first vectors rows well well_too frames is.1,
    )
