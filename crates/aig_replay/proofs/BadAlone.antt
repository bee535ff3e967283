-- With one of its bad states alone, a circuit is well formed, and what is confirmed of it is confirmed of that one.
use Rattle.std.proofs.Common.{◌≡◌, ◌<◌, ◌++◌, ◌∙◌, ◌∷◌, ℕ, List, [], None, Option, Some, ap, ap₂, arith, get_or}
use Rattle.std.proofs.Common.{length, map, refl, subst, sym}
use Rattle.std.specs.List.{concat, flat_map}
use Rattle.std.proofs.lemmas.List.{get_or-map, length-map, map-append}
use Rattle.std.proofs.lemmas.List.Elements.{All-from_recursion, All-get_or, All-map, All-nil}
use Rattle.aig_circuit.specs.declared.circuit.Circuit.{Circuit}
use Rattle.aig_circuit.specs.declared.value.Val.{Val}
use Rattle.aig_circuit.specs.declared.value.Val.TheVariants.{Zero}
use Rattle.aig_circuit.specs.Wellformed.{IsKnown, IsWellFormed, defined_variables, literal_lists, operands}
use Rattle.aig_circuit.proofs.Checking.{back, front, joined}
use Rattle.aig_meaning.specs.Meaning.{IsRow, Row, literal_value, next_literals}
use Rattle.aig_meaning.specs.Trace.{Follow}
use Rattle.aig_meaning.proofs.Traces.{same_row}
use Rattle.aig_witness.specs.declared.verdict.Verdict.TheVariants.{Confirmed}
use Rattle.aig_witness.specs.Witness.{Claim, IsConfirmedAt, IsFirstConfirmed, IsHeld, IsVerdict}
use Rattle.aig_reach.proofs.Whole.{unsatisfiable_means_none}
use Rattle.aig_replay.specs.Alone.{HasSelected, selected_of, with_bad_alone}
use Rattle.aig_replay.specs.Laws.{RefutedMeansNone}
use Rattle.aig_replay.proofs.FirstFound.{empty_before, here, later, later_too, split}

pub alone_is_well_formed : (c : Circuit) (n : ℕ) → n < length c.bad → IsWellFormed c
    → IsWellFormed (with_bad_alone n c)
alone_is_well_formed c n low good =
    let P = IsKnown (defined_variables c) in
    let bad = get_or c.bad n 0 in
    let rest = concat (c.constraints ∷ c.justice.literals ∷ c.fairness ∷ []) in
    let gates = flat_map operands c.gates in
    let lists = concat (literal_lists c) in
    let nexts = next_literals c in
    let used = front P (nexts ++ lists) gates good.known in
    let in_lists = back P nexts lists used in
    let others = back P c.outputs (c.bad ++ rest) in_lists in
    let one : P bad = All-get_or P c.bad n 0 low (All-from_recursion P c.bad (front P c.bad rest others)) in
    record {
      limits = record {
        max_var = good.limits.max_var;
        inputs = good.limits.inputs;
        latches = good.limits.latches;
        literals = (good.limits.literals.0, (omega arith, good.limits.literals.1.1));
        justice = good.limits.justice;
        sizes = good.limits.sizes;
        gates = good.limits.gates;
      };
      in_range = good.in_range;
      once = good.once;
      known = joined P (nexts ++ (c.outputs ++ bad ∷ rest)) gates
          (joined P nexts (c.outputs ++ bad ∷ rest) (front P nexts lists used)
          (joined P c.outputs (bad ∷ rest) (front P c.outputs (c.bad ++ rest) in_lists)
          (one, back P c.bad rest others)))
          (back P (nexts ++ lists) gates good.known);
      symbols = record { positions = tt; apart = tt; lines = tt };
      ranked = good.ranked;
    }

pub selected_is_well_formed : (selected : Option ℕ) (c : Circuit) → HasSelected selected c → IsWellFormed c
    → IsWellFormed (selected_of selected c)
selected_is_well_formed None c there good = good
selected_is_well_formed (Some n) c there good = alone_is_well_formed c n there good

-- what can be seen of a step where one bad state is alone
abbrev row_alone : ℕ → Row → Row
row_alone n row = record row { bad = get_or row.bad n Zero ∷ [] }

module _ (c : Circuit) (n : ℕ) (low : n < length c.bad) where
  row_back : (row : Row) → IsRow (with_bad_alone n c) row → (full : Row) × IsRow c full × (row ≡ row_alone n full)
  row_back row (a, shown) =
      let full : Row = record row { bad = map (literal_value a) c.bad } in
      let one : row.bad ≡ get_or full.bad n Zero ∷ [] =
      shown.bad_shown ∙ ap (λ (v : Val). v ∷ []) (sym (get_or-map (literal_value a) c.bad n 0 Zero low)) in (
        full,
        (
          a,
          record {
            assigned = record {
              constant = shown.assigned.constant;
              inputs = shown.assigned.inputs;
              latches = shown.assigned.latches;
              gates = shown.assigned.gates;
            };
            outputs_shown = shown.outputs_shown;
            next_shown = shown.next_shown;
            bad_shown = refl;
            constraints_shown = shown.constraints_shown;
          },
        ),
        same_row row (row_alone n full) refl refl refl refl one refl,
      )

  follow_back : (state : List Val) (vectors : List (List Val)) (rows : List Row)
      → Follow (with_bad_alone n c) state vectors rows
      → (full : List Row) × Follow c state vectors full × (rows ≡ map (row_alone n) full)
  follow_back state [] [] follow = ([], tt, refl)
  follow_back state [] (r ∷ rs) follow = absurd follow
  follow_back state (v ∷ vs) [] follow = absurd follow
  follow_back state (v ∷ vs) (r ∷ rs) follow =
      let row = row_back r follow.2 in
      let rest = follow_back r.next vs rs follow.3 in
      let next : r.next ≡ (row.0).next = ap (λ (q : Row). q.next) row.2 in (
        row.0 ∷ rest.0,
        (
          sym (ap (λ (q : Row). q.state) row.2) ∙ follow.0,
          sym (ap (λ (q : Row). q.inputs) row.2) ∙ follow.1,
          row.1,
          subst (λ (s : List Val). Follow c s vs rest.0) next rest.1,
        ),
        ap₂ (λ q qs. q ∷ qs) row.2 rest.2,
      )

  confirmed_back : (rows : List Row) (at : ℕ) → IsConfirmedAt 0 (map (row_alone n) rows) at
      → IsConfirmedAt n rows at
  confirmed_back [] at is = absurd (empty_before is.before is.row is.behind is.parted)
  confirmed_back (r ∷ rs) at is = elim (split 0 (row_alone n r) (map (row_alone n) rs) at is) [
    | here place bad holds ↦ record {
      before = [];
      row = r;
      behind = rs;
      parted = refl;
      place = place;
      is_bad = bad;
      holds = holds;
      held = All-nil IsHeld;
    }
    | later k place holds on ↦ subst (λ (m : ℕ). IsConfirmedAt n (r ∷ rs) m) (sym place)
        (later_too n r rs k holds (confirmed_back rs k on))
  ]

  confirmed_there : (rows : List Row) (at : ℕ) → IsConfirmedAt n rows at
      → IsConfirmedAt 0 (map (row_alone n) rows) at
  confirmed_there rows at is = record {
    before = map (row_alone n) is.before;
    row = row_alone n is.row;
    behind = map (row_alone n) is.behind;
    parted = ap (map (row_alone n)) is.parted ∙ map-append (row_alone n) is.before (is.row ∷ is.behind);
    place = is.place ∙ sym (length-map is.before (row_alone n));
    is_bad = is.is_bad;
    holds = is.holds;
    held = All-map IsHeld (row_alone n) is.before is.held;
  }

  row_there : (full : Row) → IsRow c full → IsRow (with_bad_alone n c) (row_alone n full)
  row_there full (a, shown) = (
    a,
    record {
      assigned = record {
        constant = shown.assigned.constant;
        inputs = shown.assigned.inputs;
        latches = shown.assigned.latches;
        gates = shown.assigned.gates;
      };
      outputs_shown = shown.outputs_shown;
      next_shown = shown.next_shown;
      bad_shown = ap (λ (v : Val). v ∷ [])
          (ap (λ (vs : List Val). get_or vs n Zero) shown.bad_shown ∙ get_or-map (literal_value a) c.bad n 0 Zero low);
      constraints_shown = shown.constraints_shown;
    },
  )

  follow_there : (state : List Val) (vectors : List (List Val)) (rows : List Row) → Follow c state vectors rows
      → Follow (with_bad_alone n c) state vectors (map (row_alone n) rows)
  follow_there state [] [] follow = tt
  follow_there state [] (r ∷ rs) follow = absurd follow
  follow_there state (v ∷ vs) [] follow = absurd follow
  follow_there state (v ∷ vs) (r ∷ rs) follow =
      (follow.0, follow.1, row_there r follow.2, follow_there r.next vs rs follow.3)

  pub verdict_there : (claim : Claim) (step : ℕ) → claim.property ≡ n → IsVerdict c claim (Confirmed step)
      → IsVerdict (with_bad_alone n c) (record claim { property = 0 }) (Confirmed step)
  verdict_there claim step named is =
      let first : IsFirstConfirmed n is.rows step =
      subst (λ (p : ℕ). IsFirstConfirmed p is.rows step) named is.is_verdict in
      record {
        rows = map (row_alone n) is.rows;
        trace = (is.trace.0, follow_there claim.first claim.steps is.rows is.trace.1);
        is_verdict = record {
          confirmed = confirmed_there is.rows step first.confirmed;
          first = λ earlier less on. first.first earlier less (confirmed_back is.rows earlier on);
        };
      }

  pub verdict_back : (claim : Claim) (step : ℕ) → claim.property ≡ 0
      → IsVerdict (with_bad_alone n c) claim (Confirmed step)
      → IsVerdict c (record claim { property = n }) (Confirmed step)
  verdict_back claim step zero is =
      let full = follow_back claim.first claim.steps is.rows is.trace.1 in
      let first : IsFirstConfirmed 0 (map (row_alone n) full.0) step =
      subst (λ (rs : List Row). IsFirstConfirmed 0 rs step) full.2
      (subst (λ (p : ℕ). IsFirstConfirmed p is.rows step) zero is.is_verdict) in
      record {
        rows = full.0;
        trace = (is.trace.0, full.1);
        is_verdict = record {
          confirmed = confirmed_back full.0 step first.confirmed;
          first = λ earlier less on. first.first earlier less (confirmed_there full.0 earlier on);
        };
      }

pub refuted_means_none : RefutedMeansNone
refuted_means_none c d None frames good there formed unrolled none claim step low named is =
    unsatisfiable_means_none c d frames good formed unrolled none claim step low is
refuted_means_none c d (Some n) frames good there formed unrolled none claim step low named is =
    unsatisfiable_means_none (with_bad_alone n c) d frames (alone_is_well_formed c n there good) formed unrolled none
    (record claim { property = 0 }) step low (verdict_there c n there claim step (named n refl) is)
