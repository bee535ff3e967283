-- A file and its conversion get the same verdict on witness files of justice properties.
use Rattle.std.proofs.Common.{◌≡◌, ◌∙◌, ◌++◌, ◌∷◌, ℕ, zero, suc, List, [], Bool, true, false, ap, ap₂, drop, inl, length}
use Rattle.std.proofs.Common.{if◌then◌else◌, map, refl, slice_index_or, subst, sym, take}
use Rattle.std.specs.List.{sum}
use Rattle.std.proofs.lemmas.List.{drop-map, length-map, map-append, take-map}
use Rattle.aig_circuit.specs.declared.circuit.Circuit.{Circuit}
use Rattle.aig_circuit.specs.declared.circuit.Kind.TheVariants as kinds
use Rattle.aig_circuit.specs.declared.circuit.TheConstants.{LARGEST}
use Rattle.aig_circuit.specs.declared.value.Val.{Val}
use Rattle.aig_circuit.specs.declared.value.Val.TheVariants.{Zero}
use Rattle.aig_circuit.specs.Justice.{literals_of_each}
use Rattle.aig_circuit.specs.Wellformed.{IsWellFormed}
use Rattle.aig_image.proofs.Imaging.Ordered.{image_is_ordered}
use Rattle.aig_image.proofs.Meaning.{image_means_the_same}
use Rattle.aig_lasso.specs.Goals.{goals_of, own_goals, with_goals}
use Rattle.aig_lasso.specs.Lasso.{IsLasso, IsLassoAt, IsLassoVerdict}
use Rattle.aig_lasso.specs.declared.verdict.LassoVerdict.{LassoVerdict}
use Rattle.aig_lasso.specs.declared.verdict.LassoVerdict.TheVariants.{Confirmed, NotConfirmed}
use Rattle.aig_meaning.specs.Meaning.{IsReadOff, IsRow, IsStepAssignment, MeansTheSame, Row, literal_value}
use Rattle.aig_meaning.proofs.Traces.{means_itself, same_back, same_meaning_same_traces, same_through}
use Rattle.aig_simplify.specs.Kept.{KeepsGoals}
use Rattle.aig_simplify.proofs.Kept.{goals_carried, goals_through, image_stays, values_back}
use Rattle.aig_verdicts.specs.Comments.{uncommented}
use Rattle.aig_verdicts.specs.Kinds.{SaysJustice, justice_shape}
use Rattle.aig_verdicts.specs.declared.verdict.WitnessVerdict.TheVariants.{Justice}
use Rattle.aig_witness.specs.Witness.{Claim, Says, Shape}
use Rattle.aig_binary.proofs.Files.{one_circuit}
use Rattle.aig_command.specs.declared.request.Sim.{Sim}
use Rattle.aig_commands.specs.Conversion.{IsTextAs, IsWritten, stripped}
use Rattle.aig_commands.specs.File.{IsFileOf}
use Rattle.aig_commands.specs.Laws.{JusticeVerdictsAreKept}
use Rattle.aig_commands.specs.WitnessOutcome.{IsWitnessAnswer}
use Rattle.aig_commands.proofs.Meant.{changed_by}
use Rattle.aig_commands.proofs.Trips.{ascii_file, binary_file}
use Rattle.aig_commands.proofs.TripsExist.{well_formed_file}

-- ---- the literals of one property

own_alike : (f g : ℕ → Val) (sizes xs ys : List ℕ) → map f xs ≡ map g ys → (property : ℕ)
    → map f (slice_index_or (literals_of_each sizes xs) property [])
    ≡ map g (slice_index_or (literals_of_each sizes ys) property [])
own_alike f g [] xs ys same property = refl
own_alike f g (size ∷ sizes) xs ys same zero =
    sym (take-map f size xs) ∙ ap (take size) same ∙ take-map g size ys
own_alike f g (size ∷ sizes) xs ys same (suc property) =
    own_alike f g sizes (drop size xs) (drop size ys)
    (sym (drop-map f size xs) ∙ ap (drop size) same ∙ drop-map g size ys) property

-- ---- circuits whose goals have the same values

-- what of a circuit's goals stays
record GoalsStay (c d : Circuit) : Type 0 where
  pub same : MeansTheSame c d
  pub sizes : d.justice.sizes ≡ c.justice.sizes
  pub fair : length d.fairness ≡ length c.fairness
  pub goals : KeepsGoals c d

stay_back : (c d : Circuit) → GoalsStay c d → GoalsStay d c
stay_back c d s = record {
  same = same_back c d s.same;
  sizes = sym s.sizes;
  fair = sym s.fair;
  goals = record {
    justice = values_back (λ (e : Circuit). e.justice.literals) c d s.goals.justice;
    fairness = values_back (λ (e : Circuit). e.fairness) c d s.goals.fairness;
  };
}

same_length : (f : ℕ → Val) (xs ys : List ℕ) → map f xs ≡ map f ys → length xs ≡ length ys
same_length f xs ys same = sym (length-map xs f) ∙ ap (λ (vs : List Val). length vs) same ∙ length-map ys f

zeros : (xs ys : List ℕ) → length xs ≡ length ys → map (λ (v : ℕ). Zero) xs ≡ map (λ (v : ℕ). Zero) ys
zeros [] [] same = refl
zeros [] (y ∷ ys) same = cc
zeros (x ∷ xs) [] same = cc
zeros (x ∷ xs) (y ∷ ys) same = ap (λ (vs : List Val). Zero ∷ vs) (zeros xs ys cc)

module _ (property : ℕ) (c d : Circuit) (s : GoalsStay c d) where
  goals_alike : (f g : ℕ → Val) → map f d.justice.literals ≡ map g c.justice.literals
      → map f d.fairness ≡ map g c.fairness → map f (goals_of property d) ≡ map g (goals_of property c)
  goals_alike f g justice fairness =
      let own : map f (own_goals property d) ≡ map g (own_goals property c) =
      ap (λ (ns : List ℕ). map f (slice_index_or (literals_of_each ns d.justice.literals) property [])) s.sizes
      ∙ own_alike f g c.justice.sizes d.justice.literals c.justice.literals justice property in
      map-append f (own_goals property d) d.fairness ∙ ap₂ (λ (xs ys : List Val). xs ++ ys) own fairness
      ∙ sym (map-append g (own_goals property c) c.fairness)

  as_many : IsWellFormed c → IsWellFormed d → length (goals_of property d) ≡ length (goals_of property c)
  as_many good good_too =
      let literals : length d.justice.literals ≡ length c.justice.literals =
      sym good_too.limits.sizes ∙ ap (λ (ns : List ℕ). sum ns) s.sizes ∙ good.limits.sizes in
      same_length (λ (v : ℕ). Zero) (goals_of property d) (goals_of property c)
      (goals_alike (λ (v : ℕ). Zero) (λ (v : ℕ). Zero) (zeros d.justice.literals c.justice.literals literals)
      (zeros d.fairness c.fairness s.fair))

  -- a row with the goals as bad states is one of the other
  goal_row : (row : Row) → IsRow (with_goals property c) row → IsRow (with_goals property d) row
  goal_row row (a, shown) =
      let plain : Row = record row { bad = map (literal_value a) c.bad } in
      let assigned : IsStepAssignment c row.state row.inputs a = record {
        constant = shown.assigned.constant;
        inputs = shown.assigned.inputs;
        latches = shown.assigned.latches;
        gates = shown.assigned.gates;
      } in
      let of_c : IsReadOff c plain a = record {
        assigned = assigned;
        outputs_shown = shown.outputs_shown;
        next_shown = shown.next_shown;
        bad_shown = refl;
        constraints_shown = shown.constraints_shown;
      } in
      let there = (s.same.rows plain).0 (a, of_c) in
      let other = there.1 in
      let given = other.assigned in (
        there.0,
        record {
          assigned = record {
            constant = given.constant;
            inputs = given.inputs;
            latches = given.latches;
            gates = given.gates;
          };
          outputs_shown = other.outputs_shown;
          next_shown = other.next_shown;
          bad_shown = shown.bad_shown
              ∙ sym (goals_alike (literal_value there.0) (literal_value a)
              (s.goals.justice row.state row.inputs a there.0 assigned given)
              (s.goals.fairness row.state row.inputs a there.0 assigned given));
          constraints_shown = other.constraints_shown;
        },
      )

module _ (c d : Circuit) (good : IsWellFormed c) (good_too : IsWellFormed d) (s : GoalsStay c d) where
  goals_mean_the_same : (property : ℕ) → MeansTheSame (with_goals property c) (with_goals property d)
  goals_mean_the_same property = record {
    inputs = s.same.inputs;
    resets = s.same.resets;
    rows = λ row. (goal_row property c d s row, goal_row property d c (stay_back c d s) row);
  }

  lasso_there : (claim : Claim) (start : ℕ) → IsLasso c claim start → IsLasso d claim start
  lasso_there claim start is = record {
    rows = is.rows;
    trace = (same_meaning_same_traces (with_goals claim.property c) (with_goals claim.property d)
        (goals_mean_the_same claim.property) claim.first claim.steps is.rows).0 is.trace;
    lasso = subst (λ n. IsLassoAt n claim.first is.rows start) (sym (as_many claim.property c d s good good_too))
        is.lasso;
  }

  says_there : (bytes : List ℕ) (claim : Claim) → SaysJustice c bytes claim → SaysJustice d bytes claim
  says_there bytes claim says =
      let shape : justice_shape (length c.justice.sizes) c ≡ justice_shape (length d.justice.sizes) d =
      sym (ap₂ (λ rs (p : ℕ × ℕ). record { letter = 106; properties = p.0; resets = rs; inputs = p.1 }) s.same.resets
      (ap₂ (λ (m n : ℕ). (m, n)) (ap (λ (ns : List ℕ). length ns) s.sizes) s.same.inputs)) in
      subst (λ (k : Shape). Says k bytes claim) shape says

verdict_there : (c d : Circuit) → IsWellFormed c → IsWellFormed d → GoalsStay c d → (claim : Claim)
    (verdict : LassoVerdict) → IsLassoVerdict c claim verdict → IsLassoVerdict d claim verdict
verdict_there c d good good_too s claim (Confirmed start) is = (
  lasso_there c d good good_too s claim start is.0,
  λ earlier before found.
      is.1 earlier before (lasso_there d c good_too good (stay_back c d s) claim earlier found),
)
verdict_there c d good good_too s claim NotConfirmed is =
    λ start found. is start (lasso_there d c good_too good (stay_back c d s) claim start found)

-- a verdict for the file of a circuit is one for the file of a circuit whose goals have the same values
judged_there : (before after : Sim) (file other witness : List ℕ) (verdict : LassoVerdict) (c d : Circuit)
    → before.max_var ≡ LARGEST → after.max_var ≡ LARGEST → IsFileOf file LARGEST c → IsFileOf other LARGEST d
    → GoalsStay c d → IsWitnessAnswer before file witness (Justice verdict)
    → IsWitnessAnswer after other witness (Justice verdict)
judged_there before after file other witness verdict c d limit limit_after is is_other s p =
    let same : p.found ≡ c =
    one_circuit file LARGEST p.found c (subst (λ n. IsFileOf file n p.found) limit p.read) is in
    let good = well_formed_file file LARGEST c is in
    let good_too = well_formed_file other LARGEST d is_other in
    record {
      found = d;
      claim = p.claim;
      read = subst (λ n. IsFileOf other n d) (sym limit_after) is_other;
      says = says_there c d good good_too s (uncommented witness) p.claim
          (subst (λ (e : Circuit). SaysJustice e (uncommented witness) p.claim) same p.says);
      is_verdict = verdict_there c d good good_too s p.claim verdict
          (subst (λ (e : Circuit). IsLassoVerdict e p.claim verdict) same p.is_verdict);
    }

-- ---- a conversion

through : (c e d : Circuit) → IsWellFormed e → GoalsStay c e → GoalsStay e d → GoalsStay c d
through c e d good first second = record {
  same = same_through c e d first.same second.same;
  sizes = second.sizes ∙ first.sizes;
  fair = second.fair ∙ first.fair;
  goals = goals_through c e d good first.same first.goals second.goals;
}

stays_itself : (c : Circuit) → IsWellFormed c → GoalsStay c c
stays_itself c good = record {
  same = means_itself c;
  sizes = refl;
  fair = refl;
  goals = goals_carried c c good (λ a. a) (λ state given b is. is) (λ b. refl) (λ b. refl);
}

-- names and comment are no goals
left_stays : (strip : Bool) (c : Circuit) → IsWellFormed c → GoalsStay c (if strip then stripped c else c)
left_stays true c good = record {
  same = (changed_by true c good).1;
  sizes = refl;
  fair = refl;
  goals = goals_carried c (stripped c) good (λ a. a)
      (λ state given b is. record {
        constant = is.constant;
        inputs = is.inputs;
        latches = is.latches;
        gates = is.gates;
      })
      (λ b. refl) (λ b. refl);
}
left_stays false c good = stays_itself c good

written_stays : (simplify : Bool) (c written : Circuit) → IsWellFormed c → IsWritten simplify c written
    → IsWellFormed written × GoalsStay c written
written_stays true c written good is = (
  is.formed,
  record { same = is.same; sizes = is.names.sizes; fair = is.names.counts kinds.Fairness; goals = is.goals },
)
written_stays false c written good is = rw is (good, stays_itself c good)

file_stays : (ascii : Bool) (c : Circuit) (text : List ℕ) → IsWellFormed c → IsTextAs ascii false c text
    → (d : Circuit) × IsFileOf text LARGEST d × GoalsStay c d
file_stays true c text good is = (c, inl (ascii_file c text good is), stays_itself c good)
file_stays false c text good (image, is_image, is) =
    let ordered = image_is_ordered c image good is_image in
    let stays = image_stays c image is_image good (image_means_the_same c image good is_image) in (
      image,
      binary_file image text ordered.0 ordered.1 is,
      record {
        same = stays.0;
        sizes = stays.1.sizes;
        fair = stays.1.counts kinds.Fairness;
        goals = stays.2;
      },
    )

pub justice_verdicts_are_kept : JusticeVerdictsAreKept
justice_verdicts_are_kept request before after still no_map kept limit limit_before limit_after file converted witness
    verdict p =
    let c : Circuit = p.found in
    let good = well_formed_file file request.max_var c p.read in
    let source : p.source ≡ c = rw kept at p.is_source in
    let asked : Circuit = if request.strip then stripped c else c in
    let is_written : IsWritten request.simplify asked p.written = rw (still, source) at p.is_written in
    let good_left = (changed_by request.strip c good).0 in
    let written = written_stays request.simplify asked p.written good_left is_written in
    let made = file_stays request.ascii p.written converted written.0 (rw no_map at p.written_as) in
    let stays = through c asked made.0 good_left (left_stays request.strip c good)
    (through asked p.written made.0 written.0 written.1 made.2) in
    let is : IsFileOf file LARGEST c = subst (λ n. IsFileOf file n c) limit p.read in (
      judged_there before after file converted witness verdict c made.0 limit_before limit_after is made.1 stays,
      judged_there after before converted file witness verdict made.0 c limit_after limit_before made.1 is
          (stay_back c made.0 stays),
    )
