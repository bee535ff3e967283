-- What is known of a miter's file is known of both circuits.
use Rattle.std.proofs.Common.{◌≡◌, ◌+◌, ◌∙◌, ℕ, List, None, Bool, arith, true, false, length, refl}
use Rattle.std.proofs.Common.{subst, sym}
use Rattle.aig_circuit.specs.declared.circuit.Circuit.{Circuit}
use Rattle.aig_circuit.specs.declared.circuit.TheConstants.{LARGEST}
use Rattle.aig_circuit.specs.Wellformed.{IsWellFormed}
use Rattle.aig_command.specs.declared.request.Miter.{Miter}
use Rattle.aig_command.specs.declared.request.Property.{Property}
use Rattle.aig_equal.specs.Alike.{AreAlikeFor, IsUnreachedFor}
use Rattle.aig_equal.proofs.Whole.{alike_exactly_where_unreached}
use Rattle.aig_invariant.specs.Invariant.{with_invariant}
use Rattle.aig_invariant.specs.Laws.{IsNever}
use Rattle.aig_invariant.specs.Outcome.{HasCubes}
use Rattle.aig_meaning.specs.Meaning.{MeansTheSame}
use Rattle.aig_meaning.proofs.Traces.{same_back, same_through}
use Rattle.aig_miter.specs.Laws.{IsMiterOf}
use Rattle.aig_miter.proofs.Whole.{miter_is_well_formed}
use Rattle.aig_pairing.specs.NameFaults.{first_name_fault}
use Rattle.aig_pairing.proofs.Ordered.{ordered_is_well_formed}
use Rattle.aig_witness.specs.declared.verdict.Verdict.{Verdict}
use Rattle.aig_witness.specs.declared.verdict.Verdict.TheVariants.{Confirmed}
use Rattle.aig_witness.specs.Witness.{Claim, IsVerdict}
use Rattle.aig_witness.proofs.WitnessEnds.{verdict_too}
use Rattle.aig_witness.proofs.Witnessing.{same_bad}
use Rattle.aig_binary.proofs.Files.{one_circuit}
use Rattle.aig_commands.specs.Comparing.{IsFirst, IsMiterText, IsPaired}
use Rattle.aig_commands.specs.ComparingLaws.{ConfirmedMeansDifferent, MiterTextsAreFiles, MiterTextsAreUnambiguous}
use Rattle.aig_commands.specs.ComparingLaws.{NeverMeansAlike, NoneMeansAlike}
use Rattle.aig_commands.specs.Conversion.{IsTextAs}
use Rattle.aig_commands.specs.File.{IsFileOf}
use Rattle.aig_commands.specs.Proving.{NoRunHas}
use Rattle.aig_commands.specs.Refuting.{IsNoneWithin, NoRunHasWithin}
use Rattle.aig_commands.proofs.Meant.{file_as, written_by}
use Rattle.aig_commands.proofs.Properties.{any_claim}
use Rattle.aig_commands.proofs.Trips.{one_text}
use Rattle.aig_commands.proofs.TripsExist.{well_formed_file}

paired_is_well_formed : (by_name : Bool) (first second paired : Circuit) → IsWellFormed first → IsWellFormed second
    → (by_name ≡ true → first_name_fault first ≡ None) → IsPaired by_name first second paired → IsWellFormed paired
paired_is_well_formed true first second paired good good_too named is =
    ordered_is_well_formed first second paired
    (record { first = good; second = good_too; named = named refl; ordered = is })
paired_is_well_formed false first second paired good good_too named is = subst IsWellFormed (sym is) good_too

module _ (request : Miter) (first : Circuit) (one two text : List ℕ) (is_first : IsFirst request one first)
    (p : IsMiterText request first two text) where
  made_of : IsMiterOf first p.is_made.paired p.made
  made_of =
      let good = well_formed_file one request.max_var first is_first.read in
      let good_too = well_formed_file two request.max_var p.second p.read in
      record {
        first = good;
        second = paired_is_well_formed request.by_name first p.second p.is_made.paired good good_too
            is_first.accepted.named p.is_made.is_paired;
        made = p.is_made.is_made;
      }

  good_made : IsWellFormed p.made
  good_made = miter_is_well_formed first p.is_made.paired p.made made_of

  pub the_file : (d : Circuit) × IsFileOf text LARGEST d × MeansTheSame p.made d
  the_file =
      let written = written_by request.simplify p.made p.written good_made p.is_written in
      let held = file_as request.ascii false p.written text written.0 p.written_as in
      (held.0, held.1, same_through p.made p.written held.0 written.1 held.2)

  -- what is read of the text is that circuit
  is_it : (limit : ℕ) (found : Circuit) → limit ≡ LARGEST → IsFileOf text limit found → found ≡ the_file.0
  is_it limit found largest read =
      one_circuit text LARGEST found the_file.0 (subst (λ n. IsFileOf text n found) largest read) the_file.1

  as_many_bad : length p.made.bad ≡ length the_file.0.bad
  as_many_bad = sym (same_bad p.made the_file.0 good_made the_file.2)

  -- a verdict on the miter is one on what is read, and back
  on_file : (found : Circuit) (claim : Claim) (verdict : Verdict) → found ≡ the_file.0 → IsVerdict p.made claim verdict
      → IsVerdict found claim verdict
  on_file found claim verdict same is =
      subst (λ (c : Circuit). IsVerdict c claim verdict) (sym same)
      (verdict_too the_file.0 p.made (same_back p.made the_file.0 the_file.2) as_many_bad claim verdict is)

  on_miter : (found : Circuit) (claim : Claim) (verdict : Verdict) → found ≡ the_file.0 → IsVerdict found claim verdict
      → IsVerdict p.made claim verdict
  on_miter found claim verdict same is =
      verdict_too p.made the_file.0 the_file.2 (sym as_many_bad) claim verdict
      (subst (λ (c : Circuit). IsVerdict c claim verdict) same is)

  alike_where : (frames : ℕ) → IsUnreachedFor frames p.made → AreAlikeFor frames first p.is_made.paired
  alike_where frames = (alike_exactly_where_unreached first p.is_made.paired p.made frames made_of).1

  unreached_where : (frames : ℕ) → AreAlikeFor frames first p.is_made.paired → IsUnreachedFor frames p.made
  unreached_where frames = (alike_exactly_where_unreached first p.is_made.paired p.made frames made_of).0

pub miter_texts_are_files : MiterTextsAreFiles
miter_texts_are_files request first one two text is_first p = the_file request first one two text is_first p

one_paired : (by_name : Bool) (first again second other paired paired_too : Circuit) → first ≡ again → second ≡ other
    → IsPaired by_name first second paired → IsPaired by_name again other paired_too → paired ≡ paired_too
one_paired true first again second other paired paired_too same same_second is is_too = cc
one_paired false first again second other paired paired_too same same_second is is_too = cc

pub one_miter_text : MiterTextsAreUnambiguous
one_miter_text request first again one two text other whole is_first is_again p q =
    let same = one_circuit one request.max_var first again is_first.read is_again.read in
    let same_second = one_circuit two request.max_var p.second q.second p.read q.read in
    let paired = one_paired request.by_name first again p.second q.second p.is_made.paired q.is_made.paired same
    same_second p.is_made.is_paired q.is_made.is_paired in
    let made : p.made ≡ q.made = cc in
    let is : p.written ≡ p.made = rw whole at p.is_written in
    let is_too : q.written ≡ q.made = rw whole at q.is_written in
    one_text request.ascii false q.made text other
    (subst (λ m. IsTextAs request.ascii false m text) (is ∙ made) p.written_as)
    (subst (λ m. IsTextAs request.ascii false m other) is_too q.written_as)

pub none_means_alike : NoneMeansAlike
none_means_alike request reach first selected one two text said is_first p limit any of_model is =
    let has = of_model.has_clauses in
    let same = is_it request first one two text is_first p reach.max_var has.found limit has.read in
    let none : IsNoneWithin has.found None reach.frames =
    subst (λ (property : Property). NoRunHasWithin has.found property reach.frames) any
    (is.none has.found (well_formed_file text reach.max_var has.found has.read) has.is_text.is_unrolled.has_property
    of_model.selected_is) in
    alike_where request first one two text is_first p reach.frames
    (λ claim step low verdict.
    none claim step low (any_claim claim)
    (on_file request first one two text is_first p has.found claim (Confirmed step) same verdict))

pub never_means_alike : NeverMeansAlike
never_means_alike request proving first selected strengthened one two text invariant said is_first p limit any of_model
    of_invariant is frames =
    let has = of_model.has_clauses in
    let same = is_it request first one two text is_first p proving.max_var has.found limit has.read in
    let never : IsNever has.found None =
    subst (λ (property : Property). NoRunHas has.found property) any
    (is.never has.found invariant of_invariant.cubes
    (well_formed_file text proving.max_var has.found has.read) has.is_text.is_unrolled.has_property
    (subst (λ c. HasCubes c invariant of_invariant.cubes) of_model.selected_is of_invariant.has_cubes)
    (subst (λ c. strengthened ≡ with_invariant of_invariant.cubes c) of_model.selected_is
    of_invariant.strengthened_is)) in
    alike_where request first one two text is_first p frames
    (λ claim step low verdict.
    never claim step (any_claim claim)
    (on_file request first one two text is_first p has.found claim (Confirmed step) same verdict))

pub confirmed_means_different : ConfirmedMeansDifferent
confirmed_means_different request judging first one two text witness step is_first p limit answer alike =
    let same = is_it request first one two text is_first p judging.max_var answer.found limit answer.read in
    unreached_where request first one two text is_first p (step + 1) alike answer.claim step (omega arith)
    (on_miter request first one two text is_first p answer.found answer.claim (Confirmed step) same answer.is_verdict)
