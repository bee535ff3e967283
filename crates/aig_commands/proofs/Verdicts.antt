-- A model and a witness file have one verdict, a file and its conversion have the same, and right runs are confirmed.
use Rattle.std.proofs.Common.{◌≡◌, ◌⊎◌, ℕ, List, Bool, None, Option, Result, Ok, Err, Some, false, true, inl, inr, length}
use Rattle.std.proofs.Common.{option_map, refl, subst, sym}
use Rattle.std.proofs.lemmas.Bool.{cases_lt}
use Rattle.aig_circuit.specs.declared.circuit.Circuit.{Circuit}
use Rattle.aig_circuit.specs.declared.circuit.TheConstants.{LARGEST}
use Rattle.aig_meaning.specs.Meaning.{MeansTheSame}
use Rattle.aig_meaning.proofs.Traces.{same_back}
use Rattle.aig_command.specs.declared.request.Sim.{Sim}
use Rattle.aig_step.specs.Stimulus.{judged_lines}
use Rattle.aig_witness.specs.declared.verdict.Verdict.{Verdict}
use Rattle.aig_witness.specs.Witness.{Claim, IsVerdict, Nothing, Property, Said, SaysClaim, Steps, Version, Whole}
use Rattle.aig_witness.specs.Witness.{first_bad_line, shape_of, witness_of, wrong_line}
use Rattle.aig_witness.proofs.Verdicts.{one_verdict, claims_have_files}
use Rattle.aig_witness.proofs.WitnessEnds.{says_too, verdict_too}
use Rattle.aig_witness.proofs.Witnessing.{same_bad}
use Rattle.aig_fault.specs.Stopping.{fault_at}
use Rattle.aig_fault.specs.declared.fault.Fault.{Fault}
use Rattle.aig_fault.specs.declared.fault.Place.TheVariants.{Whole}
use Rattle.aig_fault.specs.declared.kind.Kind.TheVariants.{TooLargeJustice}
use Rattle.aig_io.specs.Runs.{AtEnd}
use Rattle.aig_lasso.specs.Goals.{goals_of}
use Rattle.aig_verdicts.proofs.Files.{justice_files_are_read}
use Rattle.aig_verdicts.proofs.Plain.{bad_state_kept}
use Rattle.aig_verdicts.specs.Comments.{uncommented}
use Rattle.aig_verdicts.proofs.Verdicts.{justice_claims_have_verdicts, one_verdict_at_most}
use Rattle.aig_verdicts.specs.Judged.{HasLargeProperty, IsVerdictFor, SaysFor}
use Rattle.aig_verdicts.specs.Kinds.{SaysJustice, is_of_justice, shape_if}
use Rattle.aig_verdicts.specs.declared.verdict.WitnessVerdict.{WitnessVerdict}
use Rattle.aig_verdicts.specs.declared.verdict.WitnessVerdict.TheVariants.{BadState, Justice}
use Rattle.aig_commands.specs.File.{IsFileOf}
use Rattle.aig_commands.specs.Laws.{RightRunsAreConfirmed, VerdictsAreKept, WitnessAnswersAreUnambiguous}
use Rattle.aig_commands.specs.Laws.{WitnessAnswersExist}
use Rattle.aig_commands.specs.WitnessOutcome.{IsWitnessAnswer}
use Rattle.aig_binary.proofs.Files.{one_circuit}
use Rattle.aig_commands.proofs.Meant.{converted_file}
use Rattle.aig_commands.proofs.TripsExist.{well_formed_file}

pub one_witness_answer : WitnessAnswersAreUnambiguous
one_witness_answer request model witness verdict other p q =
    let same : p.found ≡ q.found = one_circuit model request.max_var p.found q.found p.read q.read in
    (one_verdict_at_most q.found witness verdict other p.claim q.claim
    (well_formed_file model request.max_var q.found q.read)
    (subst (λ (c : Circuit). SaysFor c verdict witness p.claim) same p.says)
    (subst (λ (c : Circuit). IsVerdictFor c p.claim verdict) same p.is_verdict) q.says q.is_verdict).0

-- where no line is wrong or missing, something is claimed
all_said : (lines : ℕ) (read : Result Said ℕ) → wrong_line lines true read ≡ None
    → (claim : Claim) × (read ≡ Ok (Whole claim))
all_said lines (Ok Nothing) none = cc
all_said lines (Ok Version) none = cc
all_said lines (Ok (Property p)) none = cc
all_said lines (Ok (Steps claim)) none = cc
all_said lines (Ok (Whole claim)) none = (claim, refl)
all_said lines (Err number) none = cc

-- what is claimed of a justice property has a verdict, where its goals are not too many
judged_justice : (request : Sim) (c : Circuit) (file witness : List ℕ) (claim : Claim) → IsFileOf file request.max_var c
    → SaysJustice c (uncommented witness) claim
    → ((verdict : WitnessVerdict) × IsWitnessAnswer request file witness verdict)
    ⊎ ((fault : Fault) × HasLargeProperty c fault witness AtEnd)
judged_justice request c file witness claim read says =
    let good = well_formed_file file request.max_var c read in
    let there = ((justice_files_are_read c (uncommented witness) claim).0 says).below in
    elim (cases_lt LARGEST (length (goals_of claim.property c))) [
      | inl many ↦ inr (fault_at TooLargeJustice Whole 0, (refl, claim, says, (refl, there, many)))
      | inr few ↦
          let one = justice_claims_have_verdicts c (uncommented witness) claim good says (there, few) in
          inl (
            Justice one.0,
            record { found = c; claim = claim; read = read; says = says; is_verdict = one.1 },
          )
    ]

judged_by_kind : (request : Sim) (c : Circuit) (file witness : List ℕ) (kind : Bool) → IsFileOf file request.max_var c
    → first_bad_line (shape_if (length c.justice.sizes) c kind) (uncommented witness) true ≡ None
    → ((verdict : WitnessVerdict) × IsWitnessAnswer request file witness verdict)
    ⊎ ((fault : Fault) × HasLargeProperty c fault witness AtEnd)
judged_by_kind request c file witness false read none_bad =
    let bytes = uncommented witness in
    let said = all_said (length (judged_lines bytes true)) (witness_of (shape_of c) bytes true) none_bad in
    let one = one_verdict c bytes said.0 (well_formed_file file request.max_var c read) said.1 in
    inl (BadState one.0, record { found = c; claim = said.0; read = read; says = said.1; is_verdict = one.1 })
judged_by_kind request c file witness true read none_bad =
    let bytes = uncommented witness in
    let said = all_said (length (judged_lines bytes true))
    (witness_of (shape_if (length c.justice.sizes) c true) bytes true) none_bad in
    judged_justice request c file witness said.0 read said.1

none_before : {X Y : Type 0} (f : X → Y) (o : Option X) → option_map f o ≡ None → o ≡ None
none_before f None none = refl
none_before f (Some x) none = cc

pub witness_answer_exists : WitnessAnswersExist
witness_answer_exists request c file witness read none_bad =
    judged_by_kind request c file witness (is_of_justice (uncommented witness) true) read (none_before _ _ none_bad)

pub right_run_is_confirmed : RightRunsAreConfirmed
right_run_is_confirmed request c file claim rows step read below trace confirmed =
    let written = claims_have_files c claim rows (well_formed_file file request.max_var c read) below trace in (
      written.0,
      written.1,
      record {
        found = c;
        claim = claim;
        read = read;
        says = bad_state_kept c written.0 claim written.1;
        is_verdict = record { rows = rows; trace = trace; is_verdict = confirmed };
      },
    )

-- a verdict for the file of a circuit is one for the file of a circuit that means the same
unfoldable pub carried : (before after : Sim) (file other witness : List ℕ) (verdict : Verdict) (c d : Circuit)
    → before.max_var ≡ LARGEST → after.max_var ≡ LARGEST → IsFileOf file LARGEST c → IsFileOf other LARGEST d
    → MeansTheSame c d → IsWitnessAnswer before file witness (BadState verdict)
    → IsWitnessAnswer after other witness (BadState verdict)
carried before after file other witness verdict c d limit limit_after is is_other means p =
    let same : p.found ≡ c =
    one_circuit file LARGEST p.found c (subst (λ n. IsFileOf file n p.found) limit p.read) is in
    let back = same_back c d means in
    let bad : length c.bad ≡ length d.bad = sym (same_bad c d (well_formed_file file LARGEST c is) means) in
    record {
      found = d;
      claim = p.claim;
      read = subst (λ n. IsFileOf other n d) (sym limit_after) is_other;
      says = says_too d c back bad (uncommented witness) p.claim
          (subst (λ (e : Circuit). SaysClaim e (uncommented witness) p.claim) same p.says);
      is_verdict = verdict_too d c back bad p.claim verdict
          (subst (λ (e : Circuit). IsVerdict e p.claim verdict) same p.is_verdict);
    }

pub verdicts_are_kept : VerdictsAreKept
verdicts_are_kept request before after still limit limit_before limit_after file converted witness verdict p =
    let c : Circuit = p.found in
    let is : IsFileOf file LARGEST c = subst (λ n. IsFileOf file n c) limit p.read in
    let made = converted_file request file converted still p in
    let d : Circuit = made.0 in (
      carried before after file converted witness verdict c d limit_before limit_after is made.1 made.2,
      carried after before converted file witness verdict d c limit_after limit_before made.1 is
          (same_back c d made.2),
    )
