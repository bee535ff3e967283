-- What a witness file of either kind claims has one verdict.
use Rattle.std.proofs.Common.{◌≡◌, ◌∙◌, ℕ, List, ap, arith, inl, inr, length, refl, subst, sym}
use Rattle.std.proofs.lemmas.Bool.{cases_lt}
use Rattle.aig_circuit.specs.declared.circuit.Circuit.{Circuit}
use Rattle.aig_lasso.proofs.Claims.{verdicts_are_on_claims}
use Rattle.aig_lasso.proofs.GoalsShown.{goals_are_well_formed}
use Rattle.aig_lasso.proofs.Judged.{is_verdict_on}
use Rattle.aig_lasso.specs.Goals.{with_goals}
use Rattle.aig_lasso.specs.Lasso.{IsLassoVerdict}
use Rattle.aig_lasso.specs.Parts.Searching.{verdict_by}
use Rattle.aig_lasso.specs.declared.verdict.LassoVerdict.{LassoVerdict}
use Rattle.aig_lasso.specs.declared.verdict.LassoVerdict.TheVariants.{Confirmed, NotConfirmed}
use Rattle.aig_meaning.proofs.Traces.{one_trace}
use Rattle.aig_verdicts.proofs.Files.{justice_files_are_read}
use Rattle.aig_verdicts.specs.Comments.{uncommented}
use Rattle.aig_verdicts.specs.Kinds.{SaysJustice}
use Rattle.aig_verdicts.specs.Laws.{JusticeClaimsHaveVerdicts, OneVerdictAtMost}
use Rattle.aig_verdicts.specs.declared.verdict.WitnessVerdict.TheVariants.{BadState, Justice}
use Rattle.aig_witness.proofs.Verdicts.{one_verdict}
use Rattle.aig_witness.proofs.WitnessTexts.{witness_files_are_read}
use Rattle.aig_witness.specs.Witness.{Claim, IsVerdict, SaysClaim}

pub justice_claims_have_verdicts : JusticeClaimsHaveVerdicts
justice_claims_have_verdicts c bytes claim formed says goals =
    let file = (justice_files_are_read c bytes claim).0 says in
    let shown = with_goals claim.property c in
    let good = goals_are_well_formed c claim.property goals.1 formed in
    let one = one_trace shown claim.first claim.steps good file.starts file.each in
    let verdict = verdict_by (length shown.bad) claim.first one.0 in (
      verdict,
      verdicts_are_on_claims c claim verdict (is_verdict_on shown claim.first claim.steps verdict good file.starts
          file.each (λ rows trace. ap (verdict_by (length shown.bad) claim.first) (sym (one.2 rows trace)))),
    )

same_lasso_verdict : (c : Circuit) (claim : Claim) (v w : LassoVerdict) → IsLassoVerdict c claim v
    → IsLassoVerdict c claim w → v ≡ w
same_lasso_verdict c claim (Confirmed m) (Confirmed n) is other =
    elim (cases_lt m n) [
      | inl low ↦ absurd (other.1 m low is.0)
      | inr high ↦ elim (cases_lt n m) [
        | inl low ↦ absurd (is.1 n low other.0)
        | inr high_too ↦ let same : m ≡ n = omega (arith, high, high_too) in ap Confirmed same
      ]
    ]
same_lasso_verdict c claim (Confirmed m) NotConfirmed is other = absurd (other m is.0)
same_lasso_verdict c claim NotConfirmed (Confirmed n) is other = absurd (is n other.0)
same_lasso_verdict c claim NotConfirmed NotConfirmed is other = refl

-- no file is of both kinds
not_both : (c : Circuit) (bytes : List ℕ) (claim other : Claim) → SaysClaim c bytes claim → SaysJustice c bytes other → ⊥
not_both c bytes claim other says justice =
    let bad = (witness_files_are_read c bytes claim).0 says in
    let file = (justice_files_are_read c bytes other).0 justice in
    let same = sym bad.texts ∙ file.texts in
    let letters : ◌≡◌ {A = ℕ} 98 106 = cc in
    omega (arith, letters)

pub one_verdict_at_most : OneVerdictAtMost
one_verdict_at_most c bytes (BadState v) (BadState w) claim more formed says is says_too is_too =
    let claims : claim ≡ more = cc in
    let one = one_verdict c (uncommented bytes) claim formed says in
    let here = subst (λ (k : Claim). IsVerdict c k w) (sym claims) is_too in
    (ap BadState (one.2 v is ∙ sym (one.2 w here)), claims)
one_verdict_at_most c bytes (BadState v) (Justice w) claim more formed says is says_too is_too =
    absurd (not_both c (uncommented bytes) claim more says says_too)
one_verdict_at_most c bytes (Justice v) (BadState w) claim more formed says is says_too is_too =
    absurd (not_both c (uncommented bytes) more claim says_too says)
one_verdict_at_most c bytes (Justice v) (Justice w) claim more formed says is says_too is_too =
    let claims : claim ≡ more = cc in
    let here = subst (λ (k : Claim). IsLassoVerdict c k w) (sym claims) is_too in
    (ap Justice (same_lasso_verdict c claim v w is here), claims)
