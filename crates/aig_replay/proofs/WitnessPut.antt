-- The lines of a witness, put one after another.
use Rattle.std.proofs.Common.{◌≡◌, ◌+◌, ◌<◌, ◌≤◌, ◌++◌, ◌∙◌, ℕ, List, [], ◌∷◌, ap, append-nil}
use Rattle.std.proofs.Common.{append_assoc}
use Rattle.std.proofs.Common.{arith, codes, decimal, drop, length, refl, subst, sym, take}
use Rattle.std.specs.List.{AllByRecursion, flat_map}
use Rattle.std.proofs.Math.Seq.{drop-append_seam, take-append_seam}
use Rattle.std.proofs.lemmas.List.{length-map}
use Rattle.std.proofs.lemmas.List.Concat.{flat_map-append}
use Rattle.aig_circuit.specs.declared.value.Val.{Val}
use Rattle.aig_io.specs.Output.{Appended, Out}
use Rattle.aig_io.proofs.Puts.{put_twice}
use Rattle.aig_step.specs.TraceText.{character_of, values_text}
use Rattle.aig_witness.specs.Witness.{Claim}
use Rattle.aig_replay.specs.Finding.{SaysSteps}
use Rattle.aig_replay.specs.Parts.{AreAppended}
use Rattle.aig_replay.specs.WitnessLines.{step_line, witness_text}
use Rattle.aig_replay.proofs.Running.{room_case}

pub at_start : (inputs count : ℕ) (steps : List ℕ) (all : List (List Val)) → SaysSteps inputs count steps all
    → AreAppended inputs count 0 steps all []
at_start inputs count steps all are = record {
  left = all;
  parted = refl;
  bytes = are.bytes_are;
  long = are.long;
  many = omega (arith, are.many);
}

pub room_behind : (inputs count step : ℕ) (rest : List ℕ) (all done : List (List Val)) → step < count
    → AreAppended inputs count step rest all done → inputs ≤ length rest
room_behind inputs count step rest all done low is =
    room_case inputs count step rest is.left is.bytes is.long is.many low

pub record OneMore (inputs count step : ℕ) (rest : List ℕ) (all done : List (List Val)) : Type 0 where
  pub given : List Val
  pub text : take inputs rest ≡ values_text given
  pub next : AreAppended inputs count (step + 1) (drop inputs rest) all (done ++ given ∷ [])

more_case : (inputs count step : ℕ) (rest : List ℕ) (all done left : List (List Val)) → step < count
    → all ≡ done ++ left → rest ≡ flat_map values_text left
    → AllByRecursion (λ (given : List Val). length given ≡ inputs) left → step + length left ≡ count
    → OneMore inputs count step rest all done
more_case inputs count step rest all done [] low parted bytes long many = absurd (omega (arith, low, many))
more_case inputs count step rest all done (v ∷ vs) low parted bytes long many =
    let text = values_text v in
    let others = flat_map values_text vs in
    let fits : inputs ≡ length text = omega (arith, length-map v character_of, long.0) in
    record {
      given = v;
      text = ap (λ (xs : List ℕ). take inputs xs) bytes ∙ ap (λ (k : ℕ). take k (text ++ others)) fits
          ∙ take-append_seam text others;
      next = record {
        left = vs;
        parted = parted ∙ sym (append_assoc done (v ∷ []) vs);
        bytes = ap (λ (xs : List ℕ). drop inputs xs) bytes ∙ ap (λ (k : ℕ). drop k (text ++ others)) fits
            ∙ drop-append_seam text others;
        long = long.1;
        many = omega (arith, many);
      };
    }

pub one_more : (inputs count step : ℕ) (rest : List ℕ) (all done : List (List Val)) → step < count
    → AreAppended inputs count step rest all done → OneMore inputs count step rest all done
one_more inputs count step rest all done low is =
    more_case inputs count step rest all done is.left low is.parted is.bytes is.long is.many

end_case : (all done left : List (List Val)) → all ≡ done ++ left → length left ≡ 0 → done ≡ all
end_case all done [] parted none = sym (parted ∙ append-nil done)
end_case all done (v ∷ vs) parted none = absurd (omega (arith, none))

pub all_done : (inputs count step : ℕ) (rest : List ℕ) (all done : List (List Val)) → count ≤ step
    → AreAppended inputs count step rest all done → done ≡ all
all_done inputs count step rest all done high is = end_case all done is.left is.parted (omega (arith, high, is.many))

module _ {W : Type 0} where
  pub line_more : (a b c : Out W) (done : List (List Val)) (given : List Val) (text : List ℕ)
      → text ≡ values_text given → Appended a b (flat_map step_line done) → Appended b c (text ++ codes "\n")
      → Appended a c (flat_map step_line (done ++ given ∷ []))
  line_more a b c done given text is p q =
      subst (λ (t : List ℕ). Appended a c t)
      (sym (flat_map-append step_line done (given ∷ [])
      ∙ ap (λ (t : List ℕ). flat_map step_line done ++ t) (append-nil (step_line given))))
      (put_twice a b c (flat_map step_line done) (step_line given) p
      (subst (λ (t : List ℕ). Appended b c (t ++ codes "\n")) is q))

  pub witness_put : (a b c d e f h : Out W) (claim : Claim) (n : ℕ) (first : List ℕ) → claim.property ≡ n
      → first ≡ values_text claim.first → Appended a b (codes "1\nb") → Appended b c (decimal n)
      → Appended c d (codes "\n")
      → Appended d e (first ++ codes "\n") → Appended e f (flat_map step_line claim.steps) → Appended f h (codes ".\n")
      → Appended a h (witness_text claim)
  witness_put a b c d e f h claim n first number same p q r s t u =
      let state = values_text claim.first in
      let steps = flat_map step_line claim.steps in
      let last : Appended e h (steps ++ codes ".\n") = put_twice e f h steps (codes ".\n") t u in
      let line : Appended d e (state ++ codes "\n") = subst (λ (x : List ℕ). Appended d e (x ++ codes "\n")) same s in
      let third : Appended d h (state ++ (codes "\n" ++ (steps ++ codes ".\n"))) =
      subst (λ (x : List ℕ). Appended d h x) (append_assoc state (codes "\n") (steps ++ codes ".\n"))
      (put_twice d e h (state ++ codes "\n") (steps ++ codes ".\n") line last) in
      let second : Appended b c (decimal claim.property) = subst (λ (k : ℕ). Appended b c (decimal k)) (sym number) q in
      put_twice a b h (codes "1\nb") _ p
      (put_twice b c h (decimal claim.property) _ second (put_twice c d h (codes "\n") _ r third))
