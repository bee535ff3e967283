-- What comes of the bytes of a witness file.
use Rattle.std.proofs.Common.{◌≡◌, ◌≢◌, ◌∙◌, ◌+◌, ◌≤◌, rules, ℕ, List, Bool, true, false, Some, Result, Ok, Err, length}
use Rattle.std.proofs.Common.{refl, sym, ap, subst, arith}
use Rattle.aig_circuit.specs.declared.circuit.Circuit.{Circuit}
use Rattle.aig_circuit.specs.declared.circuit.TheConstants.{LARGEST}
use Rattle.aig_meaning.specs.Meaning.{MeansTheSame}
use Rattle.aig_meaning.specs.Trace.{IsTrace}
use Rattle.aig_meaning.proofs.Traces.{same_meaning_same_traces}
use Rattle.aig_io.specs.declared.device.DeviceFault.{DeviceFault}
use Rattle.aig_io.specs.Devices.{History}
use Rattle.aig_io.specs.Runs.{AtEnd, Broken, Ending, Open, Read, is_at_end}
use Rattle.aig_lines.specs.Feeders.{Feeder, FoldedSource, HasFoldedLines}
use Rattle.aig_lines.specs.Feeding.{fold_lines}
use Rattle.aig_lines.specs.Texts.{judged_lines}
use Rattle.aig_fault.specs.declared.stopped.Stopped.{Stopped}
use Rattle.aig_fault.specs.declared.stopped.Stopped.TheVariants as stops
use Rattle.aig_witness.specs.declared.checker.Due.TheVariants as due
use Rattle.aig_witness.specs.declared.verdict.Verdict.{Verdict}
use Rattle.aig_witness.specs.Confirming.{ConfirmSays, Judged, bad_witness}
use Rattle.aig_witness.specs.Witness.{Claim, IsVerdict, IsVerdictOf, Nothing, Property, Said, SaysClaim, Shape, Steps}
use Rattle.aig_witness.specs.Witness.{Version, Whole, first_bad_witness_line, missing_line, shape_of, witness_of}
use Rattle.aig_witness.specs.Witness.{wrong_line}
use Rattle.aig_witness.specs.Parts.Witnessing.{HasWitnessState, StandsWhen, Witnessing, longest_line, witness_state}
use Rattle.aig_witness.specs.Parts.Witnessing.{witness_step}
use Rattle.aig_witness.specs.Parts.Witnessing.{verdict_of}
use Rattle.aig_witness.proofs.WitnessState.{IsRight, folded_said, none_wrong, one_wrong}

-- a line is missing where one is due
one_missing : (lines : ℕ) (w : Witnessing) (said : Said) → StandsWhen w said → w.due ≢ due.Nothing
    → missing_line lines true said ≡ Some (1 + lines)
one_missing lines w Nothing stands some = ap (λ (n : ℕ). Some n) (omega arith)
one_missing lines w Version stands some = ap (λ (n : ℕ). Some n) (omega arith)
one_missing lines w (Property p) stands some = ap (λ (n : ℕ). Some n) (omega arith)
one_missing lines w (Steps claim) stands some = ap (λ (n : ℕ). Some n) (omega arith)
one_missing lines w (Whole claim) stands some = absurd (some stands.0)

module _ (c : Circuit) (few : length c.bad ≤ LARGEST) (source source_now : History) (f : Feeder) (w : Witnessing)
  where
    abbrev longest : ℕ
    longest = longest_line (shape_of c)

    -- what came of the source, for lines as long as this
    abbrev CameAt : ℕ → Result Bool DeviceFault → Type 0
    CameAt limit result = FoldedSource witness_step HasWitnessState limit (witness_state c Nothing) source source_now
        result f w

    pub came_so : (limit : ℕ) (good known : Bool) → limit ≡ longest → good ≡ known → CameAt limit (Ok good)
        → CameAt longest (Ok known)
    came_so limit good known long is came =
        subst (λ (b : Bool). CameAt longest (Ok b)) is (subst (λ (n : ℕ). CameAt n (Ok good)) long came)

    -- what an answer says of what came
    abbrev Answers : Result Verdict Stopped → Type 0
    Answers result = Read (ConfirmSays c result) source source_now

    -- which line is wrong, and what the lines say where none is
    module _ (bytes : List ℕ) (over : Bool) (stands : HasFoldedLines HasWitnessState f w
        (fold_lines witness_step longest (witness_state c Nothing) 1 (judged_lines bytes over))) where
      one_line_wrong : f.refused ≡ true → first_bad_witness_line c bytes over ≡ Some f.number
      one_line_wrong refused = one_wrong HasWitnessState (witness_state c) (shape_of c) bytes over f w _
          (folded_said c few (judged_lines bytes over) Nothing 1) stands refused

      no_line_wrong : f.refused ≡ false → IsRight HasWitnessState (witness_state c) (shape_of c) bytes over f w
      no_line_wrong going = none_wrong HasWitnessState (witness_state c) (shape_of c) bytes over f w _
          (folded_said c few (judged_lines bytes over) Nothing 1) stands going

    -- a line was refused
    pub wrong_among : CameAt longest (Ok false) → Answers (Err (stops.Refused (bad_witness f.number)))
    wrong_among (true, r) = record {
      bytes = r.bytes;
      ending = AtEnd;
      says = (f.number, refl, tt, one_line_wrong r.bytes true r.stands r.refused);
      came = r.history;
    }
    wrong_among (false, r) = record {
      bytes = r.bytes;
      ending = Open;
      says = (f.number, refl, tt, one_line_wrong r.bytes false r.stands r.refused);
      came = r.history;
    }

    -- the source failed
    pub cut_off : (fault : DeviceFault) → CameAt longest (Err fault) → Answers (Err stops.ReadFailed)
    cut_off fault r =
        let right = no_line_wrong r.bytes false r.stands r.refused in
        let lines = length (judged_lines r.bytes false) in
        record {
          bytes = r.bytes;
          ending = Broken;
          says = (refl, ap (wrong_line lines false) right.says);
          came = r.history;
        }

    -- the bytes have ended where a line is due
    pub wrong_behind : CameAt longest (Ok true) → w.due ≢ due.Nothing
        → Answers (Err (stops.Refused (bad_witness f.number)))
    wrong_behind r some =
        let right = no_line_wrong r.bytes true r.stands r.refused in
        let lines = length (judged_lines r.bytes true) in
        let first = ap (wrong_line lines true) right.says ∙ one_missing lines w right.said right.has_state.1 some
        ∙ ap (λ (n : ℕ). Some n) (sym right.number) in
        record { bytes = r.bytes; ending = AtEnd; says = (f.number, refl, tt, first); came = r.history }

    -- they have ended where none is
    whole : (v : Verdict) (bytes : List ℕ) (said : Said) → StandsWhen w said → w.due ≡ due.Nothing → w.circuit ≡ c
        → witness_of (shape_of c) bytes true ≡ Ok said → v ≡ verdict_of w.search.found → Judged c v bytes
    whole v bytes Nothing stands none same says is = let other = stands.0 in cc
    whole v bytes Version stands none same says is = let other = stands.0 in cc
    whole v bytes (Property p) stands none same says is = let other = stands.0 in cc
    whole v bytes (Steps claim) stands none same says is = let other = stands.0 in cc
    whole v bytes (Whole claim) stands none same says is = record {
      claim = claim;
      none_bad = ap (wrong_line (length (judged_lines bytes true)) true) says;
      says = says;
      is_verdict = record {
        rows = stands.1.rows;
        trace = subst (λ (d : Circuit). IsTrace d claim.first claim.steps stands.1.rows) same stands.1.trace;
        is_verdict = subst (IsVerdictOf claim.property stands.1.rows) (sym is) stands.1.tells.found;
      };
    }

    pub judged : (v : Verdict) → CameAt longest (Ok true) → w.due ≡ due.Nothing → v ≡ verdict_of w.search.found
        → Answers (Ok v)
    judged v r none is =
        let right = no_line_wrong r.bytes true r.stands r.refused in
        let judged = whole v r.bytes right.said right.has_state.1 none right.has_state.0 right.says is in
        record { bytes = r.bytes; ending = AtEnd; says = (refl, judged); came = r.history }

-- circuits that mean the same, with as many bad states, have the same witness files
module _ (c d : Circuit) (means : MeansTheSame c d) (bad : length d.bad ≡ length c.bad) where
  pub same_shape : shape_of d ≡ shape_of c
  same_shape = rw (bad, means.resets, means.inputs) refl

  same_wrong : (bytes : List ℕ) (ended : Bool)
      → first_bad_witness_line c bytes ended ≡ first_bad_witness_line d bytes ended
  same_wrong bytes ended = search (rules, same_shape)

  pub says_too : (bytes : List ℕ) (claim : Claim) → SaysClaim d bytes claim → SaysClaim c bytes claim
  says_too bytes claim says =
      subst (λ (shape : Shape). witness_of shape bytes true ≡ Ok (Whole claim)) same_shape says

  pub verdict_too : (claim : Claim) (v : Verdict) → IsVerdict d claim v → IsVerdict c claim v
  verdict_too claim v is = record {
    rows = is.rows;
    trace = (same_meaning_same_traces c d means claim.first claim.steps is.rows).1 is.trace;
    is_verdict = is.is_verdict;
  }

  pub confirm_says_too : (result : Result Verdict Stopped) (bytes : List ℕ) (ending : Ending)
      → ConfirmSays d result bytes ending → ConfirmSays c result bytes ending
  confirm_says_too (Ok v) bytes ending says = search (rules, same_wrong, same_shape, same_meaning_same_traces)
  confirm_says_too (Err stops.OutOfMemory) bytes ending says = says
  confirm_says_too (Err (stops.Refused fault)) bytes ending (number, told, unbroken, first) =
      (number, told, unbroken, same_wrong bytes (is_at_end ending) ∙ first)
  confirm_says_too (Err stops.ReadFailed) bytes ending says = (says.0, same_wrong bytes false ∙ says.1)
  confirm_says_too (Err stops.WriteFailed) bytes ending never = never
