-- What comes of the bytes of a witness file of either kind.
use Rattle.std.proofs.Common.{◌≡◌, ◌≢◌, ◌∙◌, ◌+◌, ◌≤◌, ℕ, List, Bool, true, false, None, Some, IfSome, Option}
use Rattle.std.proofs.Common.{Result, Ok, Err, ap, arith, inl, inr, length, option_map, refl, subst, sym}
use Rattle.aig_circuit.specs.declared.circuit.Circuit.{Circuit}
use Rattle.aig_circuit.specs.declared.circuit.TheConstants.{LARGEST}
use Rattle.aig_fault.specs.declared.stopped.Stopped.{Stopped}
use Rattle.aig_fault.specs.declared.stopped.Stopped.TheVariants as stops
use Rattle.aig_io.specs.Devices.{History}
use Rattle.aig_io.specs.Runs.{AtEnd, Broken, Ending, Open, Read, is_at_end}
use Rattle.aig_io.specs.declared.device.DeviceFault.{DeviceFault}
use Rattle.aig_lasso.specs.Goaled.{HasTooManyGoals}
use Rattle.aig_lasso.specs.Lasso.{IsLassoVerdict}
use Rattle.aig_lasso.specs.Runs.{StartedRun}
use Rattle.aig_lasso.specs.declared.verdict.LassoVerdict.{LassoVerdict}
use Rattle.aig_lines.specs.Feeders.{Feeder, FoldedSource, HasFoldedLines}
use Rattle.aig_lines.specs.Feeding.{Folded, fold_lines}
use Rattle.aig_lines.specs.Texts.{judged_lines}
use Rattle.aig_meaning.specs.Trace.{IsTrace}
use Rattle.aig_verdicts.proofs.Folds.{folded_all}
use Rattle.aig_verdicts.proofs.Passed.{passed_all, said_judged}
use Rattle.aig_verdicts.specs.Comments.{line_number, uncommented}
use Rattle.aig_verdicts.specs.Judged.{WitnessSays}
use Rattle.aig_verdicts.specs.Kinds.{first_bad_by, first_bad_file_line, is_of_justice, shape_by, shape_if}
use Rattle.aig_verdicts.specs.Parts.Reading.{FileSays, HoldsClaim, IsDone, IsLike, IsOfClaim, IsReadOf, IsReading}
use Rattle.aig_verdicts.specs.Parts.Reading.{Reading, StandsIn, NotJudged, ReadingState, reading_state, reading_step}
use Rattle.aig_verdicts.specs.Parts.Reading.{file_step, longest_file_line, run_of}
use Rattle.aig_verdicts.specs.declared.reader.Stage.TheVariants as stage
use Rattle.aig_verdicts.specs.declared.verdict.WitnessVerdict.TheVariants.{BadState, Justice}
use Rattle.aig_witness.proofs.WitnessEnds.{same_shape, verdict_too}
use Rattle.aig_witness.proofs.WitnessState.{IsRight, none_wrong, one_wrong}
use Rattle.aig_witness.specs.Confirming.{bad_witness}
use Rattle.aig_witness.specs.Parts.Witnessing.{verdict_of}
use Rattle.aig_witness.specs.Witness.{Claim, IsVerdictOf, Nothing, Property, Said, Says, Shape, Steps}
use Rattle.aig_witness.specs.Witness.{Version, Whole, first_bad_line, missing_line, shape_of, wrong_line}
use Rattle.aig_witness.specs.declared.checker.Due.TheVariants as due
use Rattle.aig_witness.specs.declared.verdict.Verdict.{Verdict}

-- a line is missing where one is due
one_missing : (lines : ℕ) (r : Reading) (justice : Bool) (said : Said) → StandsIn r justice said → ¬ IsDone r
    → missing_line lines true said ≡ Some (1 + lines)
one_missing lines r justice Nothing stands some = ap (λ (n : ℕ). Some n) (omega arith)
one_missing lines r justice Version stands some = ap (λ (n : ℕ). Some n) (omega arith)
one_missing lines r justice (Property p) stands some = ap (λ (n : ℕ). Some n) (omega arith)
one_missing lines r justice (Steps claim) stands some = ap (λ (n : ℕ). Some n) (omega arith)
one_missing lines r false (Whole claim) stands some = absurd (some (inl (stands.stage, stands.stands.0)))
one_missing lines r true (Whole claim) stands some = absurd (some (inr stands.0))

-- and all is said where none is
abbrev IsWhole : Said → Type 0
IsWhole said = (claim : Claim) × (said ≡ Whole claim)

due_by : (r : Reading) → r.stage ≡ stage.BadState → IsDone r → r.checker.due ≡ due.Nothing
due_by r is (inl done) = done.1
due_by r is (inr other) = cc

stage_by : (r : Reading) → r.stage ≢ stage.BadState → IsDone r → r.stage ≡ stage.Nothing
stage_by r other (inl done) = absurd (other done.0)
stage_by r other (inr is) = is

all_said : (r : Reading) (justice : Bool) (said : Said) → StandsIn r justice said → IsDone r → IsWhole said
all_said r false Nothing stands done = let is = due_by r stands.stage done in let other = stands.stands.0 in cc
all_said r false Version stands done = let is = due_by r stands.stage done in let other = stands.stands.0 in cc
all_said r false (Property p) stands done = let is = due_by r stands.stage done in let other = stands.stands.0 in cc
all_said r false (Steps claim) stands done = let is = due_by r stands.stage done in let other = stands.stands.0 in cc
all_said r false (Whole claim) stands done = (claim, refl)
all_said r true Nothing stands done = absurd stands
all_said r true Version stands done = absurd stands
all_said r true (Property p) stands done =
    let other = stands.0 in let is : r.stage ≡ stage.Nothing = stage_by r (λ e. cc) done in cc
all_said r true (Steps claim) stands done =
    let other = stands.0 in let is : r.stage ≡ stage.Nothing = stage_by r (λ e. cc) done in cc
all_said r true (Whole claim) stands done = (claim, refl)

module _ (c : Circuit) (justices : ℕ) (few : length c.bad ≤ LARGEST) (few_justices : justices ≤ LARGEST)
    (source source_now : History) (f : Feeder) (r : Reading) where
  abbrev longest : ℕ
  longest = longest_file_line (shape_of c)

  -- what came of the source, for lines as long as this
  abbrev CameAt : ℕ → Result Bool DeviceFault → Type 0
  CameAt limit result = FoldedSource file_step IsReading limit (reading_state c justices false Nothing) source
      source_now result f r

  pub came_so : (limit : ℕ) (good known : Bool) → limit ≡ longest → good ≡ known → CameAt limit (Ok good)
      → CameAt longest (Ok known)
  came_so limit good known long is came =
      subst (λ (b : Bool). CameAt longest (Ok b)) is (subst (λ (n : ℕ). CameAt n (Ok good)) long came)

  -- what an answer says of what came
  abbrev Answers : Result (Unit {0}) Stopped → Type 0
  Answers result = Read (FileSays c justices r result) source source_now

  -- which line is wrong, and what the lines say where none is
  module _ (bytes : List ℕ) (over : Bool) (stands : HasFoldedLines IsReading f r
      (fold_lines file_step longest (reading_state c justices false Nothing) 1 (judged_lines bytes over))) where
    abbrev said : List ℕ
    said = uncommented bytes

    abbrev shape : Shape
    shape = shape_by justices c said over

    abbrev state : Said → ReadingState
    state so_far = reading_state c justices (is_of_justice said over) so_far

    -- what was folded without comments
    abbrev plain : Folded ReadingState
    plain = fold_lines reading_step longest (reading_state c justices false Nothing) 1 (judged_lines said over)

    -- where the feeder would stand if there were none
    abbrev counted : Feeder
    counted = record f { number = plain.number }

    without : HasFoldedLines IsReading counted r plain
        × (f.number ≡ line_number (judged_lines bytes over) plain.number)
    without =
        let all = passed_all reading_step longest (omega arith) (judged_lines bytes over)
        (reading_state c justices false Nothing) in
        rw (said_judged bytes over) (
          record {
            taker = subst (IsReading r) all.0 stands.taker;
            number = refl;
            refused = stands.refused ∙ all.1;
          },
          stands.number ∙ all.2,
        )

    one_line_wrong : f.refused ≡ true → first_bad_by justices c bytes over ≡ Some f.number
    one_line_wrong refused =
        ap (option_map (line_number (judged_lines bytes over)))
        (one_wrong IsReading state shape said over counted r _
        (folded_all c justices few few_justices longest (omega arith) (judged_lines said over)) without.0 refused)
        ∙ ap (λ (n : ℕ). Some n) (sym without.1)

    no_line_wrong : f.refused ≡ false → IsRight IsReading state shape said over counted r
    no_line_wrong going = none_wrong IsReading state shape said over counted r _
        (folded_all c justices few few_justices longest (omega arith) (judged_lines said over)) without.0 going

  -- a line was refused
  pub wrong_among : CameAt longest (Ok false) → Answers (Err (stops.Refused (bad_witness f.number)))
  wrong_among (true, s) = record {
    bytes = s.bytes;
    ending = AtEnd;
    says = (f.number, refl, tt, one_line_wrong s.bytes true s.stands s.refused);
    came = s.history;
  }
  wrong_among (false, s) = record {
    bytes = s.bytes;
    ending = Open;
    says = (f.number, refl, tt, one_line_wrong s.bytes false s.stands s.refused);
    came = s.history;
  }

  -- the source failed
  pub cut_off : (fault : DeviceFault) → CameAt longest (Err fault) → Answers (Err stops.ReadFailed)
  cut_off fault s =
      let right = no_line_wrong s.bytes false s.stands s.refused in
      let lines = length (judged_lines (uncommented s.bytes) false) in
      record {
        bytes = s.bytes;
        ending = Broken;
        says = (
          refl,
          ap (option_map (line_number (judged_lines s.bytes false))) (ap (wrong_line lines false) right.says),
        );
        came = s.history;
      }

  -- the bytes have ended where a line is due
  pub wrong_behind : CameAt longest (Ok true) → ¬ IsDone r → Answers (Err (stops.Refused (bad_witness f.number)))
  wrong_behind s some =
      let right = no_line_wrong s.bytes true s.stands s.refused in
      let lines = length (judged_lines (uncommented s.bytes) true) in
      let first = ap (option_map (line_number (judged_lines s.bytes true)))
      (ap (wrong_line lines true) right.says
      ∙ one_missing lines r (is_of_justice (uncommented s.bytes) true) right.said right.has_state.stands some
      ∙ ap (λ (n : ℕ). Some n) (sym right.number))
      ∙ ap (λ (n : ℕ). Some n) (sym (without s.bytes true s.stands).1) in
      record { bytes = s.bytes; ending = AtEnd; says = (f.number, refl, tt, first); came = s.history }

  -- they have ended where none is
  pub read_whole : CameAt longest (Ok true) → IsDone r → (done : Unit {0}) → Answers (Ok done)
  read_whole s is done =
      let right = no_line_wrong s.bytes true s.stands s.refused in
      let kind = is_of_justice (uncommented s.bytes) true in
      let whole = all_said r kind right.said right.has_state.stands is in
      record {
        bytes = s.bytes;
        ending = AtEnd;
        says = (
          refl,
          record {
            claim = whole.0;
            says = right.says ∙ ap (λ (said : Said). Ok said) whole.1;
            same = subst (λ (said : Said). IsReading r (reading_state c justices kind said)) whole.1 right.has_state;
          },
        );
        came = s.history;
      }

-- circuits that mean the same, with as many bad states, have the same witness files
module _ (c d : Circuit) (like : IsLike c d) where
  abbrev justices : ℕ
  justices = length c.justice.sizes

  shape_too : (kind : Bool) → shape_if justices d kind ≡ shape_if justices c kind
  shape_too true = rw (like.means.resets, like.means.inputs) refl
  shape_too false = same_shape c d like.means like.bad

  wrong_too : (bytes : List ℕ) (ended : Bool)
      → first_bad_by justices d bytes ended ≡ first_bad_file_line c bytes ended
  wrong_too bytes ended =
      let said = uncommented bytes in
      ap (λ (s : Shape). option_map (line_number (judged_lines bytes ended)) (first_bad_line s said ended))
      (shape_too (is_of_justice said ended))

  pub stopped_too : (e : Stopped) (r : Reading) (bytes : List ℕ) (ending : Ending)
      → FileSays d justices r (Err e) bytes ending → WitnessSays c (Err e) bytes ending
  stopped_too stops.OutOfMemory r bytes ending never = absurd never
  stopped_too (stops.Refused fault) r bytes ending (number, told, unbroken, first) =
      inl (number, told, unbroken, sym (wrong_too bytes (is_at_end ending)) ∙ first)
  stopped_too stops.ReadFailed r bytes ending says = (says.0, sym (wrong_too bytes false) ∙ says.1)
  stopped_too stops.WriteFailed r bytes ending never = absurd never

  says_if : (kind : Bool) (bytes : List ℕ) (claim : Claim) → Says (shape_if justices d kind) bytes claim
      → Says (shape_if justices c kind) bytes claim
  says_if kind bytes claim says = subst (λ (s : Shape). Says s bytes claim) (shape_too kind) says

-- the verdict on a whole file
module _ (c : Circuit) (r : Reading) (bytes : List ℕ) (is : IsReadOf c r bytes) where
  abbrev count : ℕ
  count = length c.justice.sizes

  abbrev kept : List ℕ
  kept = uncommented bytes

  abbrev claim : Claim
  claim = is.read.claim

  says_here : (kind : Bool) → is_of_justice kept true ≡ kind → Says (shape_if count c kind) kept claim
  says_here kind same = says_if c is.circuit is.like kind kept claim
      (subst (λ (k : Bool). Says (shape_if count is.circuit k) kept claim) same is.read.says)

  none_wrong_here : first_bad_file_line c bytes true ≡ None
  none_wrong_here =
      ap (option_map (line_number (judged_lines bytes true)))
      (ap (wrong_line (length (judged_lines kept true)) true) (says_here (is_of_justice kept true) refl))

  stands_here : (kind : Bool) → is_of_justice kept true ≡ kind → StandsIn r kind (Whole claim)
  stands_here kind same = subst (λ (k : Bool). StandsIn r k (Whole claim)) same is.read.same.stands

  not_bad : (kind : Bool) → is_of_justice kept true ≡ kind → r.stage ≢ stage.BadState → is_of_justice kept true ≡ true
  not_bad true same other = same
  not_bad false same other = absurd (other (stands_here false same).stage)

  is_bad : (kind : Bool) → is_of_justice kept true ≡ kind → r.stage ≡ stage.BadState → is_of_justice kept true ≡ false
  is_bad false same stage_is = same
  is_bad true same stage_is = let other = (stands_here true same).0 in cc

  pub bad_judged : (v : Verdict) → r.stage ≡ stage.BadState → v ≡ verdict_of r.checker.search.found
      → WitnessSays c (Ok (BadState v)) bytes AtEnd
  bad_judged v stage_is found =
      let kind = is_bad (is_of_justice kept true) refl stage_is in
      let follows = (stands_here false kind).stands.1 in (
        refl,
        record {
          claim = claim;
          none_bad = none_wrong_here;
          says = says_here false kind;
          is_verdict = verdict_too c is.circuit is.like.means is.like.bad claim v (record {
            rows = follows.rows;
            trace = subst (λ (d : Circuit). IsTrace d claim.first claim.steps follows.rows) is.read.same.circuit
                follows.trace;
            is_verdict = subst (IsVerdictOf claim.property follows.rows) (sym found) follows.tells.found;
          });
        },
      )

  is_held : HoldsClaim r claim → (o : Option StartedRun) → r.held ≡ o → IfSome o (IsOfClaim r.property claim)
  is_held holds None same = tt
  is_held holds (Some run) same =
      let run_is = subst (λ (o : Option StartedRun). IfSome o (λ run. run
      ≡ run_of (length r.checker.circuit.inputs) claim)) same holds.held in
      record {
        property = sym holds.property;
        first = ap (λ (s : StartedRun). s.first) run_is;
        steps = ap (λ (s : StartedRun). s.steps) run_is;
      }

  pub justice_judged : (v : LassoVerdict) → r.stage ≢ stage.BadState
      → ((k : Claim) → IfSome r.held (IsOfClaim r.property k) → IsLassoVerdict c k v)
      → WitnessSays c (Ok (Justice v)) bytes AtEnd
  justice_judged v other verdict =
      let kind = not_bad (is_of_justice kept true) refl other in (
        refl,
        record {
          claim = claim;
          none_bad = none_wrong_here;
          says = says_here true kind;
          is_verdict = verdict claim (is_held (stands_here true kind).1 r.held refl);
        },
      )

  pub justice_stopped : (e : Stopped) → r.stage ≢ stage.BadState → NotJudged r.property c e
      → WitnessSays c (Err e) bytes AtEnd
  justice_stopped stops.OutOfMemory other why =
      inr (refl, claim, says_here true (not_bad (is_of_justice kept true) refl other))
  justice_stopped (stops.Refused fault) other (inl large) =
      let kind = not_bad (is_of_justice kept true) refl other in
      let holds = (stands_here true kind).1 in
      inr (
        refl,
        claim,
        says_here true kind,
        subst (λ (p : ℕ). HasTooManyGoals p c fault) holds.property large,
      )
  justice_stopped (stops.Refused fault) other (inr none) =
      let holds = (stands_here true (not_bad (is_of_justice kept true) refl other)).1 in
      absurd (omega (arith, holds.below, holds.property, none, is.read.same.justices))
  justice_stopped stops.ReadFailed other why = absurd why
  justice_stopped stops.WriteFailed other why = absurd why
