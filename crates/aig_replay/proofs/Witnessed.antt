-- The memory into which an answer was read is the witness of the run that was found.
use Rattle.std.proofs.Common.{◌≡◌, ◌⊎◌, ◌+◌, ◌*◌, ◌<◌, ◌≤◌, ◌∙◌, ℕ, List, [], Bool, true, false, None, Option, Some, ap}
use Rattle.std.proofs.Common.{◌∷◌, ◌++◌, Ok, arith, drop, inl, inr, length, map, refl, replicate, subst, sym, take}
use Rattle.std.proofs.Math.Seq.{take-append_seam}
use Rattle.std.proofs.Math.Nat.{mul-le-mul_right}
use Rattle.aig_circuit.specs.declared.circuit.Circuit.{Circuit}
use Rattle.aig_circuit.specs.declared.circuit.Reset.{Reset}
use Rattle.aig_circuit.specs.declared.circuit.Reset.TheVariants as resets
use Rattle.aig_circuit.specs.declared.value.Val.{Val}
use Rattle.aig_circuit.specs.Wellformed.{IsWellFormed}
use Rattle.aig_cnf.specs.Clauses.{truth}
use Rattle.aig_io.specs.Devices.{History}
use Rattle.aig_io.specs.Runs.{Read}
use Rattle.aig_io.proofs.Runs.{read_weaker}
use Rattle.aig_step.specs.TraceText.{character_of, values_text}
use Rattle.aig_unroll.specs.Unrolled.{all_inputs, resets_of, uninitialised}
use Rattle.aig_reach.specs.Cut.{cut_first}
use Rattle.aig_witness.specs.Witness.{Claim}
use Rattle.aig_replay.specs.declared.search.Hit.{Hit}
use Rattle.aig_replay.specs.declared.start.FoundRun.{FoundRun}
use Rattle.aig_replay.specs.Finding.{SaysSteps}
use Rattle.aig_replay.specs.Held.{HoldsClaim, claim_held, steps_held, value_held}
use Rattle.aig_replay.specs.Laws.{claim_of}
use Rattle.aig_replay.specs.Alone.{HasSelected, selected_of}
use Rattle.aig_replay.specs.Parts.{IsRunBy, RunSays, number_or}
use Rattle.aig_replay.specs.Reached.{HasFound, ReachedBy, WitnessSays, claim_selected, read_over, run_of}
use Rattle.aig_replay.specs.Starting.{AreBits, assigned}
use Rattle.aig_replay.proofs.ByAnswer.{hit_low, reached}
use Rattle.aig_replay.proofs.Keeping.{steps_back, values_back}
use Rattle.aig_replay.proofs.Reading.{AreValues, values_read}
use Rattle.aig_replay.proofs.Starting.{steps_said}

bit_of_truth : (b : Bool) → (character_of (truth b) ≡ 48) ⊎ (character_of (truth b) ≡ 49)
bit_of_truth true = inr refl
bit_of_truth false = inl refl

first_bits : (a : ℕ → Bool) (v : ℕ) (rs : List Reset) → AreBits (values_text (cut_first a v rs))
first_bits a v [] = tt
first_bits a v (resets.Zero ∷ rs) = (inl refl, first_bits a v rs)
first_bits a v (resets.One ∷ rs) = (inr refl, first_bits a v rs)
first_bits a v (resets.Uninit ∷ rs) = (bit_of_truth (a v), first_bits a (v + 1) rs)

-- a claim of these parts
same_claim : (selected : Option ℕ) (property : ℕ) (first state : List Val) (steps vectors : List (List Val))
    → first ≡ state → steps ≡ vectors
    → record { property = number_or selected property; first = first; steps = steps }
    ≡ claim_selected selected (record { property = property; first = state; steps = vectors })
same_claim None property first state steps vectors one two = rw (one, two) refl
same_claim (Some n) property first state steps vectors one two = rw (one, two) refl

fewer : (m n k : ℕ) → m ≤ n → m * k ≤ n * k
fewer m n k low = mul-le-mul_right k low

module _ (d : Circuit) (frames : ℕ) (bits : List ℕ) (are : AreValues (all_inputs d frames) bits) (used : ℕ)
    (uses : used ≡ uninitialised (resets_of d)) (hit : Hit) (found : HasFound d frames bits (Some hit))
    (first : List ℕ) (is_first : first ≡ values_text (run_of d frames bits).first) where
  abbrev run : Claim
  run = run_of d frames bits

  said : SaysSteps (length d.inputs) frames (drop used bits) run.steps
  said =
      steps_said bits are.bits_are used (1 + uninitialised (resets_of d)) (length d.inputs) frames (omega (arith, uses))
      (omega (arith, uses, are.many))

  pub holds : HoldsClaim first bits used (length d.inputs) (hit.step + 1)
  holds = record {
    first_bits = subst AreBits (sym is_first) (first_bits (assigned bits) 1 (resets_of d));
    step_bits = are.bits_are;
    room = omega (
      arith,
      fewer (hit.step + 1) frames (length d.inputs) (omega (arith, hit_low d frames bits hit found)),
      uses,
      are.many,
    );
  }

  pub claim_is : (selected : Option ℕ)
      → claim_held (number_or selected hit.property) first (length d.inputs) (hit.step + 1) (drop used bits)
      ≡ claim_selected selected (claim_of run.first run.steps hit)
  claim_is selected =
      same_claim selected hit.property (map value_held first) run.first
      (steps_held (length d.inputs) (hit.step + 1) (drop used bits)) (take (hit.step + 1) run.steps)
      (ap (map value_held) is_first ∙ values_back run.first)
      (ap (steps_held (length d.inputs) (hit.step + 1)) said.bytes_are
      ∙ steps_back (length d.inputs) (hit.step + 1) run.steps said.long
      (omega (arith, said.many, hit_low d frames bits hit found)))

-- the same of what was read and run
module _ (d : Circuit) (frames : ℕ) (bytes : List ℕ) (run : FoundRun) (bits first : List ℕ)
    (is : IsRunBy d frames bytes run bits first) where
  values_are : AreValues (all_inputs d frames) bits
  values_are = values_read (all_inputs d frames) (replicate (all_inputs d frames) 48) bits bytes refl is.bits_are

  pub run_low : run.hit.step < frames
  run_low = hit_low d frames bits run.hit is.found

  pub run_holds : HoldsClaim first bits run.used (length d.inputs) (run.hit.step + 1)
  run_holds = holds d frames bits values_are run.used is.used run.hit is.found first is.first_is

  pub run_claim : (selected : Option ℕ)
      → claim_held (number_or selected run.hit.property) first (length d.inputs) (run.hit.step + 1) (drop run.used bits)
      ≡ claim_selected selected (claim_of (run_of d frames bits).first (run_of d frames bits).steps run.hit)
  run_claim = claim_is d frames bits values_are run.used is.used run.hit is.found first is.first_is

run_reached : (c : Circuit) (selected : Option ℕ) (frames : ℕ) (bytes : List ℕ) (run : FoundRun) (bits first : List ℕ)
    → IsWellFormed c → HasSelected selected c → IsRunBy (selected_of selected c) frames bytes run bits first
    → ReachedBy c selected frames bytes (claim_held (number_or selected run.hit.property) first
    (length (selected_of selected c).inputs) (run.hit.step + 1) (drop run.used bits))
run_reached c selected frames bytes run bits first formed there is =
    let d = selected_of selected c in
    let now = (read_over d frames bytes).bits in
    let same = is.bits_are in
    let claims : List ℕ → Claim =
    λ bs. claim_selected selected (claim_of (run_of d frames bs).first (run_of d frames bs).steps run.hit) in
    subst (λ (claim : Claim). ReachedBy c selected frames bytes claim)
    (sym (run_claim d frames bytes run bits first is selected ∙ ap claims same))
    (reached c selected frames bytes run.hit formed there is.said
    (subst (λ (bs : List ℕ). HasFound d frames bs (Some run.hit)) same is.found))

-- a witness of these parts is of that run
module _ (d : Circuit) (selected : Option ℕ) (frames : ℕ) (run : FoundRun) (bits first : List ℕ) (claim : Claim)
    (property inputs : ℕ) (bits_now first_now : List ℕ)
    (is_claim : claim ≡ claim_held property first_now inputs (run.hit.step + 1) (drop run.used bits_now))
    (is_property : property ≡ number_or selected run.hit.property) (is_inputs : inputs ≡ length d.inputs)
    (same_bits : bits_now ≡ bits) (same_first : first_now ≡ first) where
  of_each : (bytes : List ℕ) → IsRunBy d frames bytes run bits first → (c : Circuit) → IsWellFormed c
      → HasSelected selected c → d ≡ selected_of selected c → ReachedBy c selected frames bytes claim
  of_each bytes is c formed there same =
      let n : inputs ≡ length (selected_of selected c).inputs = is_inputs
      ∙ ap (λ (e : Circuit). length e.inputs) same in
      rw (is_claim, is_property, n, same_bits, same_first)
      (run_reached c selected frames bytes run bits first formed there
      (subst (λ (e : Circuit). IsRunBy e frames bytes run bits first) same is))

  pub witness_says : (a b : History) → Read (RunSays d frames (Ok run) bits first) a b
      → Read (WitnessSays d selected frames (Ok claim)) a b
  witness_says a b ran =
      read_weaker (RunSays d frames (Ok run) bits first) (WitnessSays d selected frames (Ok claim)) a b
      (λ bytes ending says. (says.0, of_each bytes says.1)) ran

-- what was written to the front of a list, all of it
pub written_back : (n : ℕ) (xs ys : List ℕ) → n ≡ length ys → take n (ys ++ drop (length ys) xs) ≡ ys
written_back n xs ys is =
    ap (λ (k : ℕ). take k (ys ++ drop (length ys) xs)) is ∙ take-append_seam ys (drop (length ys) xs)

pub same_held : (first first_now bits bits_now : List ℕ) (used inputs n count : ℕ) → first_now ≡ first
    → bits_now ≡ bits → n ≡ inputs → HoldsClaim first bits used inputs count
    → HoldsClaim first_now bits_now used n count
same_held first first_now bits bits_now used inputs n count one two three is = rw (one, two, three) is
