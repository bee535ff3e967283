-- What is read of a stimulus, line by line, is what the texts of its lines are.
use Rattle.std.proofs.Common.{◌≡◌, ◌+◌, ◌++◌, ◌∙◌, ◌∷◌, if◌then◌else◌, rules, ℕ, suc, List, [], Bool, true, false}
use Rattle.std.proofs.Common.{Option, None, Some, ap, arith, bytes_eq, codes, inl, inr, length, map, option_map, refl}
use Rattle.std.proofs.Common.{subst, sym, append_assoc, length-append, flat_map, eq-eqb, eqb-true}
use Rattle.std.specs.List.{AllByRecursion}
use Rattle.std.proofs.lemmas.List.{length-map}
use Rattle.std.proofs.lemmas.Slice.Eq.{bytes_eq-Decides}
use Rattle.aig_circuit.specs.declared.circuit.Circuit.{Circuit}
use Rattle.aig_circuit.specs.declared.value.Val.{Val}
use Rattle.aig_lines.specs.Lines.{Line}
use Rattle.aig_step.specs.Laws.{StimuliAreRead}
use Rattle.aig_step.specs.Stimulus.{Entry, Runs, Step, Stimulus, Stop, before_rest, entry_in, entry_of, judged_lines}
use Rattle.aig_step.specs.Stimulus.{lines_say, no_lines, runs_of, text_of, with_step}
use Rattle.aig_step.specs.StimulusText.{AreRuns, AreSteps, IsGoodText, IsNextBad, run_lines}
use Rattle.aig_step.specs.TraceText.{values_text}
use Rattle.aig_step.proofs.LineValues.{values_length, says_values, values_back, vector_says}

-- entries
step_by : (stop long : Bool) (o : Option (List Val)) (given : List Val)
    → (if stop then Some Stop else if long then option_map Step o else None) ≡ Some (Step given)
    → (long ≡ true) × (o ≡ Some given)
step_by true long o given is = cc
step_by false true (Some vs) given is = (refl, cc)
step_by false true None given is = cc
step_by false false o given is = cc

stop_by : (stop long : Bool) (o : Option (List Val))
    → (if stop then Some Stop else if long then option_map Step o else None) ≡ Some Stop → stop ≡ true
stop_by true long o is = refl
stop_by false true (Some vs) is = cc
stop_by false true None is = cc
stop_by false false o is = cc

-- the text of a step, and of the end
pub record IsStepText (inputs : ℕ) (text : List ℕ) (given : List Val) : Type 0 where
  pub text_is : text ≡ values_text given
  pub long : length given ≡ inputs

pub step_text : (inputs : ℕ) (text : List ℕ) (given : List Val) → entry_in inputs text ≡ Some (Step given)
    → IsStepText inputs text given
step_text inputs text given is = search (rules, step_by, bytes_eq, values_back, values_length, eqb-true)

pub stop_text : (inputs : ℕ) (text : List ℕ) → entry_in inputs text ≡ Some Stop → text ≡ codes "."
stop_text inputs text is = search (rules, bytes_eq-Decides, stop_by, bytes_eq)

-- there is a character for each value
text_long : (vs : List Val) → length (values_text vs) ≡ length vs
text_long vs = sym (values_length (values_text vs) vs (says_values vs))

pub says_step : (inputs : ℕ) (given : List Val) → length given ≡ inputs
    → entry_in inputs (values_text given) ≡ Some (Step given)
says_step inputs given long = search (rules, vector_says, eq-eqb, text_long, says_values)

-- what a text says, if it is good
abbrev pub IsEntryText : Circuit → List ℕ → Option Entry → Type 0
IsEntryText c text None = ¬ IsGoodText c text
IsEntryText c text (Some (Step given)) = IsStepText (length c.inputs) text given
IsEntryText c text (Some Stop) = text ≡ codes "."

pub entry_read : (c : Circuit) (text : List ℕ) (o : Option Entry) → entry_in (length c.inputs) text ≡ o
    → IsEntryText c text o
entry_read c text None is = λ good. elim good [
  | inl step ↦
      let some : entry_in (length c.inputs) text ≡ Some (Step step.0) =
      ap (entry_in (length c.inputs)) step.2 ∙ says_step (length c.inputs) step.0 step.1 in cc
  | inr stop ↦ let some : entry_in (length c.inputs) text ≡ Some Stop = ap (entry_in (length c.inputs)) stop in cc
]
entry_read c text (Some (Step given)) is = step_text (length c.inputs) text given is
entry_read c text (Some Stop) is = stop_text (length c.inputs) text is

module _ (c : Circuit) where
  abbrev inputs : ℕ
  inputs = length c.inputs

  -- what lines of these texts say
  abbrev texts_say : ℕ → List (List ℕ) → Stimulus
  texts_say n [] = no_lines
  texts_say n (t ∷ ts) = before_rest n (entry_in inputs t) (texts_say (suc n) ts)

  by_texts : (n : ℕ) (ls : List Line) → lines_say inputs n ls ≡ texts_say n (map text_of ls)
  by_texts n [] = refl
  by_texts n (l ∷ ls) = ap (before_rest n (entry_of inputs l)) (by_texts (suc n) ls)

  -- runs with one more line at the front
  one_more : (n : ℕ) (t : List ℕ) (ts : List (List ℕ)) (runs whole : Runs) (bad : Option ℕ)
      → AreRuns c (suc n) ts runs bad
      → t ∷ (flat_map run_lines runs.ended ++ map values_text runs.unended)
      ≡ flat_map run_lines whole.ended ++ map values_text whole.unended
      → AllByRecursion (AreSteps c) whole.ended → AreSteps c whole.unended → AreRuns c n (t ∷ ts) whole bad
  one_more n t ts runs whole bad are lines each last =
      let place : suc n + length are.good ≡ n + length (t ∷ are.good) = omega arith in
      record {
        good = t ∷ are.good;
        behind = are.behind;
        parted = ap (λ (us : List (List ℕ)). t ∷ us) are.parted;
        lines = ap (λ (us : List (List ℕ)). t ∷ us) are.lines ∙ lines;
        each = each;
        last = last;
        next = subst (λ (k : ℕ). IsNextBad c k are.behind bad) place are.next;
      }

  with_step_text : (n : ℕ) (ts : List (List ℕ)) (given : List Val) (ended : List (List (List Val)))
      (unended : List (List Val)) (bad : Option ℕ) → length given ≡ inputs
      → AreRuns c (suc n) ts (record { ended = ended; unended = unended }) bad
      → AreRuns c n (values_text given ∷ ts) (with_step given ended unended) bad
  with_step_text n ts given [] unended bad long are =
      one_more n (values_text given) ts (record { ended = []; unended = unended })
      (record { ended = []; unended = given ∷ unended }) bad are refl tt (long, are.last)
  with_step_text n ts given (run ∷ runs) unended bad long are =
      one_more n (values_text given) ts (record { ended = run ∷ runs; unended = unended })
      (record { ended = (given ∷ run) ∷ runs; unended = unended }) bad are refl ((long, are.each.0), are.each.1)
      are.last

  with_text : (n : ℕ) (t : List ℕ) (ts : List (List ℕ)) (o : Option Entry) (rest : Stimulus) → IsEntryText c t o
      → AreRuns c (suc n) ts (runs_of rest.entries) rest.bad
      → (let said = before_rest n o rest in AreRuns c n (t ∷ ts) (runs_of said.entries) said.bad)
  with_text n t ts None rest is are = record {
    good = [];
    behind = t ∷ ts;
    parted = refl;
    lines = refl;
    each = tt;
    last = tt;
    next = (is, ap (λ (k : ℕ). Some k) (omega arith));
  }
  with_text n t ts (Some (Step given)) rest is are =
      let runs = runs_of rest.entries in
      rw is.text_is (with_step_text n ts given runs.ended runs.unended rest.bad is.long are)
  with_text n t ts (Some Stop) rest is are =
      let runs = runs_of rest.entries in
      rw is (one_more n (codes ".") ts runs (record { ended = [] ∷ runs.ended; unended = runs.unended }) rest.bad are
      refl (tt, are.each) are.last)

  -- what is said is what the texts are
  are_said : (n : ℕ) (ts : List (List ℕ))
      → (let said = texts_say n ts in AreRuns c n ts (runs_of said.entries) said.bad)
  are_said n [] =
      record { good = []; behind = []; parted = refl; lines = refl; each = tt; last = tt; next = refl }
  are_said n (t ∷ ts) =
      with_text n t ts (entry_in inputs t) (texts_say (suc n) ts) (entry_read c t (entry_in inputs t) refl)
      (are_said (suc n) ts)

  -- and what they are is said
  abbrev AreSaid : Stimulus → Runs → Option ℕ → Type 0
  AreSaid said runs bad = (runs_of said.entries ≡ runs) × (said.bad ≡ bad)

  next_bad : (n : ℕ) (behind : List (List ℕ)) (bad : Option ℕ) → IsNextBad c n behind bad
      → AreSaid (texts_say n behind) (record { ended = []; unended = [] }) bad
  next_bad n [] bad is = (refl, sym is)
  next_bad n (t ∷ ts) bad is = bad_line (entry_in inputs t) (entry_read c t (entry_in inputs t) refl) where
    bad_line : (o : Option Entry) → IsEntryText c t o
        → AreSaid (before_rest n o (texts_say (suc n) ts)) (record { ended = []; unended = [] }) bad
    bad_line None read = (refl, sym is.1)
    bad_line (Some (Step given)) read = absurd (is.0 (inl (given, read.long, read.text_is)))
    bad_line (Some Stop) read = absurd (is.0 (inr read))

  step_said : (n : ℕ) (given : List Val) (texts : List (List ℕ)) (runs : Runs) (bad : Option ℕ) → length given ≡ inputs
      → AreSaid (texts_say (suc n) texts) runs bad
      → AreSaid (texts_say n (values_text given ∷ texts)) (with_step given runs.ended runs.unended) bad
  step_said n given texts runs bad long said =
      subst (λ (o : Option Entry). AreSaid (before_rest n o (texts_say (suc n) texts))
      (with_step given runs.ended runs.unended) bad) (sym (says_step inputs given long))
      (ap (λ (r : Runs). with_step given r.ended r.unended) said.0, said.1)

  last_said : (n : ℕ) (steps : List (List Val)) (behind : List (List ℕ)) (bad : Option ℕ) → AreSteps c steps
      → IsNextBad c (n + length steps) behind bad
      → AreSaid (texts_say n (map values_text steps ++ behind)) (record { ended = []; unended = steps }) bad
  last_said n [] behind bad are next =
      next_bad n behind bad (subst (λ (k : ℕ). IsNextBad c k behind bad) (omega arith) next)
  last_said n (given ∷ steps) behind bad are next =
      step_said n given (map values_text steps ++ behind) (record { ended = []; unended = steps }) bad are.0
      (last_said (suc n) steps behind bad are.1 (subst (λ (k : ℕ). IsNextBad c k behind bad) (omega arith) next))

  run_said : (n : ℕ) (run : List (List Val)) (texts : List (List ℕ)) (runs : Runs) (bad : Option ℕ) → AreSteps c run
      → ((m : ℕ) → m ≡ n + length (run_lines run) → AreSaid (texts_say m texts) runs bad)
      → AreSaid (texts_say n (run_lines run ++ texts)) (record { ended = run ∷ runs.ended; unended = runs.unended }) bad
  run_said n [] texts runs bad are others =
      let said = others (suc n) (omega arith) in
      (ap (λ (r : Runs). record { ended = [] ∷ r.ended; unended = r.unended }) said.0, said.1)
  run_said n (given ∷ run) texts runs bad are others =
      step_said n given (run_lines run ++ texts) (record { ended = run ∷ runs.ended; unended = runs.unended }) bad are.0
      (run_said (suc n) run texts runs bad are.1 (λ m is. others m (omega (arith, is))))

  all_said : (n : ℕ) (runs : List (List (List Val))) (steps : List (List Val)) (behind : List (List ℕ)) (bad : Option ℕ)
      → AllByRecursion (AreSteps c) runs → AreSteps c steps
      → IsNextBad c (n + length (flat_map run_lines runs ++ map values_text steps)) behind bad
      → AreSaid (texts_say n ((flat_map run_lines runs ++ map values_text steps) ++ behind))
      (record { ended = runs; unended = steps }) bad
  all_said n [] steps behind bad each last next =
      last_said n steps behind bad last
      (subst (λ (k : ℕ). IsNextBad c (n + k) behind bad) (length-map steps values_text) next)
  all_said n (run ∷ runs) steps behind bad each last next =
      let others = flat_map run_lines runs ++ map values_text steps in
      let joined = append_assoc (run_lines run) (flat_map run_lines runs) (map values_text steps) in
      subst (λ (ts : List (List ℕ)). AreSaid (texts_say n ts) (record { ended = run ∷ runs; unended = steps }) bad)
      (sym (ap (λ (ts : List (List ℕ)). ts ++ behind) joined ∙ append_assoc (run_lines run) others behind))
      (run_said n run (others ++ behind) (record { ended = runs; unended = steps }) bad each.0
      (λ m is. all_said m runs steps behind bad each.1 last
      (subst (λ (k : ℕ). IsNextBad c k behind bad)
      (omega (arith, is, ap length joined, length-append (run_lines run) others)) next)))

  said_are : (n : ℕ) (ts : List (List ℕ)) (runs : Runs) (bad : Option ℕ) → AreRuns c n ts runs bad
      → AreSaid (texts_say n ts) runs bad
  said_are n ts runs bad are =
      subst (λ (us : List (List ℕ)). AreSaid (texts_say n us) runs bad)
      (sym (are.parted ∙ ap (λ (good : List (List ℕ)). good ++ are.behind) are.lines))
      (all_said n runs.ended runs.unended are.behind bad are.each are.last
      (subst (λ (good : List (List ℕ)). IsNextBad c (n + length good) are.behind bad) are.lines are.next))

pub stimuli_are_read : StimuliAreRead
stimuli_are_read c bytes ended runs bad =
    let ts = map text_of (judged_lines bytes ended) in
    let same = by_texts c 1 (judged_lines bytes ended) in (
      λ is.
          subst (λ (r : Runs). AreRuns c 1 ts r bad) (ap (λ (s : Stimulus). runs_of s.entries) (sym same) ∙ is.0)
          (subst (λ (b : Option ℕ). AreRuns c 1 ts (runs_of (texts_say c 1 ts).entries) b)
          (ap (λ (s : Stimulus). s.bad) (sym same) ∙ is.1) (are_said c 1 ts)),
      λ are. subst (λ (s : Stimulus). AreSaid c s runs bad) (sym same) (said_are c 1 ts runs bad are),
    )
