-- Runs that are read at the front of a stimulus, and of all of it where it has no bad line.
use Rattle.std.proofs.Common.{◌≡◌, ◌+◌, ◌*◌, ◌≤◌, ◌==◌, ◌&&◌, ◌++◌, ◌∷◌, if◌then◌else◌, ◌∙◌, ◌||◌, ◌≢◌, ◌<◌, rules}
use Rattle.std.proofs.Common.{Bool, false, ℕ, List, [], Option, Some, is_some, length, take, drop, refl, sym, ap, subst}
use Rattle.std.proofs.Common.{append_assoc, append-nil, arith, bytes_eq, codes, filter, map, suc, true, None, zero}
use Rattle.std.proofs.Common.{option_map, ⊎_elim, flat_map, slice_index, eq-eqb, drop-drop, length-append, length-drop}
use Rattle.std.proofs.Common.{length-take-le}
use Rattle.std.proofs.lemmas.Bool.{cases_lt}
use Rattle.std.proofs.lemmas.List.{map-append, take-append-le}
use Rattle.std.proofs.lemmas.List.Concat.{flat_map-append}
use Rattle.std.proofs.lemmas.Grind.{common_steps}
use Rattle.std.proofs.lemmas.Slice.Eq.{bytes_eq-Decides}
use Rattle.memchr.specs.Find.{IsFirstByte, is_byte}
use Rattle.aig_circuit.specs.declared.value.Val.{Val}
use Rattle.aig_lines.specs.Lines.{Line, line}
use Rattle.aig_lines.proofs.Feeds.{kept_first, first_line}
use Rattle.aig_lines.proofs.Pieces.{ended_piece}
use Rattle.aig_step.specs.Stimulus.{Entry, Step, Stop, Stimulus, before_rest, entry_in, entry_of, judged_lines}
use Rattle.aig_step.specs.Stimulus.{lines_say, stimulus, values_of, without_return}
use Rattle.aig_step.specs.Parts.Lines.{vector_in}
use Rattle.aig_step.proofs.LineValues.{vector_long, vector_says}
use Rattle.aig_lanes.specs.declared.run.Run.{Run}
use Rattle.aig_lanes.specs.Parts.Vectors.{AreVectors, said, vectors_in}
use Rattle.aig_lanes.proofs.Side.Sheets.{more_vectors, vectors_push}
use Rattle.aig_batch.specs.Parts.RunsRead.{SaysEntries, entries_of_run, HasNoBadLine}

-- lines after lines
pub says_then : (inputs : ℕ) (bytes mid rest : List ℕ) (es fs : List Entry) → SaysEntries inputs bytes es mid
    → SaysEntries inputs mid fs rest → SaysEntries inputs bytes (es ++ fs) rest
says_then inputs bytes mid rest es fs p q = record {
  parted = p.parted ∙ ap (λ (gs : List Entry). es ++ gs) q.parted
      ∙ sym (append_assoc es fs (stimulus inputs rest true).entries);
}

-- the lines that are judged, where the first has its line feed
pub judged_first : (bytes : List ℕ) (next : ℕ) → IsFirstByte (is_byte 10) bytes (Some next)
    → judged_lines bytes true ≡ line (take next bytes) true ∷ judged_lines (drop 1 (drop next bytes)) true
judged_first bytes next found =
    let cut = first_line bytes next found in
    ap (λ (bs : List ℕ). judged_lines bs true) cut.1
    ∙ ap (filter (λ (l : Line). l.ended || true)) (ended_piece (take next bytes) (drop 1 (drop next bytes)) cut.0)

-- what lines say does not depend on their numbers
entry_before : (m n : ℕ) (o : Option Entry) (s t : Stimulus) → s.entries ≡ t.entries
    → (before_rest m o s).entries ≡ (before_rest n o t).entries
entry_before m n None s t same = refl
entry_before m n (Some e) s t same = ap (λ (es : List Entry). e ∷ es) same

same_entries : (inputs m n : ℕ) (ls : List Line) → (lines_say inputs m ls).entries ≡ (lines_say inputs n ls).entries
same_entries inputs m n [] = refl
same_entries inputs m n (l ∷ ls) =
    entry_before m n (entry_of inputs l) _ _ (same_entries inputs (suc m) (suc n) ls)

-- one line
pub says_line : (inputs : ℕ) (bytes : List ℕ) (next : ℕ) (e : Entry)
    → IsFirstByte (is_byte 10) bytes (Some next)
    → entry_in inputs (without_return (take next bytes)) ≡ Some e
    → SaysEntries inputs bytes (e ∷ []) (drop 1 (drop next bytes))
says_line inputs bytes next e found is =
    let rest = judged_lines (drop 1 (drop next bytes)) true in
    record {
      parted = ap (λ (ls : List Line). (lines_say inputs 1 ls).entries) (judged_first bytes next found)
          ∙ ap (λ (o : Option Entry). (before_rest 1 o (lines_say inputs 2 rest)).entries) is
          ∙ ap (λ (es : List Entry). e ∷ es) (same_entries inputs 2 1 rest);
    }

-- a line that ends a run
stop_says : (inputs : ℕ) (text : List ℕ) → bytes_eq text (codes ".") ≡ true → entry_in inputs text ≡ Some Stop
stop_says inputs text is = rw is refl

-- as many characters as inputs
vector_is : (inputs : ℕ) (text : List ℕ) → length text ≡ inputs → vector_in inputs text ≡ values_of text
vector_is inputs text long = rw (eq-eqb (length text) inputs long) refl

module _ (inputs : ℕ) (bytes : List ℕ) (steps : List (List Val)) (before rest : List ℕ) (next : ℕ)
    (says : SaysEntries inputs bytes (map Step steps) before)
    (found : IsFirstByte (is_byte 10) before (Some next)) (same : rest ≡ drop 1 (drop next before)) where
  one_more : (e : Entry) → entry_in inputs (without_return (take next before)) ≡ Some e
      → SaysEntries inputs bytes (map Step steps ++ e ∷ []) rest
  one_more e is =
      subst (SaysEntries inputs bytes (map Step steps ++ e ∷ [])) (sym same)
      (says_then inputs bytes before (drop 1 (drop next before)) (map Step steps) (e ∷ []) says
      (says_line inputs before next e found is))

  -- the run ends
  pub run_ends : bytes_eq (without_return (take next before)) (codes ".") ≡ true
      → SaysEntries inputs bytes (map Step steps ++ Stop ∷ []) rest
  run_ends is = one_more Stop (stop_says inputs (without_return (take next before)) is)

  -- it has one more step
  pub one_step : (given : List Val) (now : List (List Val)) → now ≡ steps ++ given ∷ []
      → vector_in inputs (without_return (take next before)) ≡ Some given
      → SaysEntries inputs bytes (map Step now) rest
  one_step given now is said = search (rules, map-append, one_more, vector_says)

-- one more run
pub one_run : (inputs : ℕ) (bytes before rest : List ℕ) (runs now : List Run) (run : Run)
    → now ≡ runs ++ run ∷ [] → SaysEntries inputs bytes (flat_map entries_of_run runs) before
    → SaysEntries inputs before (entries_of_run run) rest
    → SaysEntries inputs bytes (flat_map entries_of_run now) rest
one_run inputs bytes before rest runs now run is front next = search (rules, append-nil, flat_map-append, says_then)

last_cut : (p : Bool) (b : ℕ) → (if p then [] else b ∷ []) ≡ take (length (if p then [] else b ∷ [])) (b ∷ [])
last_cut true b = refl
last_cut false b = refl

last_shorter : (p : Bool) (b : ℕ) → length (if p then [] else b ∷ []) ≤ 1
last_shorter true b = omega arith
last_shorter false b = omega arith

-- the text of a line is at its front
text_in_front : (line : List ℕ) → without_return line ≡ take (length (without_return line)) line
text_in_front [] = refl
text_in_front (b ∷ []) = last_cut ((b == 13) && true) b
text_in_front (a ∷ b ∷ bs) =
    kept_first a b bs
    ∙ ap (λ (t : List ℕ). a ∷ t) (text_in_front (b ∷ bs))
    ∙ ap (λ (t : List ℕ). take (length t) (a ∷ b ∷ bs)) (sym (kept_first a b bs))

text_shorter : (line : List ℕ) → length (without_return line) ≤ length line
text_shorter [] = omega arith
text_shorter (b ∷ []) = last_shorter ((b == 13) && true) b
text_shorter (a ∷ b ∷ bs) = omega (arith, ap length (kept_first a b bs), text_shorter (b ∷ bs))

one_more_step : (n size : ℕ) → (n + 1) * size ≡ n * size + size
one_more_step n size = omega arith

-- a line that says a step stands where the next one of its run is due
module _ (inputs stride steps next : ℕ) (bytes rest : List ℕ) (vector : List Val)
    (are : AreVectors inputs stride steps bytes) (rest_is : rest ≡ drop (steps * stride) bytes)
    (found : IsFirstByte (is_byte 10) rest (Some next)) (long : next + 1 ≡ stride)
    (says : vector_in inputs (without_return (take next rest)) ≡ Some vector) where
  abbrev text : List ℕ
  text = without_return (take next rest)

  fits : length text ≡ inputs
  fits = vector_long inputs text vector says

  cut : rest ≡ take next rest ++ 10 ∷ drop 1 (drop next rest)
  cut = (first_line rest next found).1

  enough : inputs ≤ length (take next rest)
  enough = omega (arith, fits, text_shorter (take next rest))

  text_there : take inputs (drop (steps * stride) bytes) ≡ text
  text_there =
      ap (take inputs) (sym rest_is ∙ cut)
      ∙ take-append-le inputs (take next rest) (10 ∷ drop 1 (drop next rest)) enough
      ∙ ap (λ n. take n (take next rest)) (sym fits) ∙ sym (text_in_front (take next rest))

  values_there : values_of (take inputs (drop (steps * stride) bytes)) ≡ Some vector
  values_there = ap values_of text_there ∙ sym (vector_is inputs text fits) ∙ says

  pub vectors_more : AreVectors inputs stride (steps + 1) bytes
  vectors_more = search (rules, more_vectors, enough, cut, length-append, length-drop, is_some, values_there)

  pub vectors_are : vectors_in inputs stride (steps + 1) bytes ≡ vectors_in inputs stride steps bytes ++ vector ∷ []
  vectors_are =
      vectors_push inputs stride steps bytes
      ∙ ap (λ (o : Option (List Val)). vectors_in inputs stride steps bytes ++ said o ∷ []) values_there

  pub rest_more : drop 1 (drop next rest) ≡ drop ((steps + 1) * stride) bytes
  rest_more =
      let sum : steps * stride + stride ≡ (steps + 1) * stride = omega (arith, one_more_step steps stride) in
      drop-drop 1 next rest ∙ ap (λ n. drop n rest) long ∙ ap (drop stride) rest_is
      ∙ drop-drop stride (steps * stride) bytes ∙ ap (λ n. drop n bytes) sum

-- Lines of a stimulus that has no bad one.
before_good : (number : ℕ) (o : Option Entry) (rest : Stimulus) → (before_rest number o rest).bad ≡ None
    → ((e : Entry) × (o ≡ Some e)) × (rest.bad ≡ None)
before_good number None rest is = cc
before_good number (Some e) rest is = ((e, refl), is)

-- the first line says something, and none after it is bad
pub good_line : (inputs : ℕ) (bytes : List ℕ) (next : ℕ) → IsFirstByte (is_byte 10) bytes (Some next)
    → HasNoBadLine inputs bytes
    → ((e : Entry) × (entry_in inputs (without_return (take next bytes)) ≡ Some e))
    × HasNoBadLine inputs (drop 1 (drop next bytes))
good_line inputs bytes next found good = grind (arith, common_steps, judged_first, before_good)

no_stop : (stop long : Bool) (o : Option (List Val)) (e : Entry) → stop ≡ false
    → (if stop then Some Stop else if long then option_map Step o else None) ≡ Some e
    → (given : List Val) × ((if long then o else None) ≡ Some given)
no_stop true long o e off is = cc
no_stop false true (Some vs) e off is = (vs, refl)
no_stop false true None e off is = cc
no_stop false false o e off is = cc

-- a line that ends no run is a step
pub is_step : (inputs : ℕ) (text : List ℕ) (e : Entry) → entry_in inputs text ≡ Some e
    → bytes_eq text (codes ".") ≡ false → (given : List Val) × (vector_in inputs text ≡ Some given)
is_step inputs text e is off =
    no_stop (bytes_eq text (codes ".")) (length text == inputs) (values_of text) e off is

-- the first number that passes a test, where one does
first_from : (test : ℕ → Bool) (i more : ℕ) → ((j : ℕ) → j < i → ¬ (test j ≡ true)) → test (i + more) ≡ true
    → (k : ℕ) × (k ≤ i + more) × (test k ≡ true) × ((j : ℕ) → j < k → ¬ (test j ≡ true))
first_from test i zero none at =
    let same : i + zero ≡ i = omega arith in
    (i, omega arith, subst (λ (n : ℕ). test n ≡ true) same at, none)
first_from test i (suc more) none at =
    let same : i + suc more ≡ i + 1 + more = omega arith in
    elim (test i) as (λ (b : Bool). test i ≡ b
    → (k : ℕ) × (k ≤ i + suc more) × (test k ≡ true) × ((j : ℕ) → j < k → ¬ (test j ≡ true))) [
      | true ↦ λ here. (i, omega arith, here, none)
      | false ↦ λ off.
          let w = first_from test (i + 1) more
          (λ j below passes. ⊎_elim (λ (b : j < i). none j b passes)
          (λ (b : i ≤ j).
          let e : j ≡ i = omega (arith, b, below) in
          let never : true ≡ false = sym passes ∙ ap test e ∙ off in cc)
          (cases_lt j i))
          (subst (λ (n : ℕ). test n ≡ true) same at) in
          (w.0, omega (arith, w.1), w.2, w.3)
    ] refl

begins : (b : ℕ) (bs : List ℕ) (n : ℕ) → n ≡ 1 → take n (b ∷ bs) ≡ codes "." → b ≡ 46
begins b bs n one is =
    let cut : take 1 (b ∷ bs) ≡ codes "." = subst (λ (m : ℕ). take m (b ∷ bs) ≡ codes ".") one is in cc

-- a line that ends a run begins with its character
begins_so : (bytes : List ℕ) (k : ℕ) → without_return (take k bytes) ≡ codes "." → slice_index bytes 0 ≡ 46
begins_so bytes zero is = cc
begins_so [] (suc k) is = cc
begins_so (b ∷ bs) (suc k) is =
    let text = without_return (b ∷ take k bs) in
    begins b (take k bs) (length text) (ap length is) (sym (text_in_front (b ∷ take k bs)) ∙ is)

-- where the first line ends no run, its line feed is after the inputs
pub step_ends : (inputs : ℕ) (bytes : List ℕ) → HasNoBadLine inputs bytes → inputs < length bytes
    → slice_index bytes inputs ≡ 10 → slice_index bytes 0 ≢ 46 → IsFirstByte (is_byte 10) bytes (Some inputs)
step_ends inputs bytes good there at other =
    let test : ℕ → Bool = λ k. is_byte 10 (slice_index bytes k) in
    let all : inputs ≡ 0 + inputs = omega arith in
    let here : test inputs ≡ true = ap (is_byte 10) at in
    let w = first_from test 0 inputs (λ j below _. omega (arith, below)) (subst (λ n. test n ≡ true) all here) in
    let k : ℕ = w.0 in
    let found : IsFirstByte (is_byte 10) bytes (Some k) =
    (record { low = omega arith; high = omega (arith, w.1, there); before = λ j _ below. w.3 j below }, w.2) in
    let text = without_return (take k bytes) in
    let entry = (good_line inputs bytes k found good).0 in
    let off : bytes_eq text (codes ".") ≡ false =
    elim (bytes_eq text (codes ".")) as (λ (b : Bool). bytes_eq text (codes ".") ≡ b → b ≡ false) [
      | true ↦ λ stop. absurd (other (begins_so bytes k ((bytes_eq-Decides text (codes ".")).0 stop)))
      | false ↦ λ _. refl
    ] refl in
    let step = is_step inputs text entry.0 entry.1 off in
    let long : length text ≡ inputs = vector_long inputs text step.0 step.1 in
    let same : k ≡ inputs =
    omega (arith, long, text_shorter (take k bytes), length-take-le k bytes (omega (arith, w.1, there)), w.1) in
    subst (λ (n : ℕ). IsFirstByte (is_byte 10) bytes (Some n)) same found
