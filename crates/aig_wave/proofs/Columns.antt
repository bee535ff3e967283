-- The signals of a kind show its column of a line, and the columns of a step's line are the lists of its row.
use Rattle.std.proofs.Common.{◌≡◌, ◌+◌, ◌∙◌, ◌∷◌, ◌++◌, ◌-◌, ℕ, zero, suc, List, [], refl, length, take, drop}
use Rattle.std.proofs.Common.{replicate, sym, ap, subst, arith, inl, inr, append_assoc, append-nil, length-append}
use Rattle.std.proofs.Math.Seq.{drop-append-add, take-add, take-append_seam}
use Rattle.std.proofs.lemmas.Bool.{cases_Bool}
use Rattle.std.proofs.lemmas.List.{drop-drop, length-map, length-replicate}
use Rattle.std.specs.List.{AllByRecursion, flat_map}
use Rattle.aig_circuit.specs.declared.circuit.Circuit.{Circuit}
use Rattle.aig_circuit.specs.declared.circuit.Kind.{Kind}
use Rattle.aig_circuit.specs.declared.circuit.Kind.TheVariants.{Input, Latch, Output, Bad, Constraint}
use Rattle.aig_circuit.specs.declared.value.Val.{Val}
use Rattle.aig_circuit.specs.declared.value.Val.TheVariants.{Zero, One, X}
use Rattle.aig_circuit.specs.Wellformed.{count_of}
use Rattle.aig_circuit.proofs.Checking.{back, front, joined}
use Rattle.aig_meaning.specs.Meaning.{IsRow, Row, literal_value}
use Rattle.aig_meaning.proofs.Traces.{bad_length, constraints_length, inputs_length, next_length, state_length}
use Rattle.aig_step.specs.TraceText.{character_of, values_text}
use Rattle.aig_wave.specs.declared.signal.Signal.{Signal}
use Rattle.aig_wave.specs.Frames.{closing_line, frame}
use Rattle.aig_wave.specs.Laws.{ShowsSteps}
use Rattle.aig_wave.specs.Layout.{layout_of}
use Rattle.aig_wave.specs.Names.{follows, indexed}
use Rattle.aig_wave.specs.Places.{kinds, next_place, place, width}
use Rattle.aig_wave.specs.Signals.{followers, names_of, signals_behind, signals_of}
use Rattle.aig_wave.specs.Wave.{bits}
use Rattle.aig_wave.proofs.Alike.{each_same}
use Rattle.aig_wave.proofs.Decoding.{IsShown, ShowSame, ShowValues}
use Rattle.aig_wave.proofs.Distinct.{names_count}
use Rattle.aig_wave.proofs.Tagged.{AreValues}

-- the characters of a kind in a line
abbrev pub column : Circuit → Kind → List ℕ → List ℕ
column c kind line = take (count_of c kind) (drop (place c kind) line)

one_longer : (k m : ℕ) (line behind more : List ℕ) → behind ≡ drop 1 line → take k behind ++ more ≡ take m behind
    → take (suc k) line ++ more ≡ take (suc m) line
one_longer k m line behind more is e =
    let parted = λ (n : ℕ). (let sum : suc n ≡ 1 + n = omega arith in
    ap (λ (j : ℕ). take j line) sum ∙ take-add 1 n line ∙ ap (λ (t : List ℕ). take 1 line ++ take n t) (sym is)) in
    ap (λ (t : List ℕ). t ++ more) (parted k) ∙ append_assoc (take 1 line) (take k behind) more
    ∙ ap (λ (t : List ℕ). take 1 line ++ t) e ∙ sym (parted m)

module _ (c : Circuit) (kind : Kind) (line : List ℕ) where
  abbrev at : ℕ → List ℕ
  at p = drop (place c kind + p) line

  abbrev shown : List Signal → List ℕ
  shown ss = flat_map (λ (s : Signal). bits s line) ss

  tiled : (p : ℕ) (before : List ℕ) (ns : List (List ℕ))
      → take (followers before ns) (at p) ++ shown (signals_behind c kind p before ns) ≡ take (length ns) (at p)
  tiled p before [] = refl
  tiled p before (n ∷ ns) =
      let place_behind : place c kind + (p + 1) ≡ place c kind + p + 1 = omega arith in
      let behind : at (p + 1) ≡ drop 1 (at p) =
      ap (λ (j : ℕ). drop j line) place_behind ∙ sym (drop-drop 1 (place c kind + p) line) in
      let more = shown (signals_behind c kind (p + 1) n ns) in
      let rest = one_longer (followers n ns) (length ns) (at p) (at (p + 1)) more behind (tiled (p + 1) n ns) in
      let sum : 1 + followers n ns ≡ suc (followers n ns) = omega arith in
      elim (cases_Bool (follows before n)) [
        | inl joins ↦ rw joins rest
        | inr begins ↦ rw begins (ap (λ (j : ℕ). take j (at p) ++ more) sum ∙ rest)
      ]

  no_followers : (ns : List (List ℕ)) → followers [] ns ≡ 0
  unfolding follows indexed
  no_followers [] = refl
  no_followers (n ∷ ns) = refl

  column_shown : shown (signals_of c kind) ≡ column c kind line
  column_shown =
      let ns = names_of c kind in
      let here : place c kind + 0 ≡ place c kind = omega arith in
      ap (λ (j : ℕ). take j (at 0) ++ shown (signals_of c kind)) (sym (no_followers ns)) ∙ tiled 0 [] ns
      ∙ ap (λ (j : ℕ). take j (at 0)) (names_count c kind)
      ∙ ap (λ (j : ℕ). take (count_of c kind) (drop j line)) here

  values_shown : (ss : List Signal) → AreValues (shown ss) → ShowValues ss line
  values_shown [] are = tt
  values_shown (s ∷ ss) are =
      (front _ (bits s line) (shown ss) are, values_shown ss (back _ (bits s line) (shown ss) are))

-- a line shows values where its columns are values
all_shown : (c : Circuit) (line : List ℕ) (ks : List Kind) → AllByRecursion (λ k. AreValues (column c k line)) ks
    → ShowValues (flat_map (signals_of c) ks) line
all_shown c line [] are = tt
all_shown c line (k ∷ ks) are =
    joined _ (signals_of c k) (flat_map (signals_of c) ks)
    (values_shown c k line (signals_of c k) (subst AreValues (sym (column_shown c k line)) are.0))
    (all_shown c line ks are.1)

-- lines that show the same have the same columns
pub same_columns : (c : Circuit) (line other : List ℕ) (ks : List Kind)
    → ShowSame (flat_map (signals_of c) ks) line other
    → AllByRecursion (λ k. column c k line ≡ column c k other) ks
same_columns c line other [] same = tt
same_columns c line other (k ∷ ks) same =
    let ss = signals_of c k in
    let rest = flat_map (signals_of c) ks in (
      sym (column_shown c k line)
          ∙ each_same (λ (s : Signal). bits s line) (λ (s : Signal). bits s other) ss (front _ ss rest same)
          ∙ column_shown c k other,
      same_columns c line other ks (back _ ss rest same),
    )

value_is : (v : Val) → AreValues (character_of v ∷ [])
value_is Zero = (refl, tt)
value_is One = (refl, tt)
value_is X = (refl, tt)

values_are : (vs : List Val) → AreValues (values_text vs)
values_are [] = tt
values_are (v ∷ vs) = ((value_is v).0, values_are vs)

-- the line of a step, without its line feed
abbrev pub row_line : Row → List ℕ
row_line row =
    values_text row.state ++ (32 ∷ (values_text row.inputs ++ (32 ∷ (values_text row.outputs
    ++ (32 ∷ (values_text row.next ++ (32 ∷ (values_text row.bad ++ (32 ∷ values_text row.constraints)))))))))

-- what stands after some characters and a space, and these characters themselves
module _ (k n : ℕ) (line text rest : List ℕ) (long : length text ≡ n) where
  behind_text : drop k line ≡ text ++ 32 ∷ rest → drop (k + n + 1) line ≡ rest
  behind_text e =
      let sum : k + n + 1 ≡ k + (n + 1) = omega arith in
      ap (λ (j : ℕ). drop j line) sum ∙ sym (drop-drop (n + 1) k line) ∙ ap (drop (n + 1)) e
      ∙ ap (λ (j : ℕ). drop (j + 1) (text ++ 32 ∷ rest)) (sym long) ∙ drop-append-add text (32 ∷ rest) 1

  text_at : drop k line ≡ text ++ rest → take n (drop k line) ≡ text
  text_at e =
      ap (take n) e ∙ ap (λ (j : ℕ). take j (text ++ rest)) (sym long) ∙ take-append_seam text rest

-- the columns of a step's line, and the state that comes next
pub record HasColumns (c : Circuit) (row : Row) : Type 0 where
  pub long : length (row_line row) ≡ width c
  pub inputs : column c Input (row_line row) ≡ values_text row.inputs
  pub state : column c Latch (row_line row) ≡ values_text row.state
  pub outputs : column c Output (row_line row) ≡ values_text row.outputs
  pub next : take (length c.latches) (drop (next_place c) (row_line row)) ≡ values_text row.next
  pub bad : column c Bad (row_line row) ≡ values_text row.bad
  pub constraints : column c Constraint (row_line row) ≡ values_text row.constraints

text_long : (vs : List Val) (n : ℕ) → length vs ≡ n → length (values_text vs) ≡ n
text_long vs n e = length-map vs character_of ∙ e

shown_outputs : (c : Circuit) (row : Row) → IsRow c row → length row.outputs ≡ length c.outputs
shown_outputs c row is = ap length is.1.outputs_shown ∙ length-map c.outputs (literal_value is.0)

pub has_columns : (c : Circuit) (row : Row) → IsRow c row → HasColumns c row
has_columns c row is =
    let line = row_line row in
    let state_long = text_long row.state (length c.latches) (state_length c row is) in
    let inputs_long = text_long row.inputs (length c.inputs) (inputs_length c row is) in
    let outputs_long = text_long row.outputs (length c.outputs) (shown_outputs c row is) in
    let next_long = text_long row.next (length c.latches) (next_length c row is) in
    let bad_long = text_long row.bad (length c.bad) (bad_length c row is) in
    let constraints_long = text_long row.constraints (length c.constraints) (constraints_length c row is) in
    let first : length c.latches + 1 ≡ 0 + length c.latches + 1 = omega arith in
    let at_inputs =
    ap (λ (j : ℕ). drop j line) first
    ∙ behind_text 0 (length c.latches) line (values_text row.state) _ state_long refl in
    let at_outputs =
    behind_text (length c.latches + 1) (length c.inputs) line (values_text row.inputs) _ inputs_long at_inputs in
    let at_next =
    behind_text (place c Output) (length c.outputs) line (values_text row.outputs) _ outputs_long at_outputs in
    let at_bad = behind_text (next_place c) (length c.latches) line (values_text row.next) _ next_long at_next in
    let at_constraints = behind_text (place c Bad) (length c.bad) line (values_text row.bad) _ bad_long at_bad in
    let last : values_text row.constraints ≡ values_text row.constraints ++ [] = sym (append-nil _) in
    record {
      long = simp length-append
          (omega (arith, state_long, inputs_long, outputs_long, next_long, bad_long, constraints_long));
      inputs = text_at (place c Input) (length c.inputs) line (values_text row.inputs) _ inputs_long at_inputs;
      state = text_at 0 (length c.latches) line (values_text row.state) _ state_long refl;
      outputs = text_at (place c Output) (length c.outputs) line (values_text row.outputs) _ outputs_long at_outputs;
      next = text_at (next_place c) (length c.latches) line (values_text row.next) _ next_long at_next;
      bad = text_at (place c Bad) (length c.bad) line (values_text row.bad) _ bad_long at_bad;
      constraints = text_at (place c Constraint) (length c.constraints) line (values_text row.constraints) []
          constraints_long (at_constraints ∙ last);
    }

pub row_shown : (c : Circuit) (row : Row) (run : ℕ) → HasColumns c row
    → IsShown (layout_of c) (frame run (row_line row))
row_shown c row run has = record {
  long = has.long;
  values = all_shown c (row_line row) kinds (
    subst AreValues (sym has.inputs) (values_are row.inputs),
    (
      subst AreValues (sym has.state) (values_are row.state),
      (
        subst AreValues (sym has.outputs) (values_are row.outputs),
        (
          subst AreValues (sym has.bad) (values_are row.bad),
          (subst AreValues (sym has.constraints) (values_are row.constraints), tt),
        ),
      ),
    ),
  );
}

-- what holds of each character holds of each that is taken or left, and of copies
module _ (P : ℕ → Type 0) where
  all_taken : (n : ℕ) (text : List ℕ) → AllByRecursion P text → AllByRecursion P (take n text)
  all_taken zero text are = tt
  all_taken (suc n) [] are = tt
  all_taken (suc n) (b ∷ bs) are = (are.0, all_taken n bs are.1)

  all_dropped : (n : ℕ) (text : List ℕ) → AllByRecursion P text → AllByRecursion P (drop n text)
  all_dropped zero text are = are
  all_dropped (suc n) [] are = tt
  all_dropped (suc n) (b ∷ bs) are = all_dropped n bs are.1

  all_repeated : (n b : ℕ) → P b → AllByRecursion P (replicate n b)
  all_repeated zero b is = tt
  all_repeated (suc n) b is = (is, all_repeated n b is)

-- each character is z, which is no value of a step
abbrev AreOff : List ℕ → Type 0
AreOff text = AllByRecursion (λ b. b ≡ 122) text

none_off : (vs : List Val) → AreOff (values_text vs) → length vs ≡ 0
none_off [] off = refl
none_off (Zero ∷ vs) off = absurd (omega (arith, off.0))
none_off (One ∷ vs) off = absurd (omega (arith, off.0))
none_off (X ∷ vs) off = absurd (omega (arith, off.0))

-- the line that closes a run
module _ (c : Circuit) (state : List Val) (as_long : length state ≡ length c.latches) where
  abbrev pub closing : List ℕ
  closing = closing_line (layout_of c) (values_text state)

  closing_values : AreValues closing
  closing_values =
      let rest = width c - length (values_text state) in
      joined _ (values_text state) (replicate rest 122) (values_are state) (all_repeated _ rest 122 refl)

  every_column : (ks : List Kind) → AllByRecursion (λ k. AreValues (column c k closing)) ks
  every_column [] = tt
  every_column (k ∷ ks) = (
    all_taken _ (count_of c k) (drop (place c k) closing) (all_dropped _ (place c k) closing closing_values),
    every_column ks,
  )

  pub closing_shown : (run : ℕ) → IsShown (layout_of c) (frame run closing)
  closing_shown run =
      let long = text_long state (length c.latches) as_long in
      record {
        long = simp (length-append, length-replicate) (omega (arith, long));
        values = all_shown c closing kinds (every_column kinds);
      }

  pub closing_state : column c Latch closing ≡ values_text state
  closing_state = text_at 0 (length c.latches) closing (values_text state) _ (text_long state _ as_long) refl

  -- after the state all is off
  column_off : (kind : Kind) (more : ℕ) → place c kind ≡ length c.latches + more → AreOff (column c kind closing)
  column_off kind more at =
      let long = text_long state (length c.latches) as_long in
      let rest = width c - length (values_text state) in
      let off = all_dropped (λ b. b ≡ 122) more (replicate rest 122) (all_repeated _ rest 122 refl) in
      let begins : place c kind ≡ length (values_text state) + more = omega (arith, at, long) in
      let is : drop (place c kind) closing ≡ drop more (replicate rest 122) =
      ap (λ (j : ℕ). drop j closing) begins ∙ drop-append-add (values_text state) (replicate rest 122) more in
      subst (λ (text : List ℕ). AreOff (take (count_of c kind) text)) (sym is)
      (all_taken _ (count_of c kind) (drop more (replicate rest 122)) off)

  -- what a step shows beside its state is not what the end of a run shows
  pub closing_is_no_step : (row : Row) → ShowsSteps c → IsRow c row
      → ShowSame (layout_of c).signals closing (row_line row) → ⊥
  closing_is_no_step row shows is same =
      let has = has_columns c row is in
      let columns = same_columns c closing (row_line row) kinds same in
      let inputs = none_off row.inputs (subst AreOff (columns.0 ∙ has.inputs) (column_off Input 1 refl)) in
      let outputs =
      none_off row.outputs
      (subst AreOff (columns.1.1.0 ∙ has.outputs)
      (column_off Output (1 + length c.inputs + 1) (omega arith))) in
      let bad_place = 1 + length c.inputs + 1 + length c.outputs + 1 + length c.latches + 1 in
      let bad =
      none_off row.bad (subst AreOff (columns.1.1.1.0 ∙ has.bad) (column_off Bad bad_place (omega arith))) in
      let constraints =
      none_off row.constraints
      (subst AreOff (columns.1.1.1.1.0 ∙ has.constraints)
      (column_off Constraint (bad_place + length c.bad + 1) (omega arith))) in
      omega (
        arith,
        shows,
        inputs,
        outputs,
        bad,
        constraints,
        inputs_length c row is,
        shown_outputs c row is,
        bad_length c row is,
        constraints_length c row is,
      )
