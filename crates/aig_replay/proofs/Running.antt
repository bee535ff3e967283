-- A run, step by step.
use Rattle.std.proofs.Common.{◌≡◌, ◌+◌, ◌<◌, ◌≤◌, ◌++◌, ◌∙◌, ℕ, suc, List, [], ◌∷◌, Bool, Option, None, Some, ap}
use Rattle.std.proofs.Common.{arith}
use Rattle.std.proofs.Common.{add-one, ap₂, drop, eq-eqb, get_or, if◌then◌else◌, length, length-append, map, refl}
use Rattle.std.proofs.Common.{subst, sym, take}
use Rattle.std.specs.List.{AllByRecursion, flat_map}
use Rattle.std.proofs.Math.Seq.{drop-append_seam, drop-cons, take-append_seam}
use Rattle.std.proofs.lemmas.List.{drop_all, get_or-map, length-map}
use Rattle.aig_circuit.specs.declared.circuit.Circuit.{Circuit}
use Rattle.aig_circuit.specs.declared.value.Val.{Val}
use Rattle.aig_circuit.specs.declared.value.Val.TheVariants.{Zero}
use Rattle.aig_circuit.specs.Wellformed.{IsWellFormed}
use Rattle.aig_meaning.specs.Meaning.{MeansTheSame, Row, literal_value}
use Rattle.aig_meaning.specs.Trace.{Follow}
use Rattle.aig_meaning.proofs.Traces.{inputs_length, one_row, state_length}
use Rattle.aig_step.specs.Stimulus.{values_of}
use Rattle.aig_step.specs.TraceText.{character_of, values_text}
use Rattle.aig_step.specs.Parts.Lines.{vector_in}
use Rattle.aig_step.specs.Parts.Stepping.{Stepping}
use Rattle.aig_step.proofs.LineValues.{says_values}
use Rattle.aig_witness.specs.Parts.Witnessing.{is_one}
use Rattle.aig_replay.specs.declared.search.Sight.{Sight}
use Rattle.aig_replay.specs.declared.search.Sight.TheVariants.{Bad, Broken, Good}
use Rattle.aig_replay.specs.Finding.{first_one, hit_by, hit_from, shown_by}
use Rattle.aig_replay.specs.Parts.{IsOn, Took}

-- the next place of a 1
pub first_at : (vs : List Val) (i : ℕ) (b : Bool) → i < length vs → is_one (get_or vs i Zero) ≡ b
    → first_one i (drop i vs) ≡ (if b then Some i else first_one (suc i) (drop (suc i) vs))
first_at vs i b low is =
    ap (first_one i) (drop-cons vs i Zero low)
    ∙ ap (λ (t : Bool). if t then Some i else first_one (suc i) (drop (suc i) vs)) is

pub first_none : (vs : List Val) (i : ℕ) → length vs ≤ i → first_one i (drop i vs) ≡ None
first_none vs i high = ap (first_one i) (drop_all i vs high)

-- what is seen at a place
pub seen_at : (a : ℕ → Val) (ls : List ℕ) (i l : ℕ) (v : Val) (r b : Bool) → i < length ls → l ≡ get_or ls i l
    → v ≡ literal_value a l → r ≡ is_one v → r ≡ b → is_one (get_or (map (literal_value a) ls) i Zero) ≡ b
seen_at a ls i l v r b low at value test is =
    ap is_one (get_or-map (literal_value a) ls i l Zero low ∙ ap (literal_value a) (sym at) ∙ sym value) ∙ sym test ∙ is

-- the bytes of the next step are there
pub room_case : (inputs count step : ℕ) (rest : List ℕ) (left : List (List Val)) → rest ≡ flat_map values_text left
    → AllByRecursion (λ (given : List Val). length given ≡ inputs) left → step + length left ≡ count → step < count
    → inputs ≤ length rest
room_case inputs count step rest [] bytes long many low = absurd (omega (arith, many, low))
room_case inputs count step rest (v ∷ vs) bytes long many low =
    omega (
      arith,
      ap length bytes,
      length-append (values_text v) (flat_map values_text vs),
      length-map v character_of,
      long.0,
    )

pub has_room : (c : Circuit) (state : List Val) (count step : ℕ) (rest : List ℕ) (all : List Row) → step < count
    → IsOn c state count step rest all → length c.inputs ≤ length rest
has_room c state count step rest all low on =
    room_case (length c.inputs) count step rest on.left on.bytes on.long on.many low

-- the next step, and what is left after it
pub record IsNext (c : Circuit) (state : List Val) (count step n : ℕ) (rest : List ℕ) (all : List Row) : Type 0 where
  pub given : List Val
  pub left : List (List Val)
  pub row : Row
  pub rows : List Row
  pub says : vector_in n (take n rest) ≡ Some given
  pub bytes : drop n rest ≡ flat_map values_text left
  pub long : AllByRecursion (λ (given : List Val). length given ≡ length c.inputs) left
  pub many : suc step + length left ≡ count
  pub follow : Follow c state (given ∷ left) (row ∷ rows)
  pub same : hit_from step (row ∷ rows) ≡ hit_from 0 all

next_case : (c : Circuit) (state : List Val) (count step n : ℕ) (rest : List ℕ) (all : List Row)
    (left : List (List Val)) (rows : List Row) → n ≡ length c.inputs → step < count → rest ≡ flat_map values_text left
    → AllByRecursion (λ (given : List Val). length given ≡ length c.inputs) left → step + length left ≡ count
    → Follow c state left rows → hit_from step rows ≡ hit_from 0 all → IsNext c state count step n rest all
next_case c state count step n rest all [] rows size low bytes long many follow same = absurd (omega (arith, many, low))
next_case c state count step n rest all (v ∷ vs) [] size low bytes long many follow same = absurd follow
next_case c state count step n rest all (v ∷ vs) (r ∷ rs) size low bytes long many follow same =
    let text = values_text v in
    let others = flat_map values_text vs in
    let fits : n ≡ length text = omega (arith, size, length-map v character_of, long.0) in
    let front : take n rest ≡ text =
    ap (λ (xs : List ℕ). take n xs) bytes ∙ ap (λ (k : ℕ). take k (text ++ others)) fits
    ∙ take-append_seam text others in
    let back : drop n rest ≡ others =
    ap (λ (xs : List ℕ). drop n xs) bytes ∙ ap (λ (k : ℕ). drop k (text ++ others)) fits
    ∙ drop-append_seam text others in
    let told : vector_in n text ≡ Some v =
    ap (λ (b : Bool). if b then values_of text else None) (eq-eqb (length text) n (sym fits)) ∙ says_values v in
    record {
      given = v;
      left = vs;
      row = r;
      rows = rs;
      says = ap (vector_in n) front ∙ told;
      bytes = back;
      long = long.1;
      many = omega (arith, many);
      follow = follow;
      same = same;
    }

pub next_step : (c : Circuit) (state : List Val) (count step n : ℕ) (rest : List ℕ) (all : List Row)
    → n ≡ length c.inputs → step < count → IsOn c state count step rest all → IsNext c state count step n rest all
next_step c state count step n rest all size low on =
    next_case c state count step n rest all on.left on.rows size low on.bytes on.long on.many on.follow on.same

-- a step that was taken is the next one
module _ (c : Circuit) (formed : IsWellFormed c) (before after : Stepping) (means : MeansTheSame c before.circuit)
    (count step n : ℕ) (rest : List ℕ) (all : List Row) (next : IsNext c before.state count step n rest all)
    (given : List Val) (shown : Sight) (said : vector_in n (take n rest) ≡ Some given)
    (took : Took before after given shown) where
  same_given : given ≡ next.given
  same_given = let says = next.says in cc

  same_row : took.row ≡ next.row
  same_row =
      let there = next.follow.2 in
      let one = one_row c next.row.state next.row.inputs formed (state_length c next.row there)
      (inputs_length c next.row there) in
      one.4 took.row (took.from ∙ sym next.follow.0) (took.inputs ∙ same_given ∙ sym next.follow.1)
      ((means.rows took.row).1 took.is_row)
      ∙ sym (one.4 next.row refl refl there)

  pub is_found : hit_by step shown (hit_from (suc step) next.rows) ≡ hit_from 0 all
  is_found =
      ap (λ (s : Sight). hit_by step s (hit_from (suc step) next.rows))
      (took.shows ∙ ap (λ (r : Row). shown_by r.constraints r.bad) same_row)
      ∙ next.same

  pub goes_on : shown ≡ Good → IsOn c after.state count (suc step) (drop n rest) all
  goes_on good = record {
    left = next.left;
    rows = next.rows;
    bytes = next.bytes;
    long = next.long;
    many = next.many;
    follow = subst (λ (s : List Val). Follow c s next.left next.rows)
        (sym (took.leads ∙ ap (λ (r : Row). r.next) same_row)) next.follow.3;
    same = ap (λ (s : Sight). hit_by step s (hit_from (suc step) next.rows)) (sym good) ∙ is_found;
  }

-- at the end nothing was found
end_case : (c : Circuit) (state : List Val) (left : List (List Val)) (rows : List Row) (step : ℕ) → length left ≡ 0
    → Follow c state left rows → hit_from step rows ≡ None
end_case c state [] [] step none follow = refl
end_case c state [] (r ∷ rs) step none follow = absurd follow
end_case c state (v ∷ vs) rows step none follow = absurd (omega (arith, none))

pub at_end : (c : Circuit) (state : List Val) (count step : ℕ) (rest : List ℕ) (all : List Row) → count ≤ step
    → IsOn c state count step rest all → None ≡ hit_from 0 all
at_end c state count step rest all high on =
    sym (end_case c state on.left on.rows step (omega (arith, high, on.many)) on.follow) ∙ on.same

-- A step of the search, where the run is on: the circuit is that of the beginning, and means the same as this one.
module _ (c : Circuit) (formed : IsWellFormed c) (start before : Stepping) (same : before.circuit ≡ start.circuit)
    (means : MeansTheSame c start.circuit) (count step n : ℕ) (size : n ≡ length before.circuit.inputs)
    (rest text : List ℕ) (front : text ≡ take n rest) (all : List Row) (low : step < count)
    (on : IsOn c before.state count step rest all) where
  means_too : MeansTheSame c before.circuit
  means_too = subst (λ (d : Circuit). MeansTheSame c d) (sym same) means

  next : IsNext c before.state count step n rest all
  next = next_step c before.state count step n rest all (size ∙ means_too.inputs) low on

  told : (o : Option (List Val)) → vector_in (length before.circuit.inputs) text ≡ o → vector_in n (take n rest) ≡ o
  told o is = ap₂ vector_in size (sym front) ∙ is

  -- the text says inputs
  pub says_some : vector_in (length before.circuit.inputs) text ≡ None → None ≡ hit_from 0 all
  says_some none = let says = next.says in let no = told None none in cc

  module _ (after : Stepping) (given : List Val) (shown : Sight)
      (said : vector_in (length before.circuit.inputs) text ≡ Some given) (took : Took before after given shown) where
    shows : hit_by step shown (hit_from (suc step) next.rows) ≡ hit_from 0 all
    shows =
        is_found c formed before after means_too count step n rest all next given shown (told (Some given) said) took

    pub broken_found : shown ≡ Broken → None ≡ hit_from 0 all
    broken_found is = ap (λ (s : Sight). hit_by step s (hit_from (suc step) next.rows)) (sym is) ∙ shows

    pub bad_found : (property : ℕ) → shown ≡ Bad property
        → Some (record { property = property; step = step }) ≡ hit_from 0 all
    bad_found property is = ap (λ (s : Sight). hit_by step s (hit_from (suc step) next.rows)) (sym is) ∙ shows

    pub still_on : (more : List ℕ) → more ≡ drop n rest → shown ≡ Good → IsOn c after.state count (step + 1) more all
    still_on more is good =
        let later : suc step ≡ step + 1 = sym (add-one step) in
        subst (λ (k : ℕ). IsOn c after.state count k more all) later
        (subst (λ (bytes : List ℕ). IsOn c after.state count (suc step) bytes all) (sym is)
        (goes_on c formed before after means_too count step n rest all next given shown (told (Some given) said) took
        good))
