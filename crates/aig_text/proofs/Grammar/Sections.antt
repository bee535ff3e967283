-- Sections that are read hold the rows of the circuit, and the other way round.
use Rattle.std.proofs.lemmas.Grind.{common_steps}
use Rattle.std.proofs.Common.{◌≡◌, ◌≤◌, ◌∷◌, ◌++◌, ◌∙◌, rules, ℕ, List, [], map, length, None, Ok, refl, ap, sym, arith}
use Rattle.std.proofs.Common.{append_assoc, subst}
use Rattle.std.specs.List.{AllByRecursion, AllZip, sum}
use Rattle.std.proofs.lemmas.List.{length-map}
use Rattle.std.proofs.lemmas.List.Elements.{All-from_recursion, recursion_from_All}
use Rattle.aig_circuit.specs.declared.circuit.Circuit.{Circuit}
use Rattle.aig_circuit.specs.Wellformed.{IsWithinLimits}
use Rattle.aig_circuit.specs.Form.{HasEntriesInRange, IsInForm}
use Rattle.aig_circuit.proofs.Checking.{by_parts, in_range}
use Rattle.aig_fault.specs.declared.stopped.Stopped.{Stopped}
use Rattle.aig_text.specs.declared.section.Section.TheVariants.{Inputs, Latches, JusticeSizes, Gates}
use Rattle.aig_lines.specs.Lines.{Line, Ahead, ahead}
use Rattle.aig_text.specs.Sections.{Header, Section, sections, Listed, in_ascii, rows_in, rows_of, header_row}
use Rattle.aig_rows.specs.Rows.{Form, row, input_row, latch_row, literal_row, size_row, gate_row, literal_in, size_of}
use Rattle.aig_rows.specs.Rows.{input_form, latch_form, literal_form, size_form, gate_form, IsRowLine}
use Rattle.aig_text.specs.Reading.{section_at, sections_at, header_of_row, empty_circuit}
use Rattle.aig_rows.specs.Reading.{Found, rows_at}
use Rattle.aig_rows.proofs.Steps.{both_ok, ok_same}
use Rattle.aig_rows.proofs.Grammar.Entries.{AreGoodRows, IsEntry, HasGoodRow, IsInputUpTo, IsLiteralUpTo, IsLatchUpTo}
use Rattle.aig_rows.proofs.Grammar.Entries.{IsGateUpTo, input_entry, latch_entry, literal_entry, size_entry, gate_entry}
use Rattle.aig_rows.proofs.Grammar.Entries.{good_input, good_latch, good_literal, good_gate, good_sizes, sizes_within}
use Rattle.aig_rows.proofs.Grammar.Entries.{all_again, entries_back, all_good, zips_joined}
use Rattle.aig_rows.proofs.Grammar.Rows.{IsSound, AreRows, rows_meant, rows_are_found}

-- rows that a section may have, the first one beside what is carried at the start, and as many as it has
pub record FitRows (form : Form) (bound start count : ℕ) (rows : List (List ℕ)) : Type 0 where
  pub good : AreGoodRows form bound start rows
  pub counted : length rows ≡ count

-- two lists that go together, split where one is joined of two
pub record ZipsTwo {A B : Type 0} (R : A → B → Type 0) (xs : List A) (ys zs : List B) : Type 0 where
  pub first : List A
  pub second : List A
  pub are : xs ≡ first ++ second
  pub first_zips : AllZip R first ys
  pub second_zips : AllZip R second zs

pub zips_split : {A B : Type 0} (R : A → B → Type 0) (xs : List A) (ys zs : List B) → AllZip R xs (ys ++ zs)
    → ZipsTwo R xs ys zs
zips_split R xs [] zs h = record { first = []; second = xs; are = refl; first_zips = tt; second_zips = h }
zips_split R [] (y ∷ ys) zs h = absurd h
zips_split R (x ∷ xs) (y ∷ ys) zs h =
    let t = zips_split R xs ys zs h.1 in
    record {
      first = x ∷ t.first;
      second = t.second;
      are = ap (λ (l : List _). x ∷ l) t.are;
      first_zips =
          (h.0, t.first_zips);
      second_zips = t.second_zips;
    }

-- the rows that a circuit has in each section
abbrev pub rows_by : (Section → Listed) → Circuit → Section → List (List ℕ)
rows_by listed c s = (listed s).rows c

-- sections as a file of some format lists them, under a header
module _ (listed : Section → Listed) (h : Header) where
  -- the circuit with these rows of sections, and whether they may stand there
  abbrev pub with_all : (Section → List (List ℕ)) → List Section → Circuit → Circuit
  with_all rows [] c = c
  with_all rows (s ∷ ss) c = with_all rows ss ((listed s).with_rows h (rows s) c)

  abbrev pub FitsIn : Section → List (List ℕ) → Circuit → Type 0
  FitsIn s rows c = FitRows (listed s).form ((listed s).bound h) ((listed s).start h c) ((listed s).count h c) rows

  abbrev pub AllFit : (Section → List (List ℕ)) → List Section → Circuit → Type 0
  AllFit rows [] c = Unit {0}
  AllFit rows (s ∷ ss) c = FitsIn s (rows s) c × AllFit rows ss ((listed s).with_rows h (rows s) c)

  -- lines that hold the rows of a circuit in these sections, and what they make of another one
  pub record AreSections (ss : List Section) (c d : Circuit) (ls rest : List Line) : Type 0 where
    pub front : List Line
    pub lines : ls ≡ front ++ rest
    pub spelled : AllZip IsRowLine front (rows_in listed ss d)
    pub fit : AllFit (rows_by listed d) ss c
    pub circuit : with_all (rows_by listed d) ss c ≡ d

  -- The laws of sections. One that had no rows has those that it is given, and no two have rows of each other.
  abbrev pub TellsRows : Section → Type 0
  TellsRows s = (rows : List (List ℕ)) (c : Circuit) → (listed s).rows c ≡ [] → FitsIn s rows c
      → (listed s).rows ((listed s).with_rows h rows c) ≡ rows

  abbrev pub AreApart : Section → Section → Type 0
  AreApart s t = (rows : List (List ℕ)) (c : Circuit)
      → ((listed t).rows ((listed s).with_rows h rows c) ≡ (listed t).rows c)
      × ((listed s).rows ((listed t).with_rows h rows c) ≡ (listed s).rows c)

  abbrev pub AllApart : List Section → Type 0
  AllApart [] = Unit {0}
  AllApart (s ∷ ss) = AllByRecursion (AreApart s) ss × AllApart ss

  -- none of these sections has rows
  abbrev pub AllEmpty : Circuit → List Section → Type 0
  AllEmpty c ss = AllByRecursion (λ s. rows_by listed c s ≡ []) ss

  kept : (s : Section) (rows : Section → List (List ℕ)) (ss : List Section) (c : Circuit)
      → AllByRecursion (AreApart s) ss → rows_by listed (with_all rows ss c) s ≡ rows_by listed c s
  kept s rows [] c apart = refl
  kept s rows (t ∷ ss) c apart =
      kept s rows ss ((listed t).with_rows h (rows t) c) apart.1 ∙ (apart.0 (rows t) c).1

  still_empty : (s : Section) (rows : List (List ℕ)) (c : Circuit) (ss : List Section)
      → AllByRecursion (AreApart s) ss → AllEmpty c ss → AllEmpty ((listed s).with_rows h rows c) ss
  still_empty s rows c [] apart empty = tt
  still_empty s rows c (t ∷ ss) apart empty =
      ((apart.0 rows c).0 ∙ empty.0, still_empty s rows c ss apart.1 empty.1)

  -- the lines of one section
  abbrev pub AreRowsOf : Section → Circuit → List (List ℕ) → List Line → List Line → Type 0
  AreRowsOf s c rows ls rest =
      AreRows (listed s).form ((listed s).bound h) ((listed s).start h c) ((listed s).count h c) ls rows rest

  -- one section at the front
  one_section : (s : Section) (ss : List Section) (c d : Circuit) (ls between rest : List Line)
      → AreRowsOf s c (rows_by listed d s) ls between
      → AreSections ss ((listed s).with_rows h (rows_by listed d s) c) d between rest
      → AreSections (s ∷ ss) c d ls rest
  one_section s ss c d ls between rest a o = record {
    front = a.front ++ o.front;
    lines = a.lines ∙ ap (λ (ks : List Line). a.front ++ ks) o.lines ∙ sym (append_assoc a.front o.front rest);
    spelled = search (rules, zips_joined);
    fit = (record { good = a.good; counted = a.counted }, o.fit);
    circuit = o.circuit;
  }

  abbrev rows_of_section : Section → Circuit → Ahead → Found (List (List ℕ))
  rows_of_section s c at =
      rows_at (listed s).form ((listed s).bound h) ((listed s).start h c) ((listed s).count h c) at

  abbrev after_rows : Section → Circuit → List (List ℕ) × Ahead → Found Circuit
  after_rows s c found = Ok ((listed s).with_rows h found.0 c, found.1)

  abbrev then_sections : List Section → Circuit × Ahead → Found Circuit
  then_sections ss found = sections_at listed h ss found.0 found.1

  pub sections_found : ((s : Section) → IsSound (listed s).form) → ((s : Section) → TellsRows s)
      → (ss : List Section) (c : Circuit) (at : Ahead) (p : Circuit × Ahead) → AllApart ss → AllEmpty c ss
      → sections_at listed h ss c at ≡ Ok p → AreSections ss c p.0 at.lines p.1.lines
  unfolding sections_at
  sections_found sound tells [] c at p apart empty is = search (rules, ok_same)
  sections_found sound tells (s ∷ ss) c at p apart empty is =
      let f = both_ok (section_at (listed s) h c at) (then_sections ss) p is in
      let r = both_ok (rows_of_section s c at) (after_rows s c) f.0 f.1 in
      let e : ((listed s).with_rows h r.0.0 c, r.0.1) ≡ f.0 = ok_same {E = Stopped} _ _ r.2 in
      let rows =
      rows_meant (listed s).form ((listed s).bound h) ((listed s).start h c) ((listed s).count h c) at r.0 (sound s)
      r.1 in
      let next : Circuit = (listed s).with_rows h r.0.0 c in
      let others : AreSections ss next p.0 r.0.1.lines p.1.lines =
      sections_found sound tells ss next r.0.1 p apart.1 (still_empty s r.0.0 c ss apart.0 empty.1) (rw (← e) at f.2) in
      let own : rows_by listed p.0 s ≡ r.0.0 =
      ap (λ (d : Circuit). rows_by listed d s) (sym others.circuit) ∙ kept s (rows_by listed p.0) ss next apart.0
      ∙ tells s r.0.0 c empty.0 (record { good = rows.good; counted = rows.counted }) in
      let both =
      subst (λ (rs : List (List ℕ)). AreRowsOf s c rs at.lines r.0.1.lines
      × AreSections ss ((listed s).with_rows h rs c) p.0 r.0.1.lines p.1.lines) (sym own) (rows, others) in
      one_section s ss c p.0 at.lines r.0.1.lines p.1.lines both.0 both.1

  -- and lines that hold such rows are read as them
  abbrev ReadsSections : (Section → List (List ℕ)) → List Section → Circuit → ℕ → List Line → List Line → Type 0
  ReadsSections rows ss c n ls rest =
      (k : ℕ) × (sections_at listed h ss c (ahead n ls) ≡ Ok (with_all rows ss c, ahead k rest))

  pub sections_are_found : (d : Circuit) (ss : List Section) (c : Circuit) (n : ℕ) (front rest : List Line)
      → AllZip IsRowLine front (rows_in listed ss d) → AllFit (rows_by listed d) ss c
      → ReadsSections (rows_by listed d) ss c n (front ++ rest) rest
  unfolding sections_at
  sections_are_found d [] c n [] rest z fit = (n, refl)
  sections_are_found d [] c n (l ∷ ls) rest z fit = absurd z
  sections_are_found d (s ∷ ss) c n front rest z fit =
      let rows = rows_by listed d s in
      let two = zips_split IsRowLine front (map (row (listed s).form) rows) (rows_in listed ss d) z in
      let r = rows_are_found (listed s).form ((listed s).bound h) ((listed s).start h c) n two.first
      (two.second ++ rest) rows two.first_zips fit.0.good in
      let o = sections_are_found d ss ((listed s).with_rows h rows c) r.0 two.second rest two.second_zips fit.1 in
      let lines = ap (λ (ks : List Line). ks ++ rest) two.are ∙ append_assoc two.first two.second rest in
      (o.0, rw (lines, ← fit.0.counted, r.1, o.1) refl)

-- Sections of an ASCII file.
sound : (s : Section) → IsSound (in_ascii s).form
sound Inputs = omega arith
sound s = omega arith

-- entries that good rows tell have those rows
again_by : {X : Type 0} (form : Form) (row : X → List ℕ) (found : List ℕ → X) (IsUpTo : ℕ → X → Type 0)
    → IsEntry form row found IsUpTo → (m start : ℕ) (xs : List X) (rows : List (List ℕ)) → map row xs ≡ []
    → AreGoodRows form m start rows → map row (xs ++ map found rows) ≡ rows
again_by form row found IsUpTo entry m start [] rows none good =
    (entries_back form row found IsUpTo entry m start rows good).0
again_by form row found IsUpTo entry m start (x ∷ xs) rows none good = cc

pub tells_rows : (h : Header) (s : Section) → TellsRows in_ascii h s
tells_rows h Inputs rows c none fit = search (rules, again_by, input_entry)
tells_rows h Latches rows c none fit = search (rules, again_by, latch_entry)
tells_rows h JusticeSizes rows c none fit = search (rules, again_by, size_entry)
tells_rows h Gates rows c none fit = search (rules, again_by, gate_entry)
tells_rows h s rows c none fit = search (rules, again_by, literal_entry)

apart : (h : Header) → AllApart in_ascii h sections
apart h = search rules

-- lines that hold the rows of all sections of an ASCII file
abbrev pub AreAllSections : Header → Circuit → List Line → List Line → Type 0
AreAllSections h c ls rest = AreSections in_ascii h sections (empty_circuit h.max_var) c ls rest

pub all_found : (h : Header) (at : Ahead) (p : Circuit × Ahead)
    → sections_at in_ascii h sections (empty_circuit h.max_var) at ≡ Ok p → AreAllSections h p.0 at.lines p.1.lines
all_found h at p is =
    sections_found in_ascii h sound (tells_rows h) sections (empty_circuit h.max_var) at p (apart h) (search rules) is

-- the numbers of a header
abbrev pub row_of_header : Header → List ℕ
row_of_header h =
    h.max_var ∷ h.inputs ∷ h.latches ∷ h.outputs ∷ h.gates ∷ h.bad ∷ h.constraints ∷ h.justice ∷ h.fairness ∷ []

-- what is made of good rows
module _ (h : Header) (d : Circuit)
    (fit : AllFit in_ascii h (rows_by in_ascii d) sections (empty_circuit h.max_var)) where
  abbrev read : Circuit
  read = with_all in_ascii h (rows_by in_ascii d) sections (empty_circuit h.max_var)

  -- its numbers are those of the header
  pub same_counts : header_row read ≡ row_of_header h
  same_counts = grind (arith, common_steps)

  -- the sizes are those of the literals, and their sum is within the limit
  pub same_sizes : sum read.justice.sizes ≡ length read.justice.literals
  same_sizes = grind (arith, common_steps)

  pub small_sizes : sum read.justice.sizes ≤ h.limit
  small_sizes = search (rules, sizes_within)

  within : {X : Type 0} (form : Form) (row : X → List ℕ) (found : List ℕ → X) (IsUpTo : ℕ → X → Type 0)
      → IsEntry form row found IsUpTo → (count : ℕ) (rows : List (List ℕ)) → FitRows form h.max_var 0 count rows
      → AllByRecursion (IsUpTo h.max_var) (map found rows)
  within form row found IsUpTo entry count rows fits =
      (entries_back form row found IsUpTo entry h.max_var 0 rows fits.good).1

  -- what they define and use is in range
  pub entries_in_range : HasEntriesInRange read
  entries_in_range = record {
    inputs = search (rules, All-from_recursion, within, input_entry);
    latches = search (rules, All-from_recursion, within, latch_entry);
    literals = search (rules, within, literal_entry);
    gates = search (rules, All-from_recursion, within, gate_entry);
  }

-- the same of the circuit that was read
module _ (h : Header) (c : Circuit) (ls rest : List Line) (a : AreAllSections h c ls rest) where
  pub counts_read : header_row c ≡ row_of_header h
  counts_read = rw (← a.circuit) (same_counts h c a.fit)

  pub sizes_read : sum c.justice.sizes ≡ length c.justice.literals
  sizes_read = rw (← a.circuit) (same_sizes h c a.fit)

  pub sizes_limited : sum c.justice.sizes ≤ h.limit
  sizes_limited = rw (← a.circuit) (small_sizes h c a.fit)

  -- what is made of good rows is in form
  pub in_form : IsWithinLimits c → IsInForm c
  in_form limits = search (rules, by_parts, entries_in_range)

-- a circuit without its tail
abbrev pub bare : Circuit → Circuit
bare c = record c { symbols = []; comment = None }

-- the entries of a circuit in form may stand in a file
module _ (c : Circuit) (form : IsInForm c) where
  pub inputs_up_to : AllByRecursion (IsInputUpTo c.max_var) c.inputs
  inputs_up_to = recursion_from_All _ c.inputs (in_range c form).inputs

  pub latches_up_to : AllByRecursion (IsLatchUpTo c.max_var) c.latches
  latches_up_to = recursion_from_All _ c.latches (in_range c form).latches

  pub gates_up_to : AllByRecursion (IsGateUpTo c.max_var) c.gates
  gates_up_to = recursion_from_All _ c.gates (in_range c form).gates

-- the rows of entries fit, where there are as many as the header tells
pub entries_fit : {X : Type 0} (form : Form) (row : X → List ℕ) (IsUpTo : ℕ → X → Type 0) → HasGoodRow form row IsUpTo
    → (m start : ℕ) (xs : List X) → AllByRecursion (IsUpTo m) xs → FitRows form m start (length xs) (map row xs)
entries_fit form row IsUpTo good m start xs h =
    record { good = all_good form row IsUpTo good m start xs h; counted = length-map xs row }

pub literals_fit : (m : ℕ) (ns : List ℕ) → AllByRecursion (IsLiteralUpTo m) ns
    → FitRows literal_form m 0 (length ns) (map literal_row ns)
literals_fit m ns h = entries_fit literal_form literal_row IsLiteralUpTo good_literal m 0 ns h

pub sizes_fit : (m : ℕ) (sizes : List ℕ) → sum sizes ≤ m
    → FitRows size_form m 0 (length sizes) (map size_row sizes)
sizes_fit m sizes h = record { good = good_sizes m 0 sizes (omega arith); counted = length-map sizes size_row }

-- literals and sizes are told by their rows
pub literals_again : (ns : List ℕ) → map literal_in (map literal_row ns) ≡ ns
literals_again [] = refl
literals_again (n ∷ ns) = ap (λ (ms : List ℕ). n ∷ ms) (literals_again ns)

-- as many literals of justice properties as the sizes tell
pub justice_fit : (m : ℕ) (sizes ns : List ℕ) → sum sizes ≡ length ns → AllByRecursion (IsLiteralUpTo m) ns
    → FitRows literal_form m 0 (sum (map size_of (map size_row sizes))) (map literal_row ns)
justice_fit m sizes ns same h = search (rules, literals_again, sizes, literals_fit)

-- lines that hold the rows of a circuit are read as them
module _ (limit : ℕ) (c : Circuit) (form : IsInForm c) (small : sum c.justice.sizes ≤ limit) where
  abbrev own_header : Header
  own_header = header_of_row limit (header_row c)

  pub own_rows : AllFit in_ascii own_header (rows_by in_ascii c) sections (empty_circuit c.max_var)
  own_rows =
      let m : ℕ = c.max_var in
      let inputs = entries_fit input_form input_row IsInputUpTo good_input m 0 c.inputs (inputs_up_to c form) in
      let latches = entries_fit latch_form latch_row IsLatchUpTo good_latch m 0 c.latches (latches_up_to c form) in
      let literals = (in_range c form).literals in
      let outputs = literals_fit m c.outputs literals.0 in
      let bad = literals_fit m c.bad literals.1.0 in
      let constraints = literals_fit m c.constraints literals.1.1.0 in
      let sizes = sizes_fit limit c.justice.sizes small in
      let justice = justice_fit m c.justice.sizes c.justice.literals form.limits.sizes literals.1.1.1.0 in
      let fairness = literals_fit m c.fairness literals.1.1.1.1.0 in
      let gates = entries_fit gate_form gate_row IsGateUpTo good_gate m 0 c.gates (gates_up_to c form) in
      (inputs, (latches, (outputs, (bad, (constraints, (sizes, (justice, (fairness, (gates, tt)))))))))

  -- the rows of the circuit tell the circuit, but for its tail
  rows_tell : with_all in_ascii own_header (rows_by in_ascii c) sections (empty_circuit c.max_var) ≡ bare c
  rows_tell = search (rules, all_again, inputs_up_to, latches_up_to, gates_up_to, literals_again)

  pub sections_are_read : (n : ℕ) (front rest : List Line) → AllZip IsRowLine front (rows_of c)
      → (k : ℕ)
      × (sections_at in_ascii own_header sections (empty_circuit c.max_var) (ahead n (front ++ rest)) ≡ Ok
      (bare c, ahead k rest))
  sections_are_read n front rest z =
      let t =
      sections_are_found in_ascii own_header c sections (empty_circuit c.max_var) n front rest z own_rows in
      (t.0, t.1 ∙ ap (λ (d : Circuit). Ok (d, ahead t.0 rest)) rows_tell)
