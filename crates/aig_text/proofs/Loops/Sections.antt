-- Reading sections one after another, also where their lines come in pieces.
use Rattle.std.proofs.Common.{◌≡◌, ◌+◌, ◌<◌, ◌≤◌, ◌∷◌, ◌∙◌, ◌⊎◌, ◌-◌, ◌++◌, ℕ, zero, suc, List, [], drop, length}
use Rattle.std.proofs.Common.{get_or, Ok, Err, refl, sym, inl, inr, arith, add-one, map, append_assoc, append-nil, ap}
use Rattle.std.proofs.Common.{rules}
use Rattle.std.proofs.Common.{length-append}
use Rattle.std.specs.List.{sum}
use Rattle.std.specs.Prelude.{slice_index}
use Rattle.std.proofs.Math.Seq.{drop-cons, drop-nil}
use Rattle.std.proofs.lemmas.List.{map-append}
use Rattle.std.proofs.lemmas.List.Sums.{sum_by-append, sum_by-cons}
use Rattle.aig_circuit.specs.declared.circuit.Circuit.{Circuit}
use Rattle.aig_circuit.specs.declared.circuit.Latch.{Latch}
use Rattle.aig_circuit.proofs.Alike.{latch}
use Rattle.aig_lines.specs.Lines.{Ahead, Line, ahead, with_lines}
use Rattle.aig_fault.specs.declared.stopped.Stopped.{Stopped}
use Rattle.aig_fault.specs.declared.stopped.Stopped.TheVariants.{OutOfMemory}
use Rattle.aig_rows.specs.Reading.{◌>>=◌, Found, carried_on, fault_at, row_at, rows_at}
use Rattle.aig_fault.specs.declared.kind.Kind.TheVariants as kinds
use Rattle.aig_rows.specs.declared.row.Role.TheVariants as roles
use Rattle.aig_rows.specs.Rows.{Form, next_form, reset_of, size_of}
use Rattle.aig_rows.specs.declared.rows.Due.{Due}
use Rattle.aig_rows.specs.Begun.{carried_over}
use Rattle.aig_rows.proofs.Steps.{both_ok}
use Rattle.aig_rows.proofs.Loops.Rows.{sizes_small}
use Rattle.aig_rows.proofs.Loops.FirstRows.{after_rows, rows_go_on, row_wrong}
use Rattle.aig_text.specs.Sections.{Format, Header, Section, sections, Listed, in_ascii, latches_from, listed_in}
use Rattle.aig_text.specs.Sections.{variable_after}
use Rattle.aig_text.specs.Reading.{section_at, sections_at}
use Rattle.aig_text.specs.declared.section.Section.TheVariants.{Inputs, Latches, JusticeSizes, Gates}
use Rattle.aig_text.specs.declared.section.Format.TheVariants.{Ascii, Binary}
use Rattle.aig_text.specs.declared.pieces.Progress.{Progress}
use Rattle.aig_text.specs.Begun.{due_of, rows_due, section_from, HasRoom, HaveReadOf, sections_from, IsDone, IsMissing}

rest_none : {X : Type 0} (xs : List X) (i : ℕ) → length xs ≤ i → drop i xs ≡ []
rest_none [] i l = drop-nil i
rest_none (x ∷ xs) zero l = absurd (omega arith)
rest_none (x ∷ xs) (suc i) l = rest_none xs i (omega arith)

-- the section at this place
abbrev pub section_of : ℕ → Section
section_of n = get_or sections n Inputs

-- one more section
abbrev pub left_from : ℕ → List Section
left_from i = drop i sections

module _ (listed : Section → Listed) (h : Header) where
  abbrev then_sections : List Section → Circuit × Ahead → Found Circuit
  then_sections ss found = sections_at listed h ss found.0 found.1

  next_section : (i : ℕ) (d : Section) (c : Circuit) (at : Ahead) → i < length sections
      → sections_at listed h (left_from i) c at
      ≡ section_at (listed (get_or sections i d)) h c at >>= then_sections (left_from (i + 1))
  unfolding sections_at
  next_section i d c at l = rw (add-one, drop-cons sections i d l) refl

-- Sections whose lines come in pieces.

-- latches after latches
variable_behind : (v : ℕ) (a b : List Latch) → variable_after v (a ++ b) ≡ variable_after (variable_after v a) b
variable_behind v [] b = refl
variable_behind v (l ∷ ls) b = variable_behind (suc v) ls b

latches_joined : (v : ℕ) (a b : List (List ℕ))
    → latches_from v a ++ latches_from (variable_after v (latches_from v a)) b ≡ latches_from v (a ++ b)
unfolding latches_from
latches_joined v [] b = refl
latches_joined v (r ∷ a) b =
    ap (λ (ls : List Latch). latch v (get_or r 0 0) (reset_of (get_or r 1 0)) ∷ ls) (latches_joined (suc v) a b)

more_latches : (v : ℕ) (ls : List Latch) (a b : List (List ℕ))
    → (ls ++ latches_from (variable_after v ls) a)
    ++ latches_from (variable_after v (ls ++ latches_from (variable_after v ls) a)) b
    ≡ ls ++ latches_from (variable_after v ls) (a ++ b)
more_latches v ls a b =
    let w = variable_after v ls in
    ap (λ (k : ℕ). (ls ++ latches_from w a) ++ latches_from k b) (variable_behind v ls (latches_from w a))
    ∙ append_assoc ls (latches_from w a) (latches_from (variable_after w (latches_from w a)) b)
    ∙ ap (λ (ms : List Latch). ls ++ ms) (latches_joined w a b)

no_latches : (v : ℕ) → latches_from v [] ≡ []
unfolding latches_from
no_latches v = refl

pub as_many : (variable : ℕ) (rows : List (List ℕ)) → length (latches_from variable rows) ≡ length rows
unfolding latches_from
as_many variable [] = refl
as_many variable (ns ∷ rows) = ap suc (as_many (suc variable) rows)

-- so many rows are read
pub rows_count : (form : Form) (bound carried count : ℕ) (at after : Ahead) (rows : List (List ℕ))
    → rows_at form bound carried count at ≡ Ok (rows, after)
    → length rows ≡ count
unfolding rows_at
rows_count form bound carried zero at after rows h = search rules
rows_count form bound carried (suc count) at after rows h =
    let one = both_ok (row_at form bound carried at) _ (rows, after) h in
    let next : ℕ = carried_on form.first carried (slice_index one.0.0 0) in
    let others = both_ok (rows_at form bound next count one.0.1) _ (rows, after) one.2 in
    let p : (one.0.0 ∷ others.0.0, others.0.1) ≡ (rows, after) = let e = others.2 in cc in
    ap (λ (q : List (List ℕ) × Ahead). length q.0) (sym p)
    ∙ ap (λ c. suc c) (rows_count form bound next count one.0.1 others.0.1 others.0.0 others.1)

-- rows after rows, and none
with_more : (f : Format) (s : Section) (h : Header) (a b : List (List ℕ)) (c : Circuit)
    → (listed_in f s).with_rows h b ((listed_in f s).with_rows h a c) ≡ (listed_in f s).with_rows h (a ++ b) c
with_more Ascii Inputs h a b c = simp (append_assoc, map-append)
with_more Ascii s h a b c = simp (append_assoc, map-append)
with_more Binary Inputs h a b c = refl
with_more Binary Latches h a b c =
    ap (λ (ls : List Latch). record c { latches = ls }) (more_latches (1 + h.inputs) c.latches a b)
with_more Binary Gates h a b c = refl
with_more Binary s h a b c = simp (append_assoc, map-append)

with_none : (f : Format) (s : Section) (h : Header) (c : Circuit) → (listed_in f s).with_rows h [] c ≡ c
with_none Ascii Inputs h c = simp append-nil
with_none Ascii s h c = simp append-nil
with_none Binary Inputs h c = refl
with_none Binary Latches h c =
    ap (λ (ls : List Latch). record c { latches = c.latches ++ ls })
    (no_latches (variable_after (1 + h.inputs) c.latches))
    ∙ simp append-nil
with_none Binary Gates h c = refl
with_none Binary s h c = simp append-nil

module _ (f : Format) (h : Header) where
  -- a section goes on after its first rows
  abbrev placed : Section → Circuit → List (List ℕ) × Ahead → Found Circuit
  placed s c found = Ok ((listed_in f s).with_rows h found.0 c, found.1)

  placed_behind : (s : Section) (c d : Circuit) (rows : List (List ℕ)) (r : Found (List (List ℕ)))
      → d ≡ (listed_in f s).with_rows h rows c
      → ◌>>=◌ {B = Circuit × Ahead} (after_rows rows r) (placed s c) ≡ ◌>>=◌ {B = Circuit × Ahead} r (placed s d)
  placed_behind s c d rows (Ok x) is =
      ap (λ (e : Circuit). Ok (e, x.1))
      (sym (with_more f s h rows x.0 c) ∙ ap ((listed_in f s).with_rows h x.0) (sym is))
  placed_behind s c d rows (Err e) is = refl

  section_goes_on : (s : Section) (due left : Due) (c d : Circuit) (at now : Ahead) (more : List Line)
      → HaveReadOf (listed_in f s) h due left c d at now
      → section_from (listed_in f s) h due c (with_lines at more)
      ≡ section_from (listed_in f s) h left d (with_lines now more)
  section_goes_on s due left c d at now more part =
      ap (λ (r : Found (List (List ℕ))). ◌>>=◌ {B = Circuit × Ahead} r (placed s c))
      (rows_go_on (listed_in f s).form ((listed_in f s).bound h) due left at now part.rows more part.first)
      ∙ placed_behind s c d part.rows (rows_due (listed_in f s) h left (with_lines now more)) part.circuit

  abbrev progress : Circuit → ℕ → Due → Progress
  progress c n due = record { format = f; circuit = c; section = n; due = due }

  abbrev then_others : ℕ → Circuit × Ahead → Found Circuit
  then_others n found = sections_at (listed_in f) h (drop (n + 1) sections) found.0 found.1

  pub sections_go_on : (n : ℕ) (due left : Due) (c d : Circuit) (at now : Ahead) (more : List Line)
      → HaveReadOf (listed_in f (section_of n)) h due left c d at now
      → sections_from h (progress c n due) (with_lines at more)
      ≡ sections_from h (progress d n left) (with_lines now more)
  sections_go_on n due left c d at now more part =
      ap (λ (r : Found Circuit). ◌>>=◌ {B = Circuit × Ahead} r (then_others n))
      (section_goes_on (section_of n) due left c d at now more part)

  -- the next section, or the end of them
  nothing_due : (s : Section) (due : Due) (c : Circuit) (at : Ahead) → due.count ≡ 0
      → section_from (listed_in f s) h due c at ≡ Ok (c, at)
  unfolding rows_at
  nothing_due s due c at none = rw none (ap (λ (d : Circuit). Ok (d, at)) (with_none f s h c))

  then_next : (n : ℕ) (due : Due) (c : Circuit) (at : Ahead) → due.count ≡ 0
      → sections_from h (progress c n due) at ≡ sections_at (listed_in f) h (drop (n + 1) sections) c at
  then_next n due c at none =
      ap (λ (r : Found Circuit). ◌>>=◌ {B = Circuit × Ahead} r (then_others n))
      (nothing_due (section_of n) due c at none)

  pub next_begins : (n : ℕ) (due next_due : Due) (c : Circuit) (at : Ahead) → due.count ≡ 0
      → n + 1 < length sections → next_due ≡ due_of (listed_in f (section_of (n + 1))) h c
      → sections_from h (progress c n due) at ≡ sections_from h (progress c (n + 1) next_due) at
  next_begins n due next_due c at none l is =
      then_next n due c at none ∙ next_section (listed_in f) h (n + 1) Inputs c at l
      ∙ ap (λ (d : Due). sections_from h (progress c (n + 1) d) at) (sym is)

  pub all_begins : (c : Circuit) (due : Due) (at : Ahead) → due ≡ due_of (listed_in f Inputs) h c
      → sections_from h (progress c 0 due) at ≡ sections_at (listed_in f) h sections c at
  unfolding sections_at
  all_begins c due at is = rw is refl

  row_missing : (s : Section) (due : Due) (at : Ahead) → 0 < due.count → at.lines ≡ []
      → rows_due (listed_in f s) h due at ≡ Err (fault_at at.number kinds.Truncated)
  row_missing s due at some none =
      let one : due.count ≡ suc (due.count - 1) = omega (arith, some) in
      ap (λ (n : ℕ). rows_at (listed_in f s).form ((listed_in f s).bound h) due.carried n at) one
      ∙ row_wrong (listed_in f s).form ((listed_in f s).bound h) due.carried (due.count - 1) at
      (fault_at at.number kinds.Truncated) (rw none refl)

module _ (h : Header) where
  pub all_done : (p : Progress) (at : Ahead) → IsDone p → sections_from h p at ≡ Ok (p.circuit, at)
  unfolding sections_at
  all_done p at done =
      then_next p.format h p.section p.due p.circuit at done.1
      ∙ rw (rest_none sections (p.section + 1) (omega (arith, done.0))) refl

  -- a row that is wrong, or missing
  wrong_section : (p : Progress) (at : Ahead) (e : Stopped)
      → rows_due (listed_in p.format (section_of p.section)) h p.due at ≡ Err e → sections_from h p at ≡ Err e
  wrong_section p at e is = rw is refl

  missing_section : (p : Progress) (at : Ahead) → 0 < p.due.count → at.lines ≡ []
      → sections_from h p at ≡ Err (fault_at at.number kinds.Truncated)
  missing_section p at some none =
      wrong_section p at (fault_at at.number kinds.Truncated)
      (row_missing p.format h (section_of p.section) p.due at some none)

  -- the sizes of justice properties
  carried_sum : (carried : ℕ) (rows : List (List ℕ))
      → carried_over roles.Size carried rows ≡ carried + sum (map size_of rows)
  carried_sum carried [] = omega arith
  carried_sum carried (ns ∷ rows) =
      let n = get_or ns 0 0 in
      carried_sum (carried + n) rows ∙ omega (arith, sum_by-cons (λ (k : ℕ). k) n (map size_of rows))

  abbrev pub IsSummed : Section → Due → Circuit → Type 0
  IsSummed s due c = (sum c.justice.sizes ≤ h.limit) × (s ≡ JusticeSizes → due.carried ≡ sum c.justice.sizes)

  sizes_summed : (due left : Due) (c d : Circuit) (at now : Ahead)
      → HaveReadOf (in_ascii JusticeSizes) h due left c d at now → IsSummed JusticeSizes due c
      → IsSummed JusticeSizes left d
  sizes_summed due left c d at now part before =
      let was = before.1 refl in
      let all : sum d.justice.sizes ≡ sum c.justice.sizes + sum (map size_of part.rows) =
      ap (λ (e : Circuit). sum e.justice.sizes) part.circuit
      ∙ sum_by-append (λ (k : ℕ). k) c.justice.sizes (map size_of part.rows) in
      let low =
      sizes_small h.limit due.carried (due.count - left.count) at now part.rows (omega (arith, was, before.0))
      part.first.read in
      let over = part.first.carried ∙ carried_sum due.carried part.rows in
      (omega (arith, was, all, low), λ _. omega (arith, was, all, over))

  pub part_summed : (f : Format) (s : Section) (due left : Due) (c d : Circuit) (at now : Ahead)
      → HaveReadOf (listed_in f s) h due left c d at now → IsSummed s due c → IsSummed s left d
  part_summed Ascii JusticeSizes due left c d at now part before = sizes_summed due left c d at now part before
  part_summed Binary JusticeSizes due left c d at now part before = sizes_summed due left c d at now part before
  part_summed Ascii s due left c d at now part before = (rw part.circuit before.0, λ e. cc)
  part_summed Binary s due left c d at now part before = (rw part.circuit before.0, λ e. cc)

  pub begin_summed : (f : Format) (s : Section) (due : Due) (c : Circuit) → sum c.justice.sizes ≤ h.limit
      → due ≡ due_of (listed_in f s) h c → IsSummed s due c
  begin_summed Ascii s due c l is = (l, λ e. rw (is, e) refl)
  begin_summed Binary s due c l is = (l, λ e. rw (is, e) refl)

  -- the room for latches
  pub part_room : (f : Format) (s : Section) (due left : Due) (c d : Circuit) (at now : Ahead)
      → HaveReadOf (listed_in f s) h due left c d at now → HasRoom f s h due c → HasRoom f s h left d
  part_room Binary Inputs due left c d at now part room =
      (omega (arith, part.first.fewer, room.0), ap (λ (e : Circuit). e.latches) part.circuit ∙ room.1)
  part_room Binary Latches due left c d at now part room =
      let n = rows_count next_form h.max_var due.carried (due.count - left.count) at now part.rows part.first.read in
      let more = latches_from (variable_after (1 + h.inputs) c.latches) part.rows in
      let all : length d.latches ≡ length c.latches + length part.rows =
      ap (λ (e : Circuit). length e.latches) part.circuit ∙ length-append c.latches more
      ∙ ap (λ (k : ℕ). length c.latches + k) (as_many (variable_after (1 + h.inputs) c.latches) part.rows) in
      omega (arith, room, n, all, part.first.fewer)
  part_room Binary Gates due left c d at now part room = omega (arith, part.first.fewer, room)
  part_room f s due left c d at now part room = tt

  abbrev NextRoom : Format → ℕ → Type 0
  NextRoom f n =
      (due next_due : Due) (c : Circuit) → n + 1 < length sections → HasRoom f (section_of n) h due c
      → next_due ≡ due_of (listed_in f (section_of (n + 1))) h c
      → HasRoom f (section_of (n + 1)) h next_due c

  pub next_room : (f : Format) (n : ℕ) → NextRoom f n
  next_room Ascii n = λ due next_due c l room is. tt
  next_room Binary zero = λ due next_due c l room is.
      omega (arith, ap (λ (d : Due). d.count) is, ap length room.1)
  next_room Binary (suc zero) = λ due next_due c l room is. tt
  next_room Binary (suc (suc zero)) = λ due next_due c l room is. tt
  next_room Binary (suc (suc (suc zero))) = λ due next_due c l room is. tt
  next_room Binary (suc (suc (suc (suc zero)))) = λ due next_due c l room is. tt
  next_room Binary (suc (suc (suc (suc (suc zero))))) = λ due next_due c l room is. tt
  next_room Binary (suc (suc (suc (suc (suc (suc zero)))))) = λ due next_due c l room is. tt
  next_room Binary (suc (suc (suc (suc (suc (suc (suc zero))))))) = λ due next_due c l room is.
      ap (λ (d : Due). d.count) is
  next_room Binary (suc (suc (suc (suc (suc (suc (suc (suc n)))))))) = λ due next_due c l room is.
      absurd (omega (arith, l))

  pub first_room : (f : Format) (due : Due) (c : Circuit) → due ≡ due_of (listed_in f Inputs) h c → c.latches ≡ []
      → HasRoom f Inputs h due c
  first_room Ascii due c is none = tt
  first_room Binary due c is none = (ap (λ (d : Due). d.count) is, none)

  nothing_more : (at : Ahead) → with_lines at [] ≡ at
  nothing_more at = ap (ahead at.number) (append-nil at.lines)

  -- all sections
  pub alone_wrong : (p : Progress) (at : Ahead) (e : Stopped)
      → (e ≡ OutOfMemory) ⊎ ((more : List Line) → sections_from h p (with_lines at more) ≡ Err e)
      → (e ≡ OutOfMemory) ⊎ (sections_from h p at ≡ Err e)
  alone_wrong p at e (inl m) = inl m
  alone_wrong p at e (inr wrong) = inr (ap (sections_from h p) (sym (nothing_more at)) ∙ wrong [])

  abbrev GoesOn : Progress → Progress → Ahead → Ahead → Type 0
  GoesOn p q at now =
      (more : List Line) → sections_from h p (with_lines at more) ≡ sections_from h q (with_lines now more)

  alone : (p q : Progress) (at now : Ahead) → GoesOn p q at now → sections_from h p at ≡ sections_from h q now
  alone p q at now on =
      ap (sections_from h p) (sym (nothing_more at)) ∙ on [] ∙ ap (sections_from h q) (nothing_more now)

  pub alone_done : (p q : Progress) (at now : Ahead) → GoesOn p q at now → IsDone q
      → sections_from h p at ≡ Ok (q.circuit, now)
  alone_done p q at now on done = alone p q at now on ∙ all_done q now done

  pub alone_short : (p q : Progress) (at now : Ahead) → GoesOn p q at now → IsDone q ⊎ IsMissing q now → ¬ IsDone q
      → sections_from h p at ≡ Err (fault_at now.number kinds.Truncated)
  alone_short p q at now on (inl done) un = absurd (un done)
  alone_short p q at now on (inr missing) un = alone p q at now on ∙ missing_section q now missing.0 missing.1
