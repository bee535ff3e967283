-- Reading a text and its tail one line after another, also where its bytes come in pieces.
use Rattle.std.proofs.Common.{◌≡◌, ◌+◌, ◌∷◌, ◌∙◌, ◌⊎◌, ◌-◌, ◌++◌, ◌<◌, ◌≤◌, ℕ, List, [], length, true, false, Result}
use Rattle.std.proofs.Common.{Ok, Err, refl, ap, sym, inl, inr, take, arith, drop, append-nil, ◌≢◌}
use Rattle.std.specs.Prelude.{OnErr}
use Rattle.std.proofs.lemmas.List.{length-append, take-append-le, take_all}
use Rattle.std.proofs.Math.Seq.{drop-append_seam}
use Rattle.aig_circuit.specs.declared.circuit.Circuit.{Circuit}
use Rattle.aig_circuit.specs.declared.circuit.Symbol.{Symbol}
use Rattle.aig_core.specs.declared.names.Names.{Names}
use Rattle.aig_core.specs.Names.{with_name, nothing_named}
use Rattle.aig_lines.specs.Lines.{Line, bytes_of, line_bytes, lines_of, Ahead, ahead, IsBehind, AreEnded, with_lines}
use Rattle.aig_lines.specs.Lines.{HasNoLineFeed}
use Rattle.aig_lines.proofs.Cutting.{pieces, some_lines}
use Rattle.aig_lines.proofs.Taken.{IsTaken, left_fits, lines_cut, taken}
use Rattle.aig_fault.specs.declared.stopped.Stopped.{Stopped}
use Rattle.aig_fault.specs.declared.stopped.Stopped.TheVariants.{OutOfMemory}
use Rattle.aig_rows.specs.Reading.{◌>>=◌, at_line, Found}
use Rattle.aig_rows.specs.Outcomes.{GivesOrFails}
use Rattle.aig_fault.specs.declared.kind.Kind.TheVariants as kinds
use Rattle.aig_rows.proofs.Loops.FirstRows.{found_joined, refused_joined, found_behind}
use Rattle.aig_text.specs.Sections.{Format, Header, ascii_word, sections, in_ascii}
use Rattle.aig_text.specs.Scanning.{symbol_at, is_comment_line}
use Rattle.aig_text.specs.Reading.{checked_symbol, with_comment, with_symbol, tail_at, header_at, sections_at}
use Rattle.aig_text.specs.Reading.{empty_circuit, circuit_at, header_of}
use Rattle.aig_text.specs.declared.pieces.LineReader.{LineReader}
use Rattle.aig_text.specs.declared.pieces.Progress.{Progress}
use Rattle.aig_text.specs.Begun.{IsDone, IsMissing, ReadsOn, numbered_at, numbered_of, numbered_then, sections_from}
use Rattle.aig_text.specs.Begun.{then_tail, with_header}
use Rattle.aig_text.specs.declared.section.Format.TheVariants.{Ascii}
use Rattle.aig_text.proofs.Loops.Sections.{all_done}

module _ (h : Header) (before : Names) (c : Circuit) (n : ℕ) where
  pub no_tail : (bytes : List ℕ) → lines_of bytes ≡ [] → tail_at h before c n (lines_of bytes) ≡ Ok c
  unfolding tail_at
  no_tail bytes none = rw none refl

  pub comment_tail : (bytes rest : List ℕ) (l : Line) → lines_of bytes ≡ l ∷ lines_of rest → is_comment_line l ≡ true
      → tail_at h before c n (lines_of bytes) ≡ Ok (with_comment c rest)
  unfolding tail_at
  comment_tail bytes rest l are is = rw (are, is) (ap (λ (t : List ℕ). Ok (with_comment c t)) (pieces rest).joined)

  pub wrong_symbol : (bytes rest : List ℕ) (l : Line) (e : Stopped) → lines_of bytes ≡ l ∷ lines_of rest
      → is_comment_line l ≡ false
      → (e ≡ OutOfMemory) ⊎ (at_line n (checked_symbol h before (symbol_at l.text)) ≡ Err e)
      → (e ≡ OutOfMemory) ⊎ (tail_at h before c n (lines_of bytes) ≡ Err e)
  unfolding tail_at
  wrong_symbol bytes rest l e are other (inl m) = inl m
  wrong_symbol bytes rest l e are other (inr r) = inr (rw (are, other, r) refl)

  pub one_symbol : (bytes rest : List ℕ) (l : Line) (s : Symbol) → lines_of bytes ≡ l ∷ lines_of rest
      → is_comment_line l ≡ false → at_line n (checked_symbol h before (symbol_at l.text)) ≡ Ok s
      → tail_at h (with_name before s.kind s.position) (with_symbol c s) (n + 1) (lines_of rest)
      ≡ tail_at h before c n (lines_of bytes)
  unfolding tail_at
  one_symbol bytes rest l s are other r = sym (rw (are, other, r) refl)

-- what stands before the rest of a text, where that begins at its second line, is the first line
front_of : (xs ys : List ℕ) → take (length (xs ++ ys) - length ys) (xs ++ ys) ≡ xs
front_of xs ys =
    ap (λ (n : ℕ). take n (xs ++ ys)) (let all = length-append xs ys in omega (arith, all))
    ∙ take-append-le (length xs) xs ys (omega arith) ∙ take_all (length xs) xs (omega arith)

pub line_then : (bytes after : List ℕ) (l : Line) → lines_of bytes ≡ l ∷ lines_of after
    → bytes ≡ line_bytes l ++ after
line_then bytes after l are =
    sym (pieces bytes).joined ∙ ap bytes_of are ∙ ap (λ (t : List ℕ). line_bytes l ++ t) (pieces after).joined

pub first_bytes : (bytes after : List ℕ) (l : Line) → lines_of bytes ≡ l ∷ lines_of after
    → take (length bytes - length after) bytes ≡ line_bytes l
first_bytes bytes after l are =
    ap (λ (t : List ℕ). take (length t - length after) t) (line_then bytes after l are)
    ∙ front_of (line_bytes l) after

-- The steps of reading a text, one after another.
pub no_header : (limit : ℕ) (ls : List Line) (e : Stopped) → header_at ascii_word limit (ahead 1 ls) ≡ Err e
    → circuit_at limit ls ≡ Err e
unfolding circuit_at
no_header limit ls e h = rw h refl

pub no_sections : (limit : ℕ) (ls : List Line) (at : Ahead) (h : Header) (e : Stopped)
    → header_at ascii_word limit (ahead 1 ls) ≡ Ok (h, at)
    → (e ≡ OutOfMemory) ⊎ (sections_at in_ascii h sections (empty_circuit h.max_var) at ≡ Err e)
    → (e ≡ OutOfMemory) ⊎ (circuit_at limit ls ≡ Err e)
unfolding circuit_at
no_sections limit ls at h e is (inl m) = inl m
no_sections limit ls at h e is (inr r) = inr (rw (is, r) refl)

pub tail_follows : (limit : ℕ) (ls : List Line) (at after : Ahead) (h : Header) (c : Circuit)
    → header_at ascii_word limit (ahead 1 ls) ≡ Ok (h, at)
    → sections_at in_ascii h sections (empty_circuit h.max_var) at ≡ Ok (c, after)
    → circuit_at limit ls ≡ tail_at h nothing_named c after.number after.lines
unfolding circuit_at
tail_follows limit ls at after h c is s = rw (is, s) refl

-- What is left of a file whose bytes come in pieces tells what all of it told.
pub header_is : (r : LineReader) (h : Header) (at : Ahead) → r.header ≡ Ok h
    → numbered_at r at ≡ with_header h (sections_from h r.progress at)
header_is r h at is = rw is refl

module _ (h : Header) where
  -- the whole lines of bytes were read
  reads_on : (p q : Progress) (bytes : List ℕ) (used number now : ℕ) (lines left : List Line) (more : List ℕ)
      → IsTaken bytes used number now lines left
      → ((others : List Line) → sections_from h p (ahead number (lines ++ others))
      ≡ sections_from h q (ahead now (left ++ others)))
      → with_header h (sections_from h p (ahead number (lines_of (bytes ++ more))))
      ≡ with_header h (sections_from h q (ahead now (lines_of (drop used bytes ++ more))))
  reads_on p q bytes used number now lines left more t on =
      ap (λ (ls : List Line). with_header h (sections_from h p (ahead number ls))) (t.before more)
      ∙ ap (with_header h) (on (t.following more))
      ∙ ap (λ (ls : List Line). with_header h (sections_from h q (ahead now ls))) (sym (t.after more))

-- what follows goes on as what was read before it
pub reads_on_by : {A B : Type 0} (k : A → Result B Stopped) (x y : Result A Stopped) → ReadsOn x y
    → ReadsOn (x >>= k) (y >>= k)
reads_on_by k x y (inl m) = inl (ap (λ r. r >>= k) m)
reads_on_by k x y (inr e) = inr (ap (λ r. r >>= k) e)

-- the header
stays : (at now : Ahead) → now ≡ at → IsBehind at now
stays at now is = record {
  front = [];
  lines = ap (λ (a : Ahead). a.lines) (sym is);
  number = rw is (omega arith);
}

behind_header : (limit : ℕ) (r : Result Header Stopped) (at now : Ahead)
    → GivesOrFails (λ (h : Header). (h, now)) r (header_at ascii_word limit at) → OnErr r (now ≡ at) → IsBehind at now
behind_header limit (Ok h) at now is err =
    found_behind kinds.NotAiger (header_of ascii_word limit) at.number at.lines (h, now) is
behind_header limit (Err e) at now is err = stays at now err

-- The header line of a file of either kind: what it tells is told by the lines themselves, whatever comes after them.
pub record IsHead (head : Ahead → Found Header) (whole : List Line → Result Circuit Stopped)
    (follow : Result Header Stopped → Ahead → Result Circuit Stopped) : Type 0 where
  pub joined :
      (at : Ahead) (more : List Line) (p : Header × Ahead) → head at ≡ Ok p
      → head (with_lines at more) ≡ Ok (p.0, with_lines p.1 more)
  pub refused :
      (at : Ahead) (more : List Line) (e : Stopped) → at.lines ≢ [] → head at ≡ Err e
      → head (with_lines at more) ≡ Err e
  pub tells :
      (ls : List Line) (h : Header) (now : Ahead) → head (ahead 1 ls) ≡ Ok (h, now)
      → whole ls ≡ follow (Ok h) now
  pub stops : (ls : List Line) (e : Stopped) (now : Ahead) → head (ahead 1 ls) ≡ Err e → whole ls ≡ follow (Err e) now

-- the header line was read of whole lines
pub record Begins (whole : List Line → Result Circuit Stopped)
    (follow : Result Header Stopped → Ahead → Result Circuit Stopped) (lines left : List ℕ) (number : ℕ)
    (r : Result Header Stopped) : Type 0 where
  pub fits : length left ≤ length lines
  pub counted : number ≤ 1 + (length lines - length left)
  pub told :
      (more : List ℕ) → whole (lines_of (lines ++ more))
      ≡ follow r (ahead number (lines_of (drop (length lines - length left) lines ++ more)))

module _ {head : Ahead → Found Header} {whole : List Line → Result Circuit Stopped}
    {follow : Result Header Stopped → Ahead → Result Circuit Stopped} (is : IsHead head whole follow)
  where
    header_told : (lines : List ℕ) (used : ℕ) (r : Result Header Stopped) (now : Ahead) (more : List ℕ)
        → 0 < length lines → IsTaken lines used 1 now.number (lines_of lines) now.lines
        → GivesOrFails (λ (h : Header). (h, now)) r (head (ahead 1 (lines_of lines)))
        → whole (lines_of (lines ++ more)) ≡ follow r (ahead now.number (lines_of (drop used lines ++ more)))
    header_told lines used (Ok h) now more some t found =
        ap whole (t.before more)
        ∙ is.tells (lines_of lines ++ t.following more) h (with_lines now (t.following more))
        (is.joined (ahead 1 (lines_of lines)) (t.following more) (h, now) found)
        ∙ ap (λ (ls : List Line). follow (Ok h) (ahead now.number ls)) (sym (t.after more))
    header_told lines used (Err e) now more some t found =
        ap whole (t.before more)
        ∙ is.stops (lines_of lines ++ t.following more) e (ahead now.number (lines_of (drop used lines ++ more)))
        (is.refused (ahead 1 (lines_of lines)) (t.following more) e (some_lines lines some) found)

    pub begins : (lines left : List ℕ) (number : ℕ) (r : Result Header Stopped) (from now : Ahead)
        → 0 < length lines → AreEnded (lines_of lines) → from ≡ ahead 1 (lines_of lines)
        → ahead number (lines_of left) ≡ now → GivesOrFails (λ (h : Header). (h, now)) r (head from)
        → IsBehind from now → Begins whole follow lines left number r
    begins lines left number r from now some ended at to found behind =
        let found = rw (at, ← to) at found in
        let behind = rw (at, ← to) at behind in
        let t =
        taken lines lines [] left 1 number (length lines - length left) (sym (append-nil lines)) ended behind refl in
        record {
          fits = left_fits lines left 1 number behind;
          counted = t.counted;
          told = λ more.
              header_told lines (length lines - length left) r (ahead number (lines_of left)) more some t found;
        }

-- the lines of an ASCII file
abbrev pub ascii_then : Result Header Stopped → Ahead → Result Circuit Stopped
ascii_then header at = numbered_then Ascii header at >>= then_tail

tail_after : (h : Header) (r : Found Circuit)
    → ◌>>=◌ {B = Circuit} r (λ found. tail_at h nothing_named found.0 found.1.number found.1.lines)
    ≡ ◌>>=◌ {B = Circuit} (with_header h r) then_tail
tail_after h (Ok x) = refl
tail_after h (Err e) = refl

pub ascii_told : (limit : ℕ) (ls : List Line) (h : Header) (now : Ahead)
    → header_at ascii_word limit (ahead 1 ls) ≡ Ok (h, now) → circuit_at limit ls ≡ ascii_then (Ok h) now
unfolding circuit_at
ascii_told limit ls h now is =
    rw is (tail_after h (sections_at in_ascii h sections (empty_circuit h.max_var) now))

pub ascii_head : (limit : ℕ) → IsHead (header_at ascii_word limit) (circuit_at limit) ascii_then
ascii_head limit = record {
  joined = λ at more p is. found_joined kinds.NotAiger (header_of ascii_word limit) at.number at.lines more p is;
  refused = λ at more e some is.
      refused_joined kinds.NotAiger (header_of ascii_word limit) at.number at.lines more e some is;
  tells = ascii_told limit;
  stops = λ ls e now is. no_header limit ls e is;
}

pub begins_ascii : (limit : ℕ) (lines left : List ℕ) (number : ℕ) (r : Result Header Stopped) (from now : Ahead)
    → 0 < length lines → AreEnded (lines_of lines) → from ≡ ahead 1 (lines_of lines)
    → ahead number (lines_of left) ≡ now
    → GivesOrFails (λ (h : Header). (h, now)) r (header_at ascii_word limit from) → OnErr r (now ≡ from)
    → Begins (circuit_at limit) ascii_then lines left number r
begins_ascii limit lines left number r from now some ended at to found err =
    begins (ascii_head limit) lines left number r from now some ended at to found
    (behind_header limit r from now found err)

-- a reader at a section
pub wrong_on : (r : LineReader) (h : Header) (bytes lines rest more : List ℕ) (at : Ahead) (e : Stopped)
    → r.header ≡ Ok h → bytes ≡ lines ++ rest → AreEnded (lines_of lines) → at ≡ ahead r.number (lines_of lines)
    → (e ≡ OutOfMemory) ⊎ ((others : List Line) → sections_from h r.progress (with_lines at others) ≡ Err e)
    → ReadsOn (numbered_of r (lines_of (bytes ++ more))) (Err e)
wrong_on r h bytes lines rest more at e is cut ended from (inl m) = inl (ap (λ (f : Stopped). Err f) m)
wrong_on r h bytes lines rest more at e is cut ended from (inr wrong) =
    inr (header_is r h (ahead r.number (lines_of (bytes ++ more))) is
    ∙ ap (λ (ls : List Line). with_header h (sections_from h r.progress (ahead r.number ls)))
    (lines_cut bytes lines rest more cut ended)
    ∙ ap (λ (a : Ahead). with_header h (sections_from h r.progress (with_lines a (lines_of (rest ++ more)))))
    (sym from)
    ∙ ap (with_header h) (wrong (lines_of (rest ++ more))))

-- bytes of which whole lines were read
pub record Advances (r q : LineReader) (bytes lines left : List ℕ) : Type 0 where
  pub fits : length left ≤ length lines
  pub counted : q.number ≤ r.number + (length lines - length left)
  pub on :
      (more : List ℕ) → numbered_of r (lines_of (bytes ++ more))
      ≡ numbered_of q (lines_of (drop (length lines - length left) bytes ++ more))

pub advances : (r q : LineReader) (h : Header) (bytes lines rest left : List ℕ) (at now : Ahead) → r.header ≡ Ok h
    → q.header ≡ Ok h → bytes ≡ lines ++ rest → AreEnded (lines_of lines) → at ≡ ahead r.number (lines_of lines)
    → ahead q.number (lines_of left) ≡ now → IsBehind at now
    → ((others : List Line) → sections_from h r.progress (with_lines at others)
    ≡ sections_from h q.progress (with_lines now others))
    → Advances r q bytes lines left
advances r q h bytes lines rest left at now is same cut ended from to behind on =
    let behind = rw (from, ← to) at behind in
    let on = rw (from, ← to) at on in
    let t = taken bytes lines rest left r.number q.number (length lines - length left) cut ended behind refl in
    record {
      fits = left_fits lines left r.number q.number behind;
      counted = t.counted;
      on = λ more.
          header_is r h (ahead r.number (lines_of (bytes ++ more))) is
          ∙ reads_on h r.progress q.progress bytes (length lines - length left) r.number q.number (lines_of lines)
          (lines_of left) more t on
          ∙ sym (header_is q h (ahead q.number (lines_of (drop (length lines - length left) bytes ++ more))) same);
    }

-- all of the whole lines were taken, or the sections end before that
pub all_taken : (q : Progress) (bytes lines rest left : List ℕ) (number : ℕ) (now : Ahead) → bytes ≡ lines ++ rest
    → HasNoLineFeed rest → ahead number (lines_of left) ≡ now → IsDone q ⊎ IsMissing q now
    → IsDone q ⊎ HasNoLineFeed (drop (length lines - length left) bytes)
all_taken q bytes lines rest left number now cut free at (inl done) = inl done
all_taken q bytes lines rest [] number now cut free at (inr missing) =
    let all : length lines - length {A = ℕ} [] ≡ length lines = omega arith in
    inr (rw (cut, all, drop-append_seam lines rest) free)
all_taken q bytes lines rest (b ∷ left) number now cut free at (inr (due, none)) =
    absurd (some_lines (b ∷ left) (omega arith) (ap (λ (a : Ahead). a.lines) at ∙ none))

-- a reader that begins there
pub begins_there : (k : (Header × Circuit) × Ahead → Result Circuit Stopped) (f : Format) (m : LineReader)
    (r : Result Header Stopped) (number : ℕ) (bytes : List ℕ)
    → ((at : Ahead) → numbered_at m at ≡ numbered_then f r at) → m.number ≡ number
    → ◌>>=◌ {B = Circuit} (numbered_then f r (ahead number (lines_of bytes))) k
    ≡ ◌>>=◌ {B = Circuit} (numbered_of m (lines_of bytes)) k
begins_there k f m r number bytes from n =
    ap (λ (x : Found (Header × Circuit)). ◌>>=◌ {B = Circuit} x k)
    (sym (from (ahead number (lines_of bytes)))
    ∙ ap (λ (i : ℕ). numbered_at m (ahead i (lines_of bytes))) (sym n))

-- a reader whose lines were all read
pub all_lines : (r : LineReader) (h : Header) (at : Ahead) → r.header ≡ Ok h → IsDone r.progress
    → numbered_at r at ≡ Ok ((h, r.progress.circuit), at)
all_lines r h at is done = header_is r h at is ∙ ap (with_header h) (all_done h r.progress at done)

-- the last lines were read, or one of them is not right
pub lines_end : (r : LineReader) (h : Header) (at now : Ahead) (c : Circuit) → r.header ≡ Ok h
    → sections_from h r.progress at ≡ Ok (c, now) → numbered_at r at ≡ Ok ((h, c), now)
lines_end r h at now c is s = header_is r h at is ∙ ap (with_header h) s

pub lines_stop : (r : LineReader) (h : Header) (at : Ahead) (e : Stopped) → r.header ≡ Ok h
    → (e ≡ OutOfMemory) ⊎ (sections_from h r.progress at ≡ Err e)
    → (e ≡ OutOfMemory) ⊎ (numbered_at r at ≡ Err e)
lines_stop r h at e is (inl m) = inl m
lines_stop r h at e is (inr s) = inr (header_is r h at is ∙ ap (with_header h) s)
