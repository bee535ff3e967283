-- How a header is spelled and read, and what it tells, whatever the word of its format.
use Rattle.std.proofs.Common.{◌≡◌, ◌<◌, ◌≤◌, ◌∷◌, ◌++◌, ◌∙◌, ◌+◌, rules, ℕ, suc, true, false, List, [], length, take}
use Rattle.std.proofs.Common.{drop, Some, refl, ap, arith, append_assoc, min, cond, get_or, Option, None, Result, Ok}
use Rattle.std.proofs.Common.{Err, sym, sum, bytes_eq, take-append-drop, eqb-true, ltb-false, le-ltb, ltb}
use Rattle.std.specs.List.{AllByRecursion, before_first, position_or_len, list_any}
use Rattle.std.proofs.lemmas.Grind.{common_steps}
use Rattle.std.proofs.Math.Seq.{take-append_seam, drop-append_seam}
use Rattle.std.proofs.lemmas.Bool.{or_parts, or_from}
use Rattle.std.proofs.lemmas.Slice.Eq.{bytes_eq-Decides}
use Rattle.aig_circuit.specs.declared.circuit.Circuit.{Circuit}
use Rattle.aig_circuit.specs.Wellformed.{IsWithinLimits, largest_index}
use Rattle.aig_circuit.proofs.Checking.{all_weaker}
use Rattle.aig_lines.specs.Lines.{Line}
use Rattle.aig_rows.specs.Spelling.{IsGap, AreMoreNumbers}
use Rattle.aig_rows.specs.Scanning.{more_numbers_at}
use Rattle.aig_fault.specs.declared.kind.Kind.{Kind}
use Rattle.aig_fault.specs.declared.kind.Kind.TheVariants as kinds
use Rattle.aig_rows.proofs.Grammar.Spellings.{one_more}
use Rattle.aig_rows.proofs.Grammar.NumberLines.{end_is_numbers, more_reads}
use Rattle.aig_rows.proofs.Steps.{ok_same, passed, let_through}
use Rattle.aig_text.specs.Reading.{ends_word, header_of_row, header_within, header_of}
use Rattle.aig_text.specs.AsciiGrammar.{IsHeaderLine}
use Rattle.aig_text.specs.Sections.{Header, header_row, least_header_numbers, most_header_numbers}
use Rattle.aig_text.proofs.Grammar.Sections.{row_of_header}

-- the header
after_word : (k : ℕ) (text word : List ℕ) → take k text ≡ word → text ≡ word ++ drop (length word) text
after_word k text word h = grind (arith, common_steps, take-append-drop, drop-append_seam)

-- a line that begins with the word, and whose numbers are read, holds them
pub header_reads : (word : List ℕ) (l : Line) (least most : ℕ) (ns : List ℕ) → least ≤ most
    → bytes_eq (before_first ends_word l.text) word ≡ true
    → more_numbers_at l.ended least most (drop (length word) l.text) ≡ Some ns
    → IsHeaderLine word least l ns × (length ns ≡ most)
header_reads word l least most ns small first h =
    let is_word : before_first ends_word l.text ≡ word =
    (bytes_eq-Decides (before_first ends_word l.text) word).0 first in
    let found = more_reads least most l.ended (drop (length word) l.text) ns small h in (
      record {
        rest = drop (length word) l.text;
        begins =
            after_word (position_or_len ends_word l.text) l.text word is_word;
        others = found.0;
      },
      found.1,
    )

-- a word ends where the first byte that ends words stands
word_len : (word : List ℕ) (b : ℕ) (rest : List ℕ) → AllByRecursion (λ c. ends_word c ≡ false) word
    → ends_word b ≡ true → position_or_len ends_word (word ++ b ∷ rest) ≡ length word
word_len [] b rest h e = rw e refl
word_len (c ∷ word) b rest h e =
    rw h.0 (one_more (position_or_len ends_word (word ++ b ∷ rest)) ∙ ap suc (word_len word b rest h.1 e))

word_before_gap : (word gap rest : List ℕ) → AllByRecursion (λ c. ends_word c ≡ false) word → IsGap gap
    → before_first ends_word (word ++ (gap ++ rest)) ≡ word
word_before_gap word [] rest h g = let long : 0 < 0 = g.0 in absurd (omega arith)
word_before_gap word (b ∷ bs) rest h g = search (rules, eqb-true, word_len, take-append_seam)

word_before_numbers : (word numbers ending written : List ℕ) → 0 < length written
    → AllByRecursion (λ c. ends_word c ≡ false) word → AreMoreNumbers numbers written
    → before_first ends_word (word ++ (numbers ++ ending)) ≡ word
word_before_numbers word numbers ending [] some plain h = absurd (omega arith)
word_before_numbers word numbers ending (n ∷ ns) some plain h = search (rules, append_assoc, word_before_gap)

-- the numbers that a line holds after the word are read
pub header_is_read : (word : List ℕ) (l : Line) (least most : ℕ) (ns : List ℕ) → 0 < least
    → AllByRecursion (λ b. ends_word b ≡ false) word → IsHeaderLine word least l ns → length ns ≡ most
    → (bytes_eq (before_first ends_word l.text) word ≡ true)
    × (more_numbers_at l.ended least most (drop (length word) l.text) ≡ Some ns)
header_is_read word l least most ns some plain h long =
    let enough : least ≤ length h.others.written = h.others.enough in
    let is_word : before_first ends_word l.text ≡ word =
    rw (h.begins, h.others.text_is)
    (word_before_numbers word h.others.numbers h.others.ending h.others.written (omega arith) plain h.others.spelled)
    in (
      (bytes_eq-Decides (before_first ends_word l.text) word).1 is_word,
      rw (ap (drop (length word)) h.begins ∙ drop-append_seam word h.rest)
          (end_is_numbers l.ended least most h.rest ns h.others long),
    )

-- A header that is read tells its numbers, and the other way round, whatever the word of its format.
none_larger : (m : ℕ) (ns : List ℕ) → list_any (λ n. ltb m n) ns ≡ false → AllByRecursion (λ n. n ≤ m) ns
none_larger m [] h = tt
none_larger m (n ∷ ns) h =
    let p = or_parts (ltb m n) (list_any (λ n. ltb m n) ns) h in (ltb-false m n p.0, none_larger m ns p.1)

all_within : (m : ℕ) (ns : List ℕ) → AllByRecursion (λ n. n ≤ m) ns → list_any (λ n. ltb m n) ns ≡ false
all_within m [] h = refl
all_within m (n ∷ ns) h = or_from (ltb m n) (list_any (λ n. ltb m n) ns) (le-ltb m n h.0) (all_within m ns h.1)

-- a line that is a header with this word
pub record TellsHeader (word : List ℕ) (limit : ℕ) (l : Line) (h : Header) : Type 0 where
  pub numbers : List ℕ
  pub begins : bytes_eq (before_first ends_word l.text) word ≡ true
  pub read : more_numbers_at l.ended least_header_numbers most_header_numbers (drop (length word) l.text) ≡ Some numbers
  pub is : header_of_row (min limit largest_index) numbers ≡ h
  pub within : AllByRecursion (λ n. n ≤ min limit largest_index) numbers
  pub counted : get_or numbers 1 0 + get_or numbers 2 0 + get_or numbers 4 0 ≤ get_or numbers 0 0

abbrev counts_fit : ℕ → List ℕ → Result Header Kind
counts_fit limit ns =
    cond (ltb (get_or ns 0 0) (get_or ns 1 0 + get_or ns 2 0 + get_or ns 4 0)) (Err kinds.BadHeader)
    (Ok (header_of_row limit ns))

within_tells : (word : List ℕ) (limit : ℕ) (l : Line) (h : Header) (o : Option (List ℕ))
    → bytes_eq (before_first ends_word l.text) word ≡ true
    → more_numbers_at l.ended least_header_numbers most_header_numbers (drop (length word) l.text) ≡ o
    → header_within (min limit largest_index) o ≡ Ok h → TellsHeader word limit l h
unfolding header_within
within_tells word limit l h None begins read is = cc
within_tells word limit l h (Some ns) begins read is = search (rules, passed, ok_same, none_larger, ltb-false)

pub header_tells : (word : List ℕ) (limit : ℕ) (l : Line) (h : Header) → header_of word limit l ≡ Ok h
    → TellsHeader word limit l h
unfolding header_of
header_tells word limit l h is = search (rules, let_through, within_tells)

found_header : (word : List ℕ) (limit : ℕ) (l : Line) (h : Header) → TellsHeader word limit l h
    → header_of word limit l ≡ Ok h
unfolding header_of header_within
found_header word limit l h t = search (rules, all_within, le-ltb)

-- the header's row
all_numbers : (limit : ℕ) (ns : List ℕ) → length ns ≡ most_header_numbers → row_of_header (header_of_row limit ns) ≡ ns
all_numbers limit (a ∷ b ∷ d ∷ e ∷ f ∷ g ∷ i ∷ j ∷ k ∷ []) h = refl
all_numbers limit ns h = absurd (omega arith)

-- a circuit has the counts that a header tells
abbrev pub HasCounts : Header → Circuit → Type 0
HasCounts h c = header_row c ≡ row_of_header h

-- a line that tells the header of a circuit spells the circuit's header row
module _ (word : List ℕ) (limit : ℕ) (l : Line) (h : Header) (c : Circuit) (t : TellsHeader word limit l h)
    (counts : HasCounts h c) where
  numbers_are : header_row c ≡ t.numbers
  numbers_are =
      let s = header_reads word l least_header_numbers most_header_numbers t.numbers (omega arith) t.begins t.read in
      counts ∙ ap row_of_header (sym t.is) ∙ all_numbers (min limit largest_index) t.numbers s.1

  pub heads : IsHeaderLine word least_header_numbers l (header_row c)
  heads = search (rules, header_reads, numbers_are)

  -- what is said of all numbers up to the smaller limit is said of the circuit's
  all_of : (top : ℕ) → min limit largest_index ≤ top → AllByRecursion (λ n. n ≤ top) (header_row c)
  all_of top small = search (rules, numbers_are, all_weaker)

  pub limited : AllByRecursion (λ n. n ≤ limit) (header_row c)
  limited = all_of limit (omega arith)

  pub sizes_within_limit : sum c.justice.sizes ≤ h.limit → sum c.justice.sizes ≤ limit
  sizes_within_limit small = search rules

  pub definitions_counted : length c.inputs + length c.latches + length c.gates ≤ c.max_var
  definitions_counted = rw (← numbers_are) at t.counted

  -- where the sizes are those of the literals
  pub within_limits : sum c.justice.sizes ≡ length c.justice.literals → sum c.justice.sizes ≤ h.limit
      → IsWithinLimits c
  within_limits sizes small = grind (arith, common_steps, all_of)

-- all numbers of the header row of a circuit within the limits are within them
pub header_limited : (c : Circuit) → IsWithinLimits c → AllByRecursion (λ n. n ≤ largest_index) (header_row c)
header_limited c w = search rules

both_limits : (limit : ℕ) (ns : List ℕ) → AllByRecursion (λ n. n ≤ limit) ns
    → AllByRecursion (λ n. n ≤ largest_index) ns → AllByRecursion (λ n. n ≤ min limit largest_index) ns
both_limits limit [] g h = tt
both_limits limit (n ∷ ns) g h =
    let one : n ≤ limit = g.0 in
    let other : n ≤ largest_index = h.0 in
    (omega arith, both_limits limit ns g.1 h.1)

-- the sizes of a circuit are within both limits
pub sizes_in_both : (limit : ℕ) (c : Circuit) → IsWithinLimits c → sum c.justice.sizes ≤ limit
    → sum c.justice.sizes ≤ min limit largest_index
sizes_in_both limit c w small = search rules

-- the header of a circuit that is read within a limit, by its header row
abbrev pub own_header : ℕ → Circuit → Header
own_header limit c = header_of_row limit (header_row c)

-- and a line that spells the circuit's header row tells its header
pub header_is_found : (word : List ℕ) (limit : ℕ) (l : Line) (c : Circuit)
    → AllByRecursion (λ b. ends_word b ≡ false) word → IsHeaderLine word least_header_numbers l (header_row c)
    → AllByRecursion (λ n. n ≤ limit) (header_row c) → IsWithinLimits c
    → length c.inputs + length c.latches + length c.gates ≤ c.max_var
    → header_of word limit l ≡ Ok (own_header (min limit largest_index) c)
header_is_found word limit l c plain line small limits fits =
    let s =
    header_is_read word l least_header_numbers most_header_numbers (header_row c) (omega arith) plain line refl in
    found_header word limit l (own_header (min limit largest_index) c) (record {
      numbers = header_row c;
      begins = s.0;
      read = s.1;
      is = refl;
      within = both_limits limit (header_row c) small (header_limited c limits);
      counted = fits;
    })
