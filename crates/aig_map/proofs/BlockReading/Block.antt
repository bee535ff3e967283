-- A map block and its first line: where its text stands at the front of the comment, is within bounds, and counts
-- what the circuit has, it is read; and what is read is such a block.
use Rattle.std.proofs.Common.{◌≡◌, ◌≤◌, ◌+◌, ◌&&◌, ◌∷◌, ◌++◌, ◌∙◌, ◌<◌, ◌==◌, rules, ℕ, List, [], length, Some, Ok}
use Rattle.std.proofs.Common.{refl, sym, ap, subst, arith, map, Option, None, append_assoc, nat_le, codes, unwrap_or}
use Rattle.std.proofs.Common.{Decides, ◌-◌, drop, flat_map, take-append-drop}
use Rattle.std.specs.List.{AllByRecursion}
use Rattle.std.proofs.lemmas.Option.{cond_some}
use Rattle.std.proofs.lemmas.Slice.Eq.{bytes_eq-Decides}
use Rattle.std.proofs.Math.Seq.{take-append_seam, drop-append_seam}
use Rattle.std.proofs.lemmas.List.{drop_at, length-append}
use Rattle.std.proofs.lemmas.List.Concat.{flat_map-append}
use Rattle.aig_circuit.specs.declared.circuit.TheConstants.{LARGEST}
use Rattle.aig_circuit.specs.declared.circuit.Circuit.{Circuit}
use Rattle.aig_circuit.specs.Wellformed.{AreDistinct, IsVariableUpTo}
use Rattle.aig_checked.specs.BinaryOrder.{IsInBinaryOrder}
use Rattle.aig_rows.proofs.Grammar.NumberLines.{some_then}
use Rattle.aig_rows.proofs.Steps.{both_ok, let_through}
use Rattle.aig_text.specs.AsciiText.{numbers_text}
use Rattle.aig_map.specs.declared.map_block.FirstLine.{FirstLine}
use Rattle.aig_map.specs.MapBlock.{one_if, first_row, variable_row, mapped_row, block_rows, last_line, block_text}
use Rattle.aig_map.specs.MapSpelling.{after_text, number_at, last_number_at, first_line_at}
use Rattle.aig_map.specs.MapReading.{counts_match, counted_line, rest_of_block, block_reading, HasCountsOf}
use Rattle.aig_map.specs.MapReading.{IsWithinBounds}
use Rattle.aig_map.specs.declared.map_block.MappedGate.{MappedGate}
use Rattle.aig_map.specs.declared.map_block.MapBlock.{MapBlock}
use Rattle.aig_map.specs.declared.recorded.Recorded.{Recorded}
use Rattle.aig_map.specs.Parts.Tables.{block_in, block_read, without_comment, IsBlockOf, IsFit}
use Rattle.aig_map.specs.Undone.{places_recorded}
use Rattle.aig_map.proofs.BlockReading.Lines.{line, number_is_read, last_is_read, number_reads, last_reads}
use Rattle.aig_map.proofs.BlockReading.Lines.{one_if_recorded, one_if_small, bit_recorded, at_most, there}
use Rattle.aig_map.proofs.BlockReading.Lines.{variables_are_exact, gates_are_exact, lines, entries_are_read}
use Rattle.aig_map.proofs.BlockReading.Lines.{entries_read}

-- a text is read where it stands, and where it is read it stands there
text_is_read : (text rest : List ℕ) → after_text text (text ++ rest) ≡ Some rest
text_is_read text rest =
    rw (take-append_seam text rest, drop-append_seam text rest, (bytes_eq-Decides text text).1 refl) refl

text_reads : (text bytes rest : List ℕ) → after_text text bytes ≡ Some rest → bytes ≡ text ++ rest
text_reads text bytes rest h = search (rules, cond_some, bytes_eq-Decides, take-append-drop)

-- the numbers of a first line
abbrev pub row_of : FirstLine → List ℕ
row_of f = 1 ∷ f.max_var ∷ f.inputs ∷ f.latches ∷ f.gates ∷ one_if f.has_comment ∷ []

-- the test of its numbers
line_test : (version m flag : ℕ)
    → Decides ((version == 1) && (nat_le m LARGEST && nat_le flag 1)) ((version ≡ 1) × ((m ≤ LARGEST) × (flag ≤ 1)))
line_test version m flag = search (rules, at_most)

-- no more inputs, latches and gates than indices
abbrev Fits : FirstLine → Type 0
Fits f = f.inputs + f.latches + f.gates ≤ f.max_var

-- the text of such a line is read
first_is_read : (f : FirstLine) (rest : List ℕ) → f.max_var ≤ LARGEST → Fits f
    → first_line_at (line (row_of f) rest) ≡ Some (f, rest)
unfolding first_line_at
first_is_read f rest few fits =
    let flag : ℕ = one_if f.has_comment in
    let bit : flag ≤ 1 = one_if_small f.has_comment in
    rw (
      number_is_read 1 f.max_var (f.inputs ∷ f.latches ∷ f.gates ∷ flag ∷ []) rest (omega arith),
      number_is_read f.max_var f.inputs (f.latches ∷ f.gates ∷ flag ∷ []) rest (omega arith),
      number_is_read f.inputs f.latches (f.gates ∷ flag ∷ []) rest (omega arith),
      number_is_read f.latches f.gates (flag ∷ []) rest (omega arith),
      number_is_read f.gates flag [] rest (omega arith),
      last_is_read flag rest (omega (arith, bit)),
      (line_test 1 f.max_var flag).1 (refl, (few, bit)),
      one_if_recorded f.has_comment,
    ) refl

-- a first line stands there, if it fits
abbrev IsFirstAt : List ℕ → FirstLine × List ℕ → Type 0
IsFirstAt bytes r = (r.0.max_var ≤ LARGEST) × (Fits r.0 → bytes ≡ line (row_of r.0) r.1)

-- and what is read is so
first_reads : (bytes : List ℕ) (r : FirstLine × List ℕ) → first_line_at bytes ≡ Some r → IsFirstAt bytes r
unfolding first_line_at
first_reads bytes r h =
    let v = some_then (number_at bytes) _ _ h in
    let m = some_then (number_at v.0.1) _ _ v.2 in
    let i = some_then (number_at m.0.1) _ _ m.2 in
    let l = some_then (number_at i.0.1) _ _ i.2 in
    let a = some_then (number_at l.0.1) _ _ l.2 in
    let e = some_then (last_number_at a.0.1) _ _ a.2 in
    let rest : List ℕ = e.0.1 in
    let f : FirstLine =
    record { max_var = m.0.0; inputs = i.0.0; latches = l.0.0; gates = a.0.0; has_comment = e.0.0 == 1 } in
    let t = cond_some _ (f, rest) r e.2 in
    let good : (v.0.0 ≡ 1) × ((m.0.0 ≤ LARGEST) × (e.0.0 ≤ 1)) = (line_test v.0.0 m.0.0 e.0.0).0 t.0 in
    let few : m.0.0 ≤ LARGEST = good.1.0 in
    let bit : e.0.0 ≤ 1 = good.1.1 in
    let stands : Fits f → bytes ≡ line (row_of f) rest =
    λ fits.
    let flag : a.0.1 ≡ line (e.0.0 ∷ []) rest = last_reads e.0.0 a.0.1 rest (omega (arith, bit)) e.1 in
    let gates = number_reads a.0.0 e.0.0 [] l.0.1 a.0.1 rest (omega (arith, few, fits)) a.1 flag in
    let latches = number_reads l.0.0 a.0.0 (e.0.0 ∷ []) i.0.1 l.0.1 rest (omega (arith, few, fits)) l.1 gates in
    let inputs : m.0.1 ≡ line (i.0.0 ∷ l.0.0 ∷ a.0.0 ∷ e.0.0 ∷ []) rest =
    number_reads i.0.0 l.0.0 (a.0.0 ∷ e.0.0 ∷ []) m.0.1 i.0.1 rest (omega (arith, few, fits)) i.1 latches in
    let max_var : v.0.1 ≡ line (m.0.0 ∷ i.0.0 ∷ l.0.0 ∷ a.0.0 ∷ e.0.0 ∷ []) rest =
    number_reads m.0.0 i.0.0 (l.0.0 ∷ a.0.0 ∷ e.0.0 ∷ []) v.0.1 m.0.1 rest (omega (arith, few)) m.1 inputs in
    let version : bytes ≡ line (v.0.0 ∷ m.0.0 ∷ i.0.0 ∷ l.0.0 ∷ a.0.0 ∷ e.0.0 ∷ []) rest =
    number_reads v.0.0 m.0.0 (i.0.0 ∷ l.0.0 ∷ a.0.0 ∷ e.0.0 ∷ []) bytes v.0.1 rest (omega (arith, good.0)) v.1
    max_var in
    version ∙ (λ j. line (good.0 j ∷ m.0.0 ∷ i.0.0 ∷ l.0.0 ∷ a.0.0 ∷ sym (bit_recorded e.0.0 bit) j ∷ []) rest) in
    subst (IsFirstAt bytes) t.1 (few, stands)

-- the first line stands at the front of the comment, fits, and counts what the circuit has
pub record IsFront (x : Circuit) (r : FirstLine × List ℕ) : Type 0 where
  pub few : r.0.max_var ≤ LARGEST
  pub inputs : r.0.inputs ≡ length x.inputs
  pub latches : r.0.latches ≡ length x.latches
  pub gates : r.0.gates ≡ length x.gates
  pub fits : r.0.inputs + r.0.latches + r.0.gates ≤ r.0.max_var
  pub text : unwrap_or x.comment [] ≡ codes "aigmap " ++ line (row_of r.0) r.1

-- the test of its counts
counts_test : (x : Circuit) (f : FirstLine) → Decides (counts_match x f) ((f.inputs ≡ length x.inputs)
    × ((f.latches ≡ length x.latches) × ((f.gates ≡ length x.gates)
    × (length x.inputs + length x.latches + length x.gates ≤ f.max_var))))
counts_test x f = search (rules, at_most)

-- such a line is read, and what is read is such a line
front_is_read : (x : Circuit) (r : FirstLine × List ℕ) → IsFront x r → counted_line x ≡ Ok r
unfolding counted_line
front_is_read x r is = search (rules, line, text_is_read, first_is_read, counts_test)

front_reads : (x : Circuit) (r : FirstLine × List ℕ) → counted_line x ≡ Ok r → IsFront x r
unfolding counted_line
front_reads x r h =
    let word : List ℕ = codes "aigmap " in
    let a = both_ok _ _ _ h in
    let b = both_ok _ _ _ a.2 in
    let t = let_through (counts_match x b.0.0) _ _ r b.2 in
    let is : b.0 ≡ r = cc in
    let f : FirstLine = b.0.0 in
    let counts = (counts_test x f).0 t.0 in
    let fits : Fits f = omega (arith, counts.0, counts.1.0, counts.1.1.0, counts.1.1.1) in
    let first : IsFirstAt a.0 b.0 = first_reads a.0 b.0 (there _ (first_line_at a.0) b.0 b.1) in
    let begins : unwrap_or x.comment [] ≡ word ++ a.0 =
    text_reads word (unwrap_or x.comment []) a.0 (there _ (after_text word (unwrap_or x.comment [])) a.0 a.1) in
    subst (IsFront x) is (
    record {
      few = first.0;
      inputs = counts.0;
      latches = counts.1.0;
      gates = counts.1.1.0;
      fits = fits;
      text = begins ∙ ap (λ (t : List ℕ). word ++ t) (first.1 fits);
    }
    )

-- A map block: where its text stands at the front of the comment, is within bounds, and counts what the circuit has, it
-- is read; and what is read is such a block.

-- what the first line tells of a block
abbrev first_of : MapBlock → FirstLine
first_of b = record {
  max_var = b.max_var;
  inputs = length b.inputs;
  latches = length b.latches;
  gates = length b.gates;
  has_comment = b.has_comment;
}

-- the text after the first line, and what follows it
abbrev behind : MapBlock → List ℕ → List ℕ
behind b rest =
    lines variable_row b.inputs (lines variable_row b.latches (lines mapped_row b.gates (last_line ++ rest)))

-- the lines after the first one, section by section
rows_behind : (b : MapBlock) (rest : List ℕ)
    → (flat_map numbers_text (block_rows b) ++ last_line) ++ rest ≡ behind b rest
rows_behind b rest =
    let inputs : List (List ℕ) = map variable_row b.inputs in
    let latches : List (List ℕ) = map variable_row b.latches in
    rw (
      flat_map-append numbers_text (inputs ++ latches) (map mapped_row b.gates),
      flat_map-append numbers_text inputs latches,
    ) (simp append_assoc)

-- the text of a block, its first line first
text_by_parts : (b : MapBlock) (rest : List ℕ)
    → block_text b ++ rest ≡ codes "aigmap " ++ line (first_row b) (behind b rest)
unfolding block_text
text_by_parts b rest =
    ap (λ (t : List ℕ). codes "aigmap " ++ t)
    (append_assoc (numbers_text (first_row b)) (flat_map numbers_text (block_rows b) ++ last_line) rest
    ∙ ap (line (first_row b)) (rows_behind b rest))

-- the lines after a first line stand there
record IsRest (f : FirstLine) (bytes : List ℕ) (r : MapBlock × List ℕ) : Type 0 where
  within : IsWithinBounds r.0
  first : first_of r.0 ≡ f
  text : bytes ≡ behind r.0 r.1

-- gates whose variables and places are below these bounds
abbrev AllGates : ℕ → ℕ → List MappedGate → Type 0
AllGates m count gates = AllByRecursion (λ (g : MappedGate). IsVariableUpTo m g.var × (g.place < count)) gates

few_gates : (inputs latches gates m : ℕ) → inputs + latches + gates ≤ m → m ≤ LARGEST → gates ≤ LARGEST
few_gates inputs latches gates m all few = omega arith

-- they are read, and what is read stands there
rest_is_read : (b : MapBlock) (rest : List ℕ) → IsWithinBounds b
    → rest_of_block (first_of b) (behind b rest) ≡ Ok (b, rest)
unfolding rest_of_block
rest_is_read b rest within =
    let m : ℕ = b.max_var in
    let few : m ≤ LARGEST = within.max_var in
    let count : ℕ = length b.gates in
    let fit : count ≤ LARGEST = few_gates (length b.inputs) (length b.latches) count m within.counts few in
    let last : List ℕ = last_line ++ rest in
    let gates : List ℕ = lines mapped_row b.gates last in
    let latches : List ℕ = lines variable_row b.latches gates in
    let first : ℕ = 2 + length b.inputs + length b.latches in
    rw (
      entries_are_read (variables_are_exact m few) b.inputs 2 latches within.inputs,
      entries_are_read (variables_are_exact m few) b.latches (2 + length b.inputs) gates within.latches,
      entries_are_read (gates_are_exact m few count fit) b.gates first last within.gates,
    ) refl

rest_reads : (f : FirstLine) → f.max_var ≤ LARGEST → f.inputs + f.latches + f.gates ≤ f.max_var
    → (bytes : List ℕ) (r : MapBlock × List ℕ) → rest_of_block f bytes ≡ Ok r → IsRest f bytes r
unfolding rest_of_block
rest_reads f few fits bytes r h =
    let a = both_ok _ _ _ h in
    let b = both_ok _ _ _ a.2 in
    let d = both_ok _ _ _ b.2 in
    let e = both_ok _ _ _ d.2 in
    let m : ℕ = f.max_var in
    let fit : f.gates ≤ LARGEST = few_gates f.inputs f.latches f.gates m fits few in
    let inputs = entries_read (variables_are_exact m few) f.inputs 2 bytes a.0 a.1 in
    let latches = entries_read (variables_are_exact m few) f.latches (2 + f.inputs) a.0.1 b.0 b.1 in
    let gates = entries_read (gates_are_exact m few f.gates fit) f.gates (2 + f.inputs + f.latches) b.0.1 d.0 d.1 in
    let last : d.0.1 ≡ last_line ++ e.0 =
    text_reads last_line d.0.1 e.0 (there _ (after_text last_line d.0.1) e.0 e.1) in
    let block : MapBlock =
    record { max_var = m; inputs = a.0.0; latches = b.0.0; gates = d.0.0; has_comment = f.has_comment } in
    let same : first_of block ≡ f =
    λ j. record f { inputs = inputs.long j; latches = latches.long j; gates = gates.long j } in
    let is : (block, e.0) ≡ r = cc in
    subst (IsRest f bytes) is (
    record {
      within = record {
        max_var = few;
        counts = subst (λ (g : FirstLine). g.inputs + g.latches + g.gates ≤ g.max_var) (sym same) fits;
        inputs = inputs.good;
        latches = latches.good;
        gates = subst (λ (n : ℕ). AllGates m n d.0.0) (sym gates.long) gates.good;
      };
      first = same;
      text =
          inputs.text
          ∙ ap (lines variable_row a.0.0)
          (latches.text ∙ ap (lines variable_row b.0.0) (gates.text ∙ ap (lines mapped_row d.0.0) last));
    }
    )

-- a comment that is not empty is there
comment_is_there : (c : Option (List ℕ)) (n : ℕ) (ns : List ℕ) → unwrap_or c [] ≡ n ∷ ns → c ≡ Some (n ∷ ns)
comment_is_there None n ns h = cc
comment_is_there (Some t) n ns h = ap Some h

-- where the text of such a block stands there, it is read
pub block_is_read : (x : Circuit) (b : MapBlock) (rest : List ℕ) → x.comment ≡ Some (block_text b ++ rest)
    → HasCountsOf b x → IsWithinBounds b → block_reading x ≡ Ok (b, rest)
unfolding block_reading
block_is_read x b rest comment counts within =
    let front : IsFront x (first_of b, behind b rest) =
    record {
      few = within.max_var;
      inputs = counts.inputs;
      latches = counts.latches;
      gates = counts.gates;
      fits = within.counts;
      text = ap (λ (c : Option (List ℕ)). unwrap_or c []) comment ∙ text_by_parts b rest;
    } in
    rw (front_is_read x (first_of b, behind b rest) front) (rest_is_read b rest within)

-- and what is read is such a block
pub block_reads : (x : Circuit) (b : MapBlock) (rest : List ℕ) → block_reading x ≡ Ok (b, rest)
    → (x.comment ≡ Some (block_text b ++ rest)) × HasCountsOf b x × IsWithinBounds b
unfolding block_reading
block_reads x b rest h =
    let a = both_ok _ _ _ h in
    let first : IsFront x a.0 = front_reads x a.0 a.1 in
    let others : IsRest a.0.0 a.0.1 (b, rest) = rest_reads a.0.0 first.few first.fits a.0.1 (b, rest) a.2 in
    let front = subst (λ (f : FirstLine). IsFront x (f, a.0.1)) (sym others.first) first in
    let text = front.text ∙ ap (λ (t : List ℕ). codes "aigmap " ++ line (first_row b) t) others.text in
    let counts : HasCountsOf b x = record { inputs = front.inputs; latches = front.latches; gates = front.gates } in
    (comment_is_there x.comment _ _ text ∙ ap Some (sym (text_by_parts b rest)), counts, others.within)

pub read_is_within : (x : Circuit) (b : MapBlock) (rest : List ℕ) → block_reading x ≡ Ok (b, rest)
    → HasCountsOf b x × IsWithinBounds b
read_is_within x b rest h = let r = block_reads x b rest h in (r.1, r.2)

pub read_is_text : (x : Circuit) (b : MapBlock) (rest : List ℕ) → block_reading x ≡ Ok (b, rest)
    → x.comment ≡ Some (block_text b ++ rest)
read_is_text x b rest h = (block_reads x b rest h).0

-- the rest is the end of the comment
pub read_is_last : (x : Circuit) (b : MapBlock) (rest : List ℕ) → block_reading x ≡ Ok (b, rest)
    → (length rest ≤ length (unwrap_or x.comment []))
    × (drop (length (unwrap_or x.comment []) - length rest) (unwrap_or x.comment []) ≡ rest)
read_is_last x b rest h =
    let text : unwrap_or x.comment [] ≡ block_text b ++ rest =
    ap (λ (c : Option (List ℕ)). unwrap_or c []) (read_is_text x b rest h) in
    let many : length (unwrap_or x.comment []) ≡ length (block_text b) + length rest =
    ap length text ∙ length-append (block_text b) rest in
    (omega arith, rw text (drop_at (block_text b) rest _ (omega (arith, length-append (block_text b) rest))))

-- and that one is the block that is read of the circuit
pub read_is_block : (x : Circuit) (b : MapBlock) (rest : List ℕ) → block_reading x ≡ Ok (b, rest) → block_read x ≡ b
unfolding block_read
read_is_block x b rest h = ap block_in h

-- it fits where no two of its gates have one place
pub read_is_fit : (x : Circuit) (b : MapBlock) (rest : List ℕ) → IsInBinaryOrder x → block_reading x ≡ Ok (b, rest)
    → AreDistinct (places_recorded b.gates) → IsFit b x
read_is_fit x b rest ordered read once =
    let within = read_is_within x b rest read in
    record { ordered = ordered; counts = within.0; bounds = within.1; once = once }

-- what is kept of a block is kept of it for the circuit without a comment too
pub kept_without_comment : (b : MapBlock) (x left : Circuit) (r : Recorded) (by_place : List ℕ)
    → left ≡ without_comment x → IsBlockOf b x r by_place → IsBlockOf b left r by_place
kept_without_comment b x left r by_place bare kept =
    let ordered = kept.fit.ordered in
    let counts = kept.fit.counts in
    subst (λ (y : Circuit). IsBlockOf b y r by_place) (sym bare) (record {
      fit = record {
        ordered = record {
          inputs = ordered.inputs;
          latches = ordered.latches;
          gates = ordered.gates;
          all = ordered.all;
        };
        counts = record { inputs = counts.inputs; latches = counts.latches; gates = counts.gates };
        bounds = kept.fit.bounds;
        once = kept.fit.once;
      };
      placed = kept.placed;
      recorded = kept.recorded;
    })
