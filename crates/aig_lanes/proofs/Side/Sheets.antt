-- The steps of a run, and of the runs of a group, and the characters of literals in all lanes.
use Rattle.std.proofs.Common.{◌≡◌, ◌*◌, ◌<◌, ◌∷◌, ◌∙◌, ◌+◌, ◌++◌, ◌≤◌, ◌≢◌, ◌/◌, ◌%◌, ◌^◌, ℕ, zero, suc, List, []}
use Rattle.std.proofs.Common.{◌-◌, length, map, get_or, set, refl, sym, ap, subst, arith, rules, Option}
use Rattle.std.proofs.Common.{None, Some, drop, is_some, take, true, ap₂, All, drop-drop, length-drop}
use Rattle.std.proofs.Common.{length-take-le, take-take, add-mul, mul-le-mul_right, one-mul, pow_pos, shr-shr}
use Rattle.std.specs.Int.{bit_at}
use Rattle.std.specs.Int.Bits.{bit_and}
use Rattle.std.specs.Simd.Lanes.{zip2}
use Rattle.std.proofs.lemmas.Bool.{cases_lt}
use Rattle.std.proofs.lemmas.List.{drop-take}
use Rattle.std.proofs.lemmas.Nat.{pow_below}
use Rattle.std.proofs.lemmas.Nat.Bits.{and_pow, bit_at_and, bit_at_ones, bit_at-lt}
use Rattle.std.proofs.lemmas.Simd.{length-zip2}
use Rattle.aig_circuit.specs.declared.circuit.Circuit.{Circuit}
use Rattle.aig_circuit.specs.declared.value.Val.{Val}
use Rattle.aig_circuit.specs.declared.value.Val.TheVariants.{Zero, X, One}
use Rattle.aig_meaning.specs.Meaning.{MeansTheSame, literal_value}
use Rattle.aig_meaning.specs.Trace.{IsTrace, reset_state}
use Rattle.aig_meaning.proofs.Traces.{same_meaning_same_traces}
use Rattle.aig_step.specs.Parts.Tables.{placed, read_from}
use Rattle.aig_step.specs.Stimulus.{values_of}
use Rattle.aig_step.specs.TraceText.{values_text, character_of}
use Rattle.aig_step.proofs.Running.Machines.{same_reset_state}
use Rattle.aig_step.proofs.LineValues.{values_length, values_back}
use Rattle.aig_lanes.specs.declared.lane_columns.LaneColumns.{LaneColumns}
use Rattle.aig_lanes.specs.declared.run.Run.{Run}
use Rattle.aig_lanes.specs.declared.run.Trace.{Trace}
use Rattle.aig_places.specs.Tables.{Assigned}
use Rattle.aig_lanes.specs.Parts.Kept.{step_literals}
use Rattle.aig_places.specs.Lanes.{IsLane, bit_in, IsPair}
use Rattle.aig_lanes.specs.Runs.{IsTraceOf, row_of}
use Rattle.aig_lanes.specs.Parts.Vectors.{AreVectors, said, vectors_in}
use Rattle.aig_lanes.specs.Parts.Sheets.{BytesText, bytes_text, character_by}

-- what the parts of a step do in a lane
pub record StepsIn (c : Circuit) (run : Run) (step lane : ℕ) (shown : LaneColumns)
    (table begun table_now state state_now : List (List ℕ)) : Type 0 where
  pub put : (values : List Val) → step < length run.steps → IsLane lane table values
      → IsLane lane begun (placed 1 (get_or run.steps step []) (set values 0 Zero))
  pub assign : (given values start : List Val) → length given ≡ length c.inputs
      → IsLane lane begun (placed 1 given (set values 0 Zero)) → IsLane lane state start
      → Assigned c lane shown.places.count start given (step_literals shown.columns c) shown.literals.items table_now
  pub show : (values start : List Val) → IsLane lane table_now values → IsLane lane state start
      → IsLane lane state_now (map (literal_value (read_from values))
      (drop (length shown.literals.items - length shown.resets.items) shown.literals.items))

-- traces of circuits that mean the same
pub same_trace_of : (c d : Circuit) (run : Run) (trace : Trace) → MeansTheSame c d → IsTraceOf d run trace
    → IsTraceOf c run trace
same_trace_of c d run trace same is =
    subst (λ (first : List Val). IsTrace c first run.steps (map row_of trace.rows)) (same_reset_state c d same)
    ((same_meaning_same_traces c d same (reset_state d) run.steps (map row_of trace.rows)).1 is)

-- The steps of a run, where they stand.

-- a product with one more
pub one_more : (n size : ℕ) → suc n * size ≡ size + n * size
one_more n size = omega arith

pub vectors_count : (inputs stride steps : ℕ) (lines : List ℕ) → length (vectors_in inputs stride steps lines) ≡ steps
vectors_count inputs stride zero lines = refl
vectors_count inputs stride (suc steps) lines = ap suc (vectors_count inputs stride steps (drop stride lines))

-- the line of a step
pub vector_at : (inputs stride steps k : ℕ) (lines : List ℕ) (d : List Val) → k < steps
    → get_or (vectors_in inputs stride steps lines) k d ≡ said (values_of (take inputs (drop (k * stride) lines)))
vector_at inputs stride zero k lines d below = absurd (omega (arith, below))
vector_at inputs stride (suc steps) zero lines d below =
    let none : 0 ≡ 0 * stride = omega arith in ap (λ n. said (values_of (take inputs (drop n lines)))) none
vector_at inputs stride (suc steps) (suc k) lines d below =
    vector_at inputs stride steps k (drop stride lines) d (omega (arith, below))
    ∙ ap (λ ls. said (values_of (take inputs ls)))
    (drop-drop (k * stride) stride lines ∙ ap (λ n. drop n lines) (sym (one_more k stride)))

-- one more step after all others
pub vectors_push : (inputs stride steps : ℕ) (lines : List ℕ) → vectors_in inputs stride (steps + 1) lines
    ≡ vectors_in inputs stride steps lines ++ said (values_of (take inputs (drop (steps * stride) lines))) ∷ []
vectors_push inputs stride zero lines =
    let none : 0 ≡ 0 * stride = omega arith in ap (λ n. said (values_of (take inputs (drop n lines))) ∷ []) none
vectors_push inputs stride (suc steps) lines =
    let next : suc steps + 1 ≡ suc (steps + 1) = omega arith in
    ap (λ n. vectors_in inputs stride n lines) next
    ∙ ap (λ vs. said (values_of (take inputs lines)) ∷ vs)
    (vectors_push inputs stride steps (drop stride lines)
    ∙ ap (λ ls. vectors_in inputs stride steps (drop stride lines) ++ said (values_of (take inputs ls)) ∷ [])
    (drop-drop (steps * stride) stride lines ∙ ap (λ n. drop n lines) (sym (one_more steps stride))))

pub more_vectors : (inputs stride steps : ℕ) (lines : List ℕ) → AreVectors inputs stride steps lines
    → steps * stride + inputs ≤ length lines
    → is_some (values_of (take inputs (drop (steps * stride) lines))) ≡ true
    → AreVectors inputs stride (steps + 1) lines
more_vectors inputs stride steps lines are within good = search (rules, cases_lt, is_some)

pub said_is : (o : Option (List Val)) → is_some o ≡ true → o ≡ Some (said o)
said_is None is = cc
said_is (Some values) is = refl

-- the characters of a step
pub vector_text : (inputs stride steps k : ℕ) (lines : List ℕ) (d : List Val) → AreVectors inputs stride steps lines
    → k < steps
    → take inputs (drop (k * stride) lines) ≡ values_text (get_or (vectors_in inputs stride steps lines) k d)
vector_text inputs stride steps k lines d are below =
    let text = take inputs (drop (k * stride) lines) in
    sym (values_back text (said (values_of text)) (said_is (values_of text) (are.good k below)))
    ∙ ap values_text (sym (vector_at inputs stride steps k lines d below))

-- as many as there are inputs
pub vectors_fit : (inputs stride steps : ℕ) (lines : List ℕ) → AreVectors inputs stride steps lines
    → All (λ (vector : List Val). length vector ≡ inputs) (vectors_in inputs stride steps lines)
vectors_fit inputs stride steps lines are = λ k d below.
    let there : k < steps = omega (arith, below, vectors_count inputs stride steps lines) in
    let rest = drop (k * stride) lines in
    let text = take inputs rest in
    let room : inputs ≤ length rest = omega (arith, are.within k there, length-drop (k * stride) lines) in
    ap length (vector_at inputs stride steps k lines d there)
    ∙ values_length text (said (values_of text)) (said_is (values_of text) (are.good k there))
    ∙ length-take-le inputs rest room

-- The characters of literals in all lanes.

-- a part of both lists
pub zip_take : (f : ℕ → ℕ → ℕ) (n : ℕ) (xs ys : List ℕ) → zip2 f (take n xs) (take n ys) ≡ take n (zip2 f xs ys)
zip_take f zero xs ys = refl
zip_take f (suc n) [] ys = refl
zip_take f (suc n) (x ∷ xs) [] = refl
zip_take f (suc n) (x ∷ xs) (y ∷ ys) = ap (λ (zs : List ℕ). f x y ∷ zs) (zip_take f n xs ys)

zip_none : (f : ℕ → ℕ → ℕ) (xs : List ℕ) → zip2 f xs [] ≡ []
zip_none f [] = refl
zip_none f (x ∷ xs) = refl

pub zip_drop : (f : ℕ → ℕ → ℕ) (n : ℕ) (xs ys : List ℕ) → zip2 f (drop n xs) (drop n ys) ≡ drop n (zip2 f xs ys)
zip_drop f zero xs ys = refl
zip_drop f (suc n) [] ys = refl
zip_drop f (suc n) (x ∷ xs) [] = zip_none f (drop n xs)
zip_drop f (suc n) (x ∷ xs) (y ∷ ys) = zip_drop f n xs ys

-- a byte of a word has its bits
pub byte_bit : (word shift k : ℕ) → k < 8 → bit_at (bit_and (word / 2 ^ shift) 255) k ≡ bit_at word (shift + k)
byte_bit word shift k below =
    let all : bit_at 255 k ≡ 1 = bit_at_ones 8 k below in
    let moved : bit_at (word / 2 ^ shift) k ≡ bit_at word (shift + k) = ap (λ n. n % 2) (shr-shr word shift k) in
    omega (arith, bit_at_and (word / 2 ^ shift) 255 k, all, moved, bit_at-lt word (shift + k))

-- the character of a lane of two planes
pub pair_character : (l : ℕ) (high low : List ℕ) (x : Val) → IsPair l high low x
    → character_by (bit_in l high) (bit_in l low) ≡ character_of x
pair_character l high low Zero is = ap₂ character_by is.one_bit is.zero_bit
pair_character l high low One is = ap₂ character_by is.one_bit is.zero_bit
pair_character l high low X is = ap₂ character_by is.one_bit is.zero_bit

-- a bit times a number that is not 0
no_times : (bit more : ℕ) → 0 < more → bit * more ≡ 0 → bit ≡ 0
no_times zero more some none = refl
no_times (suc n) more some none = absurd (omega (arith, some, none, one_more n more))

some_times : (bit more : ℕ) → bit < 2 → bit * more ≢ 0 → bit ≡ 1
some_times zero more below some = absurd (some (omega arith))
some_times (suc zero) more below some = refl
some_times (suc (suc n)) more below some = absurd (omega (arith, below))

-- a byte has no bit at a place, or has it, by its and with that bit alone
pub no_bit : (byte bit place : ℕ) → bit ≡ 2 ^ place → bit_and byte bit ≡ 0 → bit_at byte place ≡ 0
no_bit byte bit place is none =
    no_times (bit_at byte place) (2 ^ place) (pow_pos place)
    (sym (and_pow byte place) ∙ ap (bit_and byte) (sym is) ∙ none)

pub some_bit : (byte bit place : ℕ) → bit ≡ 2 ^ place → bit_and byte bit ≢ 0 → bit_at byte place ≡ 1
some_bit byte bit place is some =
    some_times (bit_at byte place) (2 ^ place) (bit_at-lt byte place)
    (λ none. some (ap (bit_and byte) is ∙ and_pow byte place ∙ none))

-- the bit of a lane, as a byte
pub shifted_byte : (k : ℕ) → k < 8 → 1 * 2 ^ k % 256 ≡ 2 ^ k
shifted_byte k below = let small : 2 ^ k < 2 ^ 8 = pow_below k 8 below in omega (arith, small)

abbrev pub rows_with : List ℕ → List ℕ → BytesText
rows_with ones zeros = record { ones = ones; zeros = zeros }

-- there is a character for each literal
pub text_long : (place : ℕ) (o : BytesText) → length o.ones ≡ length o.zeros
    → length (bytes_text place o) ≡ length o.ones
text_long place o same =
    length-zip2 (λ (high low : ℕ). character_by (bit_at high place) (bit_at low place)) o.ones o.zeros same

-- a part of what two texts begin with is the same
pub part_same : (from count end : ℕ) (xs ys : List ℕ) → from + count ≤ end → take end xs ≡ take end ys
    → take count (drop from xs) ≡ take count (drop from ys)
part_same from count end xs ys within same =
    sym (drop-take from count xs)
    ∙ ap (drop from)
    (sym (take-take (from + count) end xs within)
    ∙ ap (take (from + count)) same
    ∙ take-take (from + count) end ys within)
    ∙ drop-take from count ys

-- the places of a step are among those of the steps before a later one
pub steps_within : (step end width : ℕ) → step < end → step * width + width ≤ end * width
steps_within step end width below =
    let next = add-mul step 1 width ∙ ap (λ (n : ℕ). step * width + n) (one-mul width) in
    let more : step + 1 ≤ end = omega arith in
    omega (arith, next, mul-le-mul_right {m = step + 1} {n = end} width more)

-- the facts on a part of rows of bytes
pub ruleset written_rows = (text_long, rows_with, zip_take, zip_drop)
