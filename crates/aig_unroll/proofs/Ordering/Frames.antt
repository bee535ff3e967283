-- The frames of an unrolled circuit, one by one and by pieces: how many gates each has.
use Rattle.std.proofs.Common.{◌≡◌, ◌+◌, ◌*◌, ◌<◌, ◌∷◌, ◌∙◌, ◌≤◌, ◌++◌, ◌-◌, ℕ, zero, suc, List, [], length, map, get_or}
use Rattle.std.proofs.Common.{rules, refl, ap, length-append, arith, cond, leb, ap₂, append-nil, drop, sym, take}
use Rattle.std.proofs.Common.{add-one, append_assoc, flat_map, suc-mul, mul-le-mul_right, get_or-append-add}
use Rattle.std.proofs.Common.{length-drop, drop-drop, take-append-drop, length-take-le, take_all}
use Rattle.std.specs.List.{range_with_len, AllByRecursion}
use Rattle.std.proofs.lemmas.List.{length-map, get_or_append_left, drop-append-le, take-append-le, drop_all}
use Rattle.std.proofs.lemmas.List.FromFn.{length-range_with_len}
use Rattle.std.proofs.lemmas.Bool.{cond-true, cond-false}
use Rattle.std.proofs.lemmas.Bool.Decides.{leb_tells}
use Rattle.std.proofs.lemmas.List.Concat.{flat_map-append}
use Rattle.std.proofs.Math.Seq.{drop-append_seam}
use borrow.Rule.Slice.PartMut.{put_mid}
use Rattle.aig_circuit.specs.declared.circuit.Gate.{Gate}
use Rattle.aig_circuit.specs.declared.circuit.Latch.{Latch}
use Rattle.aig_circuit.specs.declared.circuit.Reset.{Reset}
use Rattle.aig_circuit.specs.declared.circuit.Reset.TheVariants as resets
use Rattle.aig_circuit.specs.declared.circuit.Circuit.{Circuit}
use Rattle.aig_circuit.specs.Literal.{literal_of}
use Rattle.aig_circuit.proofs.Checking.{joined}
use Rattle.aig_checked.proofs.Numbered.{range_more}
use Rattle.aig_unroll.specs.Unrolled.{at, bad_at, chain_at, chained, copied, first_bad, first_constraint, first_gate}
use Rattle.aig_unroll.specs.Unrolled.{first_latches, frame_size, gates_at, guarded, latches_at, literal_in, next_of}
use Rattle.aig_unroll.specs.Unrolled.{outputs_at, resets_of, gate_of, all_inputs, uninitialised, unrolled}
use Rattle.aig_unroll.specs.Parts.Frames.{behind_by, IsPutAt}
use Rattle.aig_unroll.specs.Laws.{IsPlainlyUnrolled}

-- a place in a row is within all rows
pub in_row : (n i t rows : ℕ) → i < n → t < rows → t * n + i < rows * n
in_row n i t rows below there =
    let next : suc t * n ≤ rows * n = mul-le-mul_right n there in omega (arith, next, suc-mul t n)

-- and so is the end of a row
pub row_end : (n t rows : ℕ) → t < rows → t * n + n ≤ rows * n
row_end n t rows there =
    let next : suc t * n ≤ rows * n = mul-le-mul_right n there in omega (arith, next, suc-mul t n)

-- one row more
pub one_row_more : {X : Type 0} (f : ℕ → List X) (n : ℕ)
    → flat_map f (range_with_len 0 (n + 1)) ≡ flat_map f (range_with_len 0 n) ++ f n
one_row_more f n = search (rules, range_more, flat_map-append, append-nil)

-- rows of one length
rows_length : {X : Type 0} (f : ℕ → List X) (size : ℕ) → ((t : ℕ) → length (f t) ≡ size) → (s n : ℕ)
    → length (flat_map f (range_with_len s n)) ≡ n * size
rows_length f size same s zero = omega arith
rows_length f size same s (suc n) =
    let later : length (flat_map f (range_with_len (s + 1) n)) ≡ n * size = rows_length f size same (s + 1) n in
    let here : length (f s) ≡ size = same s in
    length-append (f s) (flat_map f (range_with_len (s + 1) n)) ∙ omega (arith, suc-mul n size)

-- what stands at a place of a row
row_read : {X : Type 0} (f : ℕ → List X) (size : ℕ) → ((t : ℕ) → length (f t) ≡ size) → (s n t i : ℕ) (d : X)
    → t < n → i < size → get_or (flat_map f (range_with_len s n)) (t * size + i) d ≡ get_or (f (s + t)) i d
row_read f size same s zero t i d there below = absurd (omega arith)
row_read f size same s (suc n) zero i d there below = search (rules, get_or_append_left)
row_read f size same s (suc n) (suc t) i d there below =
    let rest = flat_map f (range_with_len (s + 1) n) in
    let later : suc t * size + i ≡ length (f s) + (t * size + i) = omega (arith, same s, suc-mul t size) in
    let row : s + 1 + t ≡ s + suc t = omega arith in
    ap (λ k. get_or (f s ++ rest) k d) later
    ∙ get_or-append-add (f s) rest (t * size + i) d
    ∙ row_read f size same (s + 1) n t i d (omega arith) below
    ∙ ap (λ t. get_or (f t) i d) row

-- rows that are the same, and rows that have nothing
same_rows : {X : Type 0} (f g : ℕ → List X) → ((t : ℕ) → f t ≡ g t) → (ts : List ℕ) → flat_map f ts ≡ flat_map g ts
same_rows f g same [] = refl
same_rows f g same (t ∷ ts) = ap₂ (λ xs ys. xs ++ ys) (same t) (same_rows f g same ts)

no_rows : {X : Type 0} (f : ℕ → List X) → ((t : ℕ) → f t ≡ []) → (ts : List ℕ) → flat_map f ts ≡ []
no_rows f none [] = refl
no_rows f none (t ∷ ts) = ap₂ (λ xs ys. xs ++ ys) (none t) (no_rows f none ts)

-- what holds of each row's elements holds of all
pub all_rows : {X : Type 0} (P : X → Type 0) (f : ℕ → List X) (rows s n : ℕ)
    → ((t : ℕ) → t < rows → AllByRecursion P (f t)) → s + n ≤ rows
    → AllByRecursion P (flat_map f (range_with_len s n))
all_rows P f rows s zero each fits = tt
all_rows P f rows s (suc n) each fits =
    joined P (f s) (flat_map f (range_with_len (s + 1) n)) (each s (omega arith))
    (all_rows P f rows (s + 1) n each (omega arith))

-- what holds of each element and of what is read outside holds of what is read anywhere
pub read_anywhere : {X : Type 0} (P : X → Type 0) (d : X) → P d → (xs : List X) → AllByRecursion P xs → (i : ℕ)
    → P (get_or xs i d)
read_anywhere P d outside [] all i = outside
read_anywhere P d outside (x ∷ xs) all zero = all.0
read_anywhere P d outside (x ∷ xs) all (suc i) = read_anywhere P d outside xs all.1 i

-- a choice by the order of two numbers
pub by_order : {X : Type 0} (P : X → Type 0) (a b : ℕ) (x y : X) → (a ≤ b → P x) → (b < a → P y)
    → P (cond (leb a b) x y)
by_order P a b x y within above = search (rules, cond-true, cond-false, leb_tells)

copied_length : (f : ℕ → ℕ) (v : ℕ) (gs : List Gate) → length (copied f v gs) ≡ length gs
copied_length f v [] = refl
copied_length f v (g ∷ gs) = ap suc (copied_length f (v + 1) gs)

chained_length : (v chain : ℕ) (xs : List ℕ) → length (chained v chain xs) ≡ length xs
chained_length v chain [] = refl
chained_length v chain (x ∷ xs) = ap suc (chained_length (v + 1) (literal_of v) xs)

guarded_length : (v chain : ℕ) (xs : List ℕ) → length (guarded v chain xs) ≡ length xs
guarded_length v chain [] = refl
guarded_length v chain (x ∷ xs) = ap suc (guarded_length (v + 1) chain xs)

first_length : (v : ℕ) (rs : List Reset) → length (first_latches v rs) ≡ length rs
first_length v [] = refl
first_length v (resets.Zero ∷ rs) = ap suc (first_length v rs)
first_length v (resets.One ∷ rs) = ap suc (first_length v rs)
first_length v (resets.Uninit ∷ rs) = ap suc (first_length (v + 1) rs)

module _ (c : Circuit) (frames : ℕ) where
  -- where the next frame's gates begin
  pub next_gate : (t : ℕ) → first_gate c frames (suc t) ≡ first_gate c frames t + frame_size c
  next_gate t = let more : suc t * frame_size c ≡ t * frame_size c + frame_size c = suc-mul t (frame_size c) in
      omega (arith, more)

  abbrev copies : ℕ → List Gate
  copies t = copied (at c frames t) (first_gate c frames t) c.gates

  abbrev chain : ℕ → List Gate
  chain t = chained (first_constraint c frames t) (chain_at c frames t) (map (at c frames t) c.constraints)

  abbrev guards : ℕ → List Gate
  guards t = guarded (first_bad c frames t) (chain_at c frames (suc t)) (map (at c frames t) c.bad)

  pub copies_length : (t : ℕ) → length (copies t) ≡ length c.gates
  copies_length t = copied_length (at c frames t) (first_gate c frames t) c.gates

  pub chain_length : (t : ℕ) → length (chain t) ≡ length c.constraints
  chain_length t =
      chained_length (first_constraint c frames t) (chain_at c frames t) (map (at c frames t) c.constraints)
      ∙ length-map c.constraints (at c frames t)

  guards_length : (t : ℕ) → length (guards t) ≡ length c.bad
  guards_length t =
      guarded_length (first_bad c frames t) (chain_at c frames (suc t)) (map (at c frames t) c.bad)
      ∙ length-map c.bad (at c frames t)

  -- how many gates a frame has
  pub frame_length : (t : ℕ) → length (gates_at c frames t) ≡ frame_size c
  frame_length t = search (rules, length-append, copies_length, chain_length, guards_length)

  -- where a frame's gates stand among those of all frames
  pub gate_stands : (n t i : ℕ) (d : Gate) → t < n → i < frame_size c
      → get_or (flat_map (gates_at c frames) (range_with_len 0 n)) (t * frame_size c + i) d
      ≡ get_or (gates_at c frames t) i d
  gate_stands n t i d there below = search (rules, row_read, frame_length)

  -- each frame has a literal for each latch
  pub latches_length : (t : ℕ) → length (latches_at c frames t) ≡ length c.latches
  latches_length zero = first_length 1 (resets_of c) ∙ length-map c.latches (λ (l : Latch). l.reset)
  latches_length (suc t) =
      length-map (next_of c) (literal_in c frames t (latches_at c frames t))
      ∙ length-map c.latches (λ (l : Latch). l.next)

  -- how many of each there are in so many frames
  pub gates_length : (s n : ℕ) → length (flat_map (gates_at c frames) (range_with_len s n)) ≡ n * frame_size c
  gates_length = rows_length (gates_at c frames) (frame_size c) frame_length

  pub outputs_length : (s n : ℕ) → length (flat_map (outputs_at c frames) (range_with_len s n)) ≡ n * length c.outputs
  outputs_length = rows_length (outputs_at c frames) (length c.outputs) (λ t. length-map c.outputs (at c frames t))

  pub bad_length : (s n : ℕ) → length (flat_map (bad_at c frames) (range_with_len s n)) ≡ n * length c.bad
  bad_length = search (rules, rows_length, length-map, length-range_with_len)

-- The gates of a frame by pieces: some of the copies, and what is after them all.

-- copies of the gates after some, and of those before some
copied_behind : (f : ℕ → ℕ) (k v : ℕ) (gs : List Gate) → copied f (v + k) (drop k gs) ≡ drop k (copied f v gs)
copied_behind f zero v gs = let same : v + 0 ≡ v = omega arith in ap (λ w. copied f w gs) same
copied_behind f (suc k) v [] = refl
copied_behind f (suc k) v (g ∷ gs) =
    let same : v + suc k ≡ v + 1 + k = omega arith in
    ap (λ w. copied f w (drop k gs)) same ∙ copied_behind f k (v + 1) gs

copied_before : (f : ℕ → ℕ) (k v : ℕ) (gs : List Gate) → copied f v (take k gs) ≡ take k (copied f v gs)
copied_before f zero v gs = refl
copied_before f (suc k) v [] = refl
copied_before f (suc k) v (g ∷ gs) =
    ap (λ xs. gate_of v (f g.left) (f g.right) ∷ xs) (copied_before f k (v + 1) gs)

module _ (c : Circuit) (frames t : ℕ) where
  abbrev gate_copies : List Gate
  gate_copies = copied (at c frames t) (first_gate c frames t) c.gates

  abbrev behind : List Gate
  behind = behind_by (at c frames t) (first_gate c frames t) (chain_at c frames t) c

  -- the copies of so many gates from one of them on
  pub piece_stands : (from n : ℕ) → from + n ≤ length c.gates
      → copied (at c frames t) (first_gate c frames t + from) (take n (drop from c.gates))
      ≡ take n (drop from (gates_at c frames t))
  piece_stands from n fits =
      let size : length gate_copies ≡ length c.gates = copies_length c frames t in
      copied_before (at c frames t) n (first_gate c frames t + from) (drop from c.gates)
      ∙ ap (take n) (copied_behind (at c frames t) from (first_gate c frames t) c.gates)
      ∙ sym (ap (take n) (drop-append-le from gate_copies behind (omega (arith, size, fits)))
      ∙ take-append-le n (drop from gate_copies) behind (omega (arith, length-drop from gate_copies, size, fits)))

  -- what is after them
  pub behind_stands : behind ≡ drop (length c.gates) (gates_at c frames t)
  behind_stands =
      sym (ap (λ n. drop n (gates_at c frames t)) (sym (copies_length c frames t))
      ∙ drop-append_seam gate_copies behind)

-- Lists of which parts were written.

-- the last part
last_put : {X : Type 0} (b : ℕ) (xs ys : List X) → put_mid b (length xs - b) xs ys ≡ take b xs ++ ys
last_put b xs ys = search (rules, drop_all, length-drop, append-nil)

-- two parts, of which the first was put in front, and the second after it
pub two_put : {X : Type 0} (a : ℕ) (xs ys zs : List X) → length ys ≡ a
    → put_mid a (length (ys ++ drop a xs) - a) (ys ++ drop a xs) zs ≡ ys ++ zs
two_put a xs ys zs first = search (rules, take-append-le, take_all, last_put)

-- what begins at one place: up to a later one, and from there on
pub joined_there : {X : Type 0} (m n : ℕ) (xs : List X) → m ≤ n → take (n - m) (drop m xs) ++ drop n xs ≡ drop m xs
joined_there m n xs fits =
    let same : n ≡ m + (n - m) = omega (arith, fits) in
    ap (λ k. take (n - m) (drop m xs) ++ drop k xs) same
    ∙ ap (λ ys. take (n - m) (drop m xs) ++ ys) (sym (drop-drop (n - m) m xs))
    ∙ take-append-drop (n - m) (drop m xs)

-- One frame more was written after those before it.
pub frame_put : {X : Type 0} (f : ℕ → List X) (width t : ℕ) (before after : List X) → IsPutAt f width t before after
    → length (f t) ≡ width → t * width ≤ length before → take (t * width) before ≡ flat_map f (range_with_len 0 t)
    → take ((t + 1) * width) after ≡ flat_map f (range_with_len 0 (t + 1))
frame_put f width t before after put size fits done =
    search (
      rules,
      add-one,
      suc-mul,
      length-append,
      length-take-le,
      append_assoc,
      take-append-le,
      take_all,
      one_row_more,
    )

-- Without bad states and constraints, and with all latches at 0 first, frames are copies of inputs, gates and outputs.
none_uninitialised : (rs : List Reset) → AllByRecursion (λ (r : Reset). r ≡ resets.Zero) rs → uninitialised rs ≡ 0
none_uninitialised [] all = refl
none_uninitialised (resets.Zero ∷ rs) all = none_uninitialised rs all.1
none_uninitialised (resets.One ∷ rs) all = let starts : resets.One ≡ resets.Zero = all.0 in cc
none_uninitialised (resets.Uninit ∷ rs) all = let starts : resets.Uninit ≡ resets.Zero = all.0 in cc

module _ (c : Circuit) (frames : ℕ) (zeros : AllByRecursion (λ (r : Reset). r ≡ resets.Zero) (resets_of c))
    (no_bad : c.bad ≡ []) (no_constraints : c.constraints ≡ []) where
  inputs_are : all_inputs c frames ≡ frames * length c.inputs
  inputs_are = omega (arith, none_uninitialised (resets_of c) zeros)

  size_is : frame_size c ≡ length c.gates
  size_is = let bads : length c.bad ≡ 0 = ap length no_bad in
      let constraints : length c.constraints ≡ 0 = ap length no_constraints in omega arith

  abbrev start : ℕ → ℕ
  start t = 1 + frames * length c.inputs + t * length c.gates

  start_is : (t : ℕ) → first_gate c frames t ≡ start t
  start_is t = ap₂ (λ m n. 1 + m + t * n) inputs_are size_is

  gates_are : (t : ℕ) → gates_at c frames t ≡ copied (at c frames t) (start t) c.gates
  gates_are t = search (rules, append-nil, start_is)

  bad_is : (t : ℕ) → bad_at c frames t ≡ []
  bad_is t = ap (λ (bs : List ℕ). map literal_of (range_with_len (first_bad c frames t) (length bs))) no_bad

  pub plainly_unrolled : IsPlainlyUnrolled c frames (unrolled c frames)
  plainly_unrolled = search (rules, inputs_are, size_is, same_rows, gates_are, no_rows, bad_is)
