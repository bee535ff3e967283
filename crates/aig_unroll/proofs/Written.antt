-- The text of an unrolled circuit, frame by frame.
use Rattle.std.proofs.Common.{◌≡◌, ◌+◌, ◌*◌, ◌<◌, ◌++◌, ◌∙◌, ◌∷◌, ℕ, List, [], ap, ap₂, arith, subst, sym}
use Rattle.std.proofs.Common.{refl, rules, append-nil, append_assoc, drop, length, take}
use Rattle.std.proofs.Common.{All, flat_map, take-add, take-append-drop}
use Rattle.std.specs.List.{range_with_len}
use Rattle.std.proofs.lemmas.List.Concat.{flat_map-append}
use Rattle.std.proofs.lemmas.List.FromFn.{length-range_with_len}
use Rattle.aig_circuit.specs.declared.circuit.Circuit.{Circuit}
use Rattle.aig_checked.specs.BinaryOrder.{IsInBinaryOrder}
use Rattle.aig_circuit.specs.Wellformed.{IsWellFormed}
use Rattle.aig_circuit.specs.declared.circuit.Gate.{Gate}
use Rattle.aig_checked.proofs.Numbered.{range_more}
use Rattle.aig_io.specs.Output.{Appended, Out}
use Rattle.aig_io.proofs.Puts.{put_twice}
use Rattle.aig_text.specs.AsciiText.{ascii_text, header_text, line_text}
use Rattle.aig_text.specs.Sections.{ascii_word, header_row, literal_rows_of, rows_of}
use Rattle.aig_text.proofs.Written.{literal_sections_text, sections_text}
use Rattle.aig_binary.specs.BinaryGrammar.{binary_word}
use Rattle.aig_binary.specs.BinaryText.{HasDeltas, binary_text, gate_text}
use Rattle.aig_binary.proofs.Files.{has_deltas, lines_text}
use Rattle.aig_unroll.specs.Unrolled.{IsTooLarge, frame_size, gates_at, unrolled, all_inputs, bad_at, outputs_at}
use Rattle.aig_unroll.specs.Parts.Frames.{Frame, circuit_with}
use Rattle.aig_unroll.specs.Parts.Writing.{gate_lines, input_lines, literal_lines}
use Rattle.aig_unroll.proofs.Ordering.Frames.{frame_length, gate_stands, gates_length, in_row, one_row_more}
use Rattle.aig_unroll.proofs.Ordering.Ordered.{unrolled_ordered, unrolled_well_formed}

module _ {W : Type 0} where
  -- the texts of so many frames, and that of the next one
  pub frame_more : {X : Type 0} (f : Circuit → ℕ → ℕ → List X) (text : X → List ℕ) (copies now : Frame) (t : ℕ)
      (a b c : Out W) → now ≡ record copies { frame = now.frame }
      → Appended a b (flat_map text (flat_map (f copies.circuit copies.frames) (range_with_len 0 t)))
      → Appended b c (flat_map text (f now.circuit now.frames t))
      → Appended a c (flat_map text (flat_map (f copies.circuit copies.frames) (range_with_len 0 (t + 1))))
  frame_more {X} f text copies now t a b c kept p q =
      let items : ℕ → List X = f copies.circuit copies.frames in
      let before = flat_map items (range_with_len 0 t) in
      subst (λ (whole : List ℕ). Appended a c whole)
      (sym (ap (flat_map text) (one_row_more items t) ∙ flat_map-append text before (items t)))
      (put_twice a b c (flat_map text before) (flat_map text (items t)) p
      (subst (λ (xs : List X). Appended b c (flat_map text xs)) (ap (λ (k : Frame). f k.circuit k.frames t) kept) q))

  -- the texts of some items, and those of the next ones
  pub piece_more : {X : Type 0} (text : X → List ℕ) (xs : List X) (at count : ℕ) (a b c : Out W)
      → Appended a b (flat_map text (take at xs)) → Appended b c (flat_map text (take count (drop at xs)))
      → Appended a c (flat_map text (take (at + count) xs))
  piece_more text xs at count a b c p q = search (rules, take-add, flat_map-append, put_twice)

  -- the texts of the first items, and those of all others
  pub rest_more : {X : Type 0} (text : X → List ℕ) (xs : List X) (at : ℕ) (a b c : Out W)
      → Appended a b (flat_map text (take at xs)) → Appended b c (flat_map text (drop at xs))
      → Appended a c (flat_map text xs)
  rest_more text xs at a b c p q =
      subst (λ t. Appended a c t) (sym (flat_map-append text (take at xs) (drop at xs))
      ∙ ap (flat_map text) (take-append-drop at xs)) (put_twice a b c _ _ p q)

  -- the texts of so many variables, and that of the next one
  pub variable_more : (text : ℕ → List ℕ) (first n : ℕ) (a b c : Out W)
      → Appended a b (flat_map text (range_with_len first n)) → Appended b c (text (first + n))
      → Appended a c (flat_map text (range_with_len first (n + 1)))
  variable_more text first n a b c p q = search (rules, range_more, flat_map-append, append-nil, put_twice)

-- where no frame has anything, all together have nothing
pub none_in_any : {X : Type 0} (items : ℕ → List X) → ((t : ℕ) → items t ≡ []) → (ts : List ℕ)
    → flat_map items ts ≡ []
none_in_any items none [] = refl
none_in_any {X} items none (t ∷ ts) = ap₂ (λ (a b : List X). a ++ b) (none t) (none_in_any items none ts)

-- Whatever frame it is in, the unrolled circuit is the same.
pub same_circuit : (f g : Frame) → g ≡ record f { frame = g.frame }
    → unrolled g.circuit g.frames ≡ unrolled f.circuit f.frames
same_circuit f g moved = ap (λ (k : Frame). unrolled k.circuit k.frames) moved

module _ (c : Circuit) (frames : ℕ) where
  abbrev d : Circuit
  d = unrolled c frames

  -- the lines of literals are those of outputs and of bad states
  literals_text : literal_lines d.outputs ++ literal_lines d.bad ≡ flat_map line_text (literal_rows_of d)
  literals_text =
      ap (λ (text : List ℕ). literal_lines d.outputs ++ text) (sym (append-nil (literal_lines d.bad)))
      ∙ literal_sections_text d

  pub ascii_parts : header_text ascii_word (header_row d)
      ++ (input_lines d.inputs ++ (literal_lines d.outputs ++ (literal_lines d.bad ++ gate_lines d.gates)))
      ≡ ascii_text d
  unfolding ascii_text
  ascii_parts =
      let rest = ap (λ (text : List ℕ). input_lines d.inputs ++ text)
      (sym (append_assoc (literal_lines d.outputs) (literal_lines d.bad) (gate_lines d.gates))
      ∙ ap (λ (text : List ℕ). text ++ gate_lines d.gates) literals_text)
      ∙ sections_text d ∙ sym (append-nil (flat_map line_text (rows_of d))) in
      ap (λ (text : List ℕ). header_text ascii_word (header_row d) ++ text) rest

  pub binary_parts : header_text binary_word (header_row d)
      ++ (literal_lines d.outputs ++ (literal_lines d.bad ++ flat_map gate_text d.gates))
      ≡ binary_text d
  unfolding binary_text
  binary_parts = search (rules, append_assoc, literals_text, lines_text, append-nil)

  -- each gate of a frame has its deltas, as each gate of the unrolled circuit
  pub frame_has_deltas : IsWellFormed c → IsInBinaryOrder c → ¬ IsTooLarge c frames → (t : ℕ) → t < frames
      → All HasDeltas (gates_at c frames t)
  frame_has_deltas formed ordered fits t there i default below =
      let within : i < frame_size c = omega (arith, below, frame_length c frames t) in
      let place : t * frame_size c + i < frames * frame_size c = in_row (frame_size c) i t frames within there in
      subst HasDeltas (gate_stands c frames frames t i default there within)
      (has_deltas d (unrolled_well_formed c frames formed ordered fits).limits
      (unrolled_ordered c frames formed ordered)
      (t * frame_size c + i) default (omega (arith, place, gates_length c frames 0 frames)))

module _ (c : Circuit) (frames : ℕ) (inputs outputs bad : List ℕ) (gates : List Gate)
    (inputs_are : inputs ≡ range_with_len 1 (all_inputs c frames)) (size : length gates ≡ frames * frame_size c) where
  pub variables_are : length inputs + length gates ≡ all_inputs c frames + frames * frame_size c
  variables_are = omega (arith, ap length inputs_are, length-range_with_len 1 (all_inputs c frames), size)

  pub is_unrolled : outputs ≡ flat_map (outputs_at c frames) (range_with_len 0 frames)
      → bad ≡ flat_map (bad_at c frames) (range_with_len 0 frames)
      → gates ≡ flat_map (gates_at c frames) (range_with_len 0 frames)
      → circuit_with inputs outputs bad gates ≡ unrolled c frames
  is_unrolled outputs_are bad_are gates_are = search (rules, variables_are)
