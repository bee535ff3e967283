-- Which sections are those of a circuit whose variables are numbered in order.
use Rattle.std.proofs.Common.{◌≡◌, ◌+◌, ◌≤◌, ◌++◌, ◌∙◌, ℕ, List, length, map, take}
use Rattle.std.proofs.Common.{drop}
use Rattle.std.proofs.Common.{refl, ap, arith, sym, true, length-append, flat_map}
use Rattle.std.specs.List.{AllByRecursion, concat}
use Rattle.std.proofs.lemmas.Bool.Decides.{nat_tests}
use Rattle.std.proofs.lemmas.List.{append_assoc, length-drop, length-map, length-take, take-append-drop}
use Rattle.std.proofs.lemmas.List.Elements.{All-from_recursion, recursion_from_All}
use Rattle.aig_arrays.specs.Decoded.{are_in_range}
use Rattle.aig_arrays.specs.Words.{section_length, section_words}
use Rattle.aig_arrays.specs.declared.counts.Counts.{Counts}
use Rattle.aig_checked.proofs.Numbered.{all_numbered, by_numbered, all_up_to, numbered_well_formed}
use Rattle.aig_checked.specs.BinaryOrder.{IsNumberedInOrder}
use Rattle.aig_checked.specs.Parts.Numbered.{AreSectionsNumbered}
use Rattle.aig_checked.proofs.Numbered.{HasLiteralsUpTo}
use Rattle.aig_circuit.proofs.Checking.{back, front, in_range, joined, well_formed_in_form}
use Rattle.aig_circuit.specs.Form.{IsInForm, IsLiteralUpTo}
use Rattle.aig_circuit.specs.Literal.{variable_of}
use Rattle.aig_circuit.specs.Wellformed.{IsWithinLimits, largest_index, literal_lists, operands}
use Rattle.aig_circuit.specs.declared.circuit.Circuit.{Circuit}
use Rattle.aig_circuit.specs.declared.circuit.Latch.{Latch}
use Rattle.aig_rows.specs.Rows.{gate_row, latch_row}
use Rattle.aig_array_steps.proofs.BySection.{AreTheSame, one_cut, section_words_are, words_by_section}
use Rattle.aig_array_steps.proofs.Threes.{gate_rows_again, gate_words, gates_numbered, input_rows_again, input_words}
use Rattle.aig_array_steps.proofs.Threes.{input_words_length, inputs_numbered, latch_rows_again, latch_words}
use Rattle.aig_array_steps.proofs.Threes.{latches_numbered, next_up_to, rows_length, threes_length}
use Rattle.aig_array_steps.specs.Parts.Words.{AreAsLong, AreOrdered}
use Rattle.aig_array_steps.specs.Parts.Words.{AreSections, SectionWords, all_words, circuit_in, gate_in}
use Rattle.aig_array_steps.specs.Parts.Words.{highest_literal, latch_in}
use Rattle.aig_array_steps.specs.Step.{HasSections, IsDecoded, IsStepOf, IsStepped, TellsNumbered}

-- what it is for counts to be in range
record AreWithin (n : Counts) : Type 0 where
  max_var : n.max_var ≤ largest_index
  inputs : n.inputs ≤ largest_index
  latches : n.latches ≤ largest_index
  outputs : n.outputs ≤ largest_index
  bad : n.bad ≤ largest_index
  constraints : n.constraints ≤ largest_index
  justice : n.justice ≤ largest_index
  justice_literals : n.justice_literals ≤ largest_index
  fairness : n.fairness ≤ largest_index
  gates : n.gates ≤ largest_index

counts_within : (n : Counts) → are_in_range n ≡ true → AreWithin n
counts_within n h = grind (arith, nat_tests, h)

-- The circuit of sections that are right is decoded.
module _ (n : Counts) (s : SectionWords) (long : AreAsLong n s) (o : AreOrdered n s) where
  abbrev c : Circuit
  c = circuit_in n s

  pub inputs_are : length c.inputs ≡ n.inputs
  inputs_are = length-map s.inputs variable_of ∙ long.inputs

  pub latches_are : length c.latches ≡ n.latches
  latches_are = threes_length latch_in s.latches n.latches long.latches

  gates_are : length c.gates ≡ n.gates
  gates_are = threes_length gate_in s.gates n.gates long.gates

  outputs_are : length c.outputs ≡ n.outputs
  outputs_are = omega (arith, length-take n.outputs s.shown, long.shown)

  bad_are : length c.bad ≡ n.bad
  bad_are = omega (arith, length-take n.bad (drop n.outputs s.shown), length-drop n.outputs s.shown, long.shown)

  constraints_are : length c.constraints ≡ n.constraints
  constraints_are =
      omega (arith, length-drop n.bad (drop n.outputs s.shown), length-drop n.outputs s.shown, long.shown)

  literals_are : length c.justice.literals ≡ n.justice_literals
  literals_are = omega (arith, length-take n.justice_literals s.unshown, long.unshown)

  fairness_are : length c.fairness ≡ n.fairness
  fairness_are = omega (arith, length-drop n.justice_literals s.unshown, long.unshown)

  sections_numbered : AreSectionsNumbered c
  sections_numbered = record {
    first = record {
      all = omega (arith, o.all, inputs_are, latches_are, gates_are);
      inputs = inputs_numbered 1 s.inputs o.defined.inputs;
      latches = rw inputs_are (latches_numbered (highest_literal n) (1 + n.inputs) s.latches o.defined.latches);
    };
    gates = rw (inputs_are, latches_are) (gates_numbered (1 + n.inputs + n.latches) s.gates o.defined.gates);
  }

  pub numbered : IsNumberedInOrder c
  numbered = by_numbered c sections_numbered

  pub shown_again : c.outputs ++ c.bad ++ c.constraints ≡ s.shown
  shown_again =
      append_assoc c.outputs c.bad c.constraints
      ∙ ap (λ xs. c.outputs ++ xs) (take-append-drop n.bad (drop n.outputs s.shown))
      ∙ take-append-drop n.outputs s.shown

  unshown_again : c.justice.literals ++ c.fairness ≡ s.unshown
  unshown_again = take-append-drop n.justice_literals s.unshown

  abbrev UpTo : List ℕ → Type 0
  UpTo = AllByRecursion (IsLiteralUpTo n.max_var)

  all_shown : UpTo (c.outputs ++ c.bad ++ c.constraints)
  all_shown = rw shown_again (recursion_from_All (IsLiteralUpTo n.max_var) s.shown o.listed.shown)

  all_unshown : UpTo (c.justice.literals ++ c.fairness)
  all_unshown = rw unshown_again (recursion_from_All (IsLiteralUpTo n.max_var) s.unshown o.listed.unshown)

  up_to : HasLiteralsUpTo c
  up_to =
      let P : ℕ → Type 0 = IsLiteralUpTo n.max_var in
      let first : UpTo (c.outputs ++ c.bad) = front P (c.outputs ++ c.bad) c.constraints all_shown in (
        next_up_to n.max_var (1 + n.inputs) s.latches o.defined.latches,
        (
          front P c.outputs c.bad first,
          (
            back P c.outputs c.bad first,
            (
              back P (c.outputs ++ c.bad) c.constraints all_shown,
              (
                front P c.justice.literals c.fairness all_unshown,
                (back P c.justice.literals c.fairness all_unshown, tt),
              ),
            ),
          ),
        ),
      )

  again : section_words c ≡ all_words s
  again =
      let bound = highest_literal n in
      let inputs = input_rows_again 1 s.inputs o.defined.inputs in
      let latches = latch_rows_again bound (1 + n.inputs) s.latches n.latches long.latches o.defined.latches in
      let gates = gate_rows_again (1 + n.inputs + n.latches) s.gates n.gates long.gates o.defined.gates in
      section_words_are c ∙ cc (inputs, latches, gates, shown_again, unshown_again)

  limits : are_in_range n ≡ true → IsWithinLimits c
  limits range =
      let r = counts_within n range in
      record {
        max_var = r.max_var;
        inputs = omega (arith, r.inputs, inputs_are);
        latches = omega (arith, r.latches, latches_are);
        literals = (
          omega (arith, r.outputs, outputs_are),
          (
            omega (arith, r.bad, bad_are),
            (
              omega (arith, r.constraints, constraints_are),
              (
                omega (arith, r.justice_literals, literals_are),
                (omega (arith, r.fairness, fairness_are), tt),
              ),
            ),
          ),
        );
        justice = omega (arith, r.justice, long.sizes);
        sizes = o.listed.sizes ∙ sym literals_are;
        gates = omega (arith, r.gates, gates_are);
      }

  tells : (words : List ℕ) → HasSections n words → take (section_length n) words ≡ all_words s
      → TellsNumbered n words c
  tells words has words_are = record {
    well_formed =
        numbered_well_formed c numbered (all_up_to c numbered up_to) (limits has.0)
        (record { positions = tt; apart = tt; lines = tt });
    numbered = numbered;
    bare = (refl, refl);
    counts = cc (
      inputs_are,
      latches_are,
      outputs_are,
      bad_are,
      constraints_are,
      long.sizes,
      literals_are,
      fairness_are,
      gates_are,
    );
    words_are = words_are ∙ sym again;
  }

-- What is decoded has sections that are right.
module _ (n : Counts) (words : List ℕ) (s : SectionWords) (sections : AreSections n words s) (c : Circuit)
    (t : TellsNumbered n words c) where
  inputs_is : n.inputs ≡ length c.inputs
  inputs_is = ap (λ (m : Counts). m.inputs) t.counts

  latches_is : n.latches ≡ length c.latches
  latches_is = ap (λ (m : Counts). m.latches) t.counts

  max_is : n.max_var ≡ c.max_var
  max_is = ap (λ (m : Counts). m.max_var) t.counts

  outputs_is : n.outputs ≡ length c.outputs
  outputs_is = ap (λ (m : Counts). m.outputs) t.counts

  bad_is : n.bad ≡ length c.bad
  bad_is = ap (λ (m : Counts). m.bad) t.counts

  constraints_is : n.constraints ≡ length c.constraints
  constraints_is = ap (λ (m : Counts). m.constraints) t.counts

  literals_is : n.justice_literals ≡ length c.justice.literals
  literals_is = ap (λ (m : Counts). m.justice_literals) t.counts

  fairness_is : n.fairness ≡ length c.fairness
  fairness_is = ap (λ (m : Counts). m.fairness) t.counts

  gates_is : n.gates ≡ length c.gates
  gates_is = ap (λ (m : Counts). m.gates) t.counts

  as_long : AreAsLong n (words_by_section c)
  as_long = record {
    inputs = input_words_length c.inputs ∙ sym inputs_is;
    latches = omega (arith, rows_length latch_row (λ l. refl) c.latches, latches_is);
    shown = simp length-append (omega (arith, outputs_is, bad_is, constraints_is));
    sizes = sym (ap (λ (m : Counts). m.justice) t.counts);
    unshown = simp length-append (omega (arith, literals_is, fairness_is));
    gates = omega (arith, rows_length gate_row (λ g. refl) c.gates, gates_is);
  }

  same : AreTheSame s (words_by_section c)
  same =
      one_cut n s (words_by_section c) sections.long as_long
      (sym sections.words_are ∙ t.words_are ∙ section_words_are c)

  decoded_sections : AreSectionsNumbered c
  decoded_sections = all_numbered c t.numbered

  form : IsInForm c
  form = well_formed_in_form c t.well_formed

  abbrev Up : ℕ → Type 0
  Up = IsLiteralUpTo c.max_var

  lists_up_to : AllByRecursion (AllByRecursion Up) (literal_lists c)
  lists_up_to = (in_range c form).literals

  nexts_up_to : AllByRecursion Up (map (λ (l : Latch). l.next) c.latches)
  nexts_up_to =
      front Up (map (λ (l : Latch). l.next) c.latches) (concat (literal_lists c))
      (front Up (map (λ (l : Latch). l.next) c.latches ++ concat (literal_lists c)) (flat_map operands c.gates)
      form.literals)

  pub ordered : AreOrdered n s
  ordered =
      record {
        all = omega (arith, t.numbered.all, max_is, inputs_is, latches_is, gates_is);
        defined = record {
          inputs = rw same.inputs (input_words 1 c.inputs decoded_sections.first.inputs);
          latches = rw (same.latches, inputs_is, max_is)
              (latch_words c.max_var (1 + length c.inputs) c.latches decoded_sections.first.latches nexts_up_to);
          gates = rw (same.gates, inputs_is, latches_is)
              (gate_words (1 + length c.inputs + length c.latches) c.gates decoded_sections.gates);
        };
        listed = record {
          shown = rw (same.shown, max_is)
              (All-from_recursion Up (c.outputs ++ c.bad ++ c.constraints)
              (joined Up (c.outputs ++ c.bad) c.constraints
              (joined Up c.outputs c.bad lists_up_to.0 lists_up_to.1.0) lists_up_to.1.1.0));
          unshown = rw (same.unshown, max_is)
              (All-from_recursion Up (c.justice.literals ++ c.fairness)
              (joined Up c.justice.literals c.fairness lists_up_to.1.1.1.0 lists_up_to.1.1.1.1.0));
          sizes = rw same.sizes
              (t.well_formed.limits.sizes ∙ sym literals_is);
        };
      }

pub sections_are_right : (n : Counts) (words : List ℕ) (s : SectionWords) → AreSections n words s → IsDecoded n words
    → AreOrdered n s
sections_are_right n words s sections decoded = ordered n words s sections decoded.0 decoded.1

pub some_is_decoded : (n : Counts) (words : List ℕ) (s : SectionWords) → HasSections n words → AreSections n words s
    → AreOrdered n s → IsDecoded n words
some_is_decoded n words s has sections o = (circuit_in n s, tells n s sections.long o words has sections.words_are)

pub step_is_of : (n : Counts) (words : List ℕ) (s : SectionWords) (before after : List ℕ) → HasSections n words
    → AreSections n words s → AreOrdered n s → IsStepped (circuit_in n s) before after
    → IsStepOf n words before after
step_is_of n words s before after has sections o stepped = record {
  c = circuit_in n s;
  tells = tells n s sections.long o words has sections.words_are;
  stepped = stepped;
  sections = has;
}
