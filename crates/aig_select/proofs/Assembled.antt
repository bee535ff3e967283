-- What is made of a plan is the selection.
use Rattle.std.proofs.Common.{◌≡◌, ◌∙◌, ℕ, List, Bool, None}
use Rattle.std.proofs.Common.{sym, ap}
use Rattle.aig_circuit.specs.declared.circuit.Gate.{Gate}
use Rattle.aig_circuit.specs.declared.circuit.Latch.{Latch}
use Rattle.aig_circuit.specs.declared.circuit.Circuit.{Circuit}
use Rattle.aig_circuit.specs.declared.circuit.Symbol.{Symbol}
use Rattle.aig_select.specs.declared.choice.Choice.{Choice}
use Rattle.aig_select.specs.declared.shown.Shown.{Shown}
use Rattle.aig_select.specs.Parts.Plan.{gate_marks, shown_by}
use Rattle.aig_select.specs.Selection.{input_marks, latch_marks, moved_symbols, selected, selected_place}
use Rattle.aig_select.specs.Staying.{staying}
use Rattle.aig_select.proofs.Lists.{filter_is}

-- a circuit with these parts
abbrev put : Shown → List ℕ → List Latch → List Gate → List Symbol → Circuit → Circuit
put shown inputs latches gates symbols c = record c {
  inputs = inputs;
  latches = latches;
  outputs = shown.outputs;
  bad = shown.bad;
  justice = shown.justice;
  fairness = shown.fairness;
  gates = gates;
  symbols = symbols;
  comment = None;
}

module _ (choice : Choice) (keeps : ℕ → Bool) (c : Circuit) where
  pub put_is : (shown : Shown) (inputs latches gates : List Bool) (symbols : List Symbol) → shown ≡ shown_by choice c
      → inputs ≡ input_marks keeps c → latches ≡ latch_marks keeps c → gates ≡ gate_marks keeps c
      → symbols ≡ moved_symbols (selected_place choice keeps c) c.symbols
      → put shown (staying inputs c.inputs) (staying latches c.latches) (staying gates c.gates) symbols c
      ≡ selected choice keeps c
  put_is shown inputs latches gates symbols of_shown of_inputs of_latches of_gates of_symbols =
      let s : Shown = shown_by choice c in
      let ls : List Latch = staying latches c.latches in
      let gs : List Gate = staying gates c.gates in
      ap (λ (x : Shown). put x (staying inputs c.inputs) ls gs symbols c) of_shown
      ∙ ap (λ (x : List ℕ). put s x ls gs symbols c)
      (ap (λ (ms : List Bool). staying ms c.inputs) of_inputs ∙ sym (filter_is keeps c.inputs))
      ∙ ap (λ (x : List Latch). put s (selected choice keeps c).inputs x gs symbols c)
      (ap (λ (ms : List Bool). staying ms c.latches) of_latches
      ∙ sym (filter_is (λ (l : Latch). keeps l.var) c.latches))
      ∙ ap (λ (x : List Gate). put s (selected choice keeps c).inputs (selected choice keeps c).latches x symbols c)
      (ap (λ (ms : List Bool). staying ms c.gates) of_gates ∙ sym (filter_is (λ (g : Gate). keeps g.var) c.gates))
      ∙ ap (λ (x : List Symbol). put s (selected choice keeps c).inputs (selected choice keeps c).latches
      (selected choice keeps c).gates x c) of_symbols
