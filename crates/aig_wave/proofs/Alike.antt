-- Circuits that show the same.
use Rattle.std.proofs.Common.{◌≡◌, ◌==◌, ◌+◌, ◌∙◌, ◌∷◌, ◌++◌, if◌then◌else◌, ℕ, List, [], Bool, fold, length, map}
use Rattle.std.proofs.Common.{replicate, codes, refl, sym, ap, ap₂, arith, flat_map}
use Rattle.std.specs.List.{AllByRecursion}
use Rattle.std.proofs.lemmas.List.{length-map}
use Rattle.aig_circuit.specs.declared.circuit.Circuit.{Circuit}
use Rattle.aig_circuit.specs.declared.circuit.Kind.{Kind}
use Rattle.aig_circuit.specs.declared.circuit.Kind.TheVariants.{Input, Latch, Output, Bad, Constraint}
use Rattle.aig_circuit.specs.declared.circuit.Latch.{Latch as LatchRecord}
use Rattle.aig_circuit.specs.declared.circuit.Symbol.{Symbol}
use Rattle.aig_circuit.specs.Wellformed.{count_of}
use Rattle.aig_meaning.specs.Trace.{reset_state, reset_value}
use Rattle.aig_step.specs.TraceText.{values_text}
use Rattle.aig_wave.specs.declared.signal.Signal.{Signal}
use Rattle.aig_wave.specs.Frames.{frames_of}
use Rattle.aig_wave.specs.Head.{closing, opening, scope, scope_text, var_text}
use Rattle.aig_wave.specs.Laws.{ShowTheSame}
use Rattle.aig_wave.specs.Layout.{Layout, layout_of}
use Rattle.aig_wave.specs.Names.{follows}
use Rattle.aig_wave.specs.Places.{kinds, next_place, place, width}
use Rattle.aig_wave.specs.Signals.{followers, named, names_of, signals_behind, signals_of}
use Rattle.aig_wave.specs.Wave.{dump, wave_text}

-- what is shown of a kind
record AreAlike (c d : Circuit) (kind : Kind) : Type 0 where
  names : names_of d kind ≡ names_of c kind
  place : place d kind ≡ place c kind

names_alike : (c d : Circuit) (kind : Kind) → d.symbols ≡ c.symbols → count_of d kind ≡ count_of c kind
    → names_of d kind ≡ names_of c kind
names_alike c d kind symbols count =
    ap₂ (λ (n : ℕ) (ss : List Symbol). fold (named kind) (replicate n []) ss) count symbols

signals_alike : (c d : Circuit) (kind : Kind) → place d kind ≡ place c kind → (p : ℕ) (before : List ℕ)
    (ns : List (List ℕ)) → signals_behind d kind p before ns ≡ signals_behind c kind p before ns
signals_alike c d kind same p before [] = refl
signals_alike c d kind same p before (n ∷ ns) =
    ap₂ (λ (start : ℕ) (rest : List Signal).
    (if follows before n then []
    else record { kind = kind; first = p; size = 1 + followers n ns; start = start + p } ∷ []) ++ rest)
    same (signals_alike c d kind same (p + 1) n ns)

all_signals : (c d : Circuit) (kind : Kind) → AreAlike c d kind → signals_of d kind ≡ signals_of c kind
all_signals c d kind a =
    signals_alike c d kind a.place 0 [] (names_of d kind) ∙ ap (signals_behind c kind 0 []) a.names

scopes_alike : (c d : Circuit) (kind : Kind) → AreAlike c d kind → scope_text d kind ≡ scope_text c kind
scopes_alike c d kind a =
    ap₂ (λ (names : List (List ℕ)) (signals : List Signal). if length names == 0 then []
    else scope kind ++ (flat_map (var_text names) signals ++ codes "$upscope $end\n")) a.names (all_signals c d kind a)

pub each_same : {X A : Type 0} (f g : X → List A) (xs : List X) → AllByRecursion (λ x. f x ≡ g x) xs
    → flat_map f xs ≡ flat_map g xs
each_same f g [] all = refl
each_same f g (x ∷ xs) all = ap₂ (λ (a b : List _). a ++ b) all.0 (each_same f g xs all.1)

as_many : (c d : Circuit) → ShowTheSame c d → length d.latches ≡ length c.latches
as_many c d same =
    sym (length-map d.latches (λ (l : LatchRecord). l.reset)) ∙ ap length same.resets
    ∙ length-map c.latches (λ (l : LatchRecord). l.reset)

values_of_resets : (ls : List LatchRecord)
    → map (λ (l : LatchRecord). reset_value l.reset) ls ≡ map reset_value (map (λ (l : LatchRecord). l.reset) ls)
values_of_resets [] = refl
values_of_resets (l ∷ ls) = ap (λ vs. reset_value l.reset ∷ vs) (values_of_resets ls)

module _ (c d : Circuit) (same : ShowTheSame c d) where
  latches : length d.latches ≡ length c.latches
  latches = as_many c d same

  alike : (kind : Kind) → count_of d kind ≡ count_of c kind → place d kind ≡ place c kind → AreAlike c d kind
  alike kind count places = record { names = names_alike c d kind same.symbols count; place = places }

  input : AreAlike c d Input
  input = alike Input same.inputs (omega (arith, latches))

  latch : AreAlike c d Latch
  latch = alike Latch latches refl

  output : AreAlike c d Output
  output = alike Output same.outputs (omega (arith, latches, same.inputs))

  bad : AreAlike c d Bad
  bad = alike Bad same.bad (omega (arith, latches, same.inputs, same.outputs))

  constraint : AreAlike c d Constraint
  constraint = alike Constraint same.constraints (omega (arith, latches, same.inputs, same.outputs, same.bad))

  layouts_alike : layout_of d ≡ layout_of c
  layouts_alike =
      let scopes : flat_map (scope_text d) kinds ≡ flat_map (scope_text c) kinds =
      each_same (scope_text d) (scope_text c) kinds (
        scopes_alike c d Input input,
        (
          scopes_alike c d Latch latch,
          (
            scopes_alike c d Output output,
            (scopes_alike c d Bad bad, (scopes_alike c d Constraint constraint, tt)),
          ),
        ),
      ) in
      let signals : flat_map (signals_of d) kinds ≡ flat_map (signals_of c) kinds =
      each_same (signals_of d) (signals_of c) kinds (
        all_signals c d Input input,
        (
          all_signals c d Latch latch,
          (
            all_signals c d Output output,
            (all_signals c d Bad bad, (all_signals c d Constraint constraint, tt)),
          ),
        ),
      ) in
      let resets : values_text (reset_state d) ≡ values_text (reset_state c) =
      ap values_text
      (values_of_resets d.latches ∙ ap (map reset_value) same.resets ∙ sym (values_of_resets c.latches)) in
      let nexts : next_place d ≡ next_place c = omega (arith, latches, same.inputs, same.outputs) in
      let widths : width d ≡ width c =
      omega (arith, latches, same.inputs, same.outputs, same.bad, same.constraints) in
      λ i. record {
        head = opening ++ (scopes i ++ closing);
        signals = signals i;
        resets = resets i;
        next = nexts i;
        width = widths i;
      }

  pub same_wave : (text : List ℕ) (done : Bool) → wave_text d text done ≡ wave_text c text done
  same_wave text done = ap (λ (w : Layout). dump w (frames_of w text) done) layouts_alike
