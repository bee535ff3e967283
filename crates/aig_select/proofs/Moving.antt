-- Symbols that are moved one after the other.
use Rattle.std.proofs.Common.{◌≡◌, ◌∷◌, ◌++◌, ◌∙◌, ℕ, List, [], Option, sym, ap, append_assoc}
use Rattle.std.proofs.lemmas.List.Elements.{filter_map-append}
use Rattle.aig_circuit.specs.declared.circuit.Kind.{Kind}
use Rattle.aig_circuit.specs.declared.circuit.Symbol.{Symbol}
use Rattle.aig_select.specs.Selection.{moved_symbol, moved_symbols}

pub moved_on : (place : Kind → ℕ → Option ℕ) (s : Symbol) (before rest moved after all : List Symbol)
    → before ≡ s ∷ rest → moved ++ moved_symbols place before ≡ all
    → after ≡ moved ++ moved_symbols place (s ∷ []) → after ++ moved_symbols place rest ≡ all
moved_on place s before rest moved after all is so more =
    ap (λ (ss : List Symbol). ss ++ moved_symbols place rest) more
    ∙ append_assoc moved (moved_symbols place (s ∷ [])) (moved_symbols place rest)
    ∙ ap (λ (ss : List Symbol). moved ++ ss) (sym (filter_map-append (moved_symbol place) (s ∷ []) rest))
    ∙ ap (λ (ss : List Symbol). moved ++ moved_symbols place ss) (sym is) ∙ so
