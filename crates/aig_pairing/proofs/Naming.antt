-- Names as symbols give them: as many as the things that they are for.
use Rattle.std.proofs.Common.{◌≡◌, ◌∙◌, ◌∷◌, ℕ, List, [], None, Option, Some, fold, length, length-set, refl, slice_set}
use Rattle.std.specs.Option.{option_map_or}
use Rattle.std.proofs.lemmas.List.{length-replicate}
use Rattle.aig_circuit.specs.declared.circuit.Circuit.{Circuit}
use Rattle.aig_circuit.specs.declared.circuit.Symbol.{Symbol}
use Rattle.aig_pairing.specs.declared.paired.Paired.{Paired}
use Rattle.aig_pairing.specs.declared.paired.Paired.TheVariants.{Inputs, Compared}
use Rattle.aig_pairing.specs.Names.{Name, compared, compared_names, input_names, named, names_by, place_among}

named_once : (place : Option ℕ) (names : List Name) (name : List ℕ)
    → length (option_map_or (λ p. slice_set names p (Some name)) place names) ≡ length names
named_once None names name = refl
named_once (Some p) names name = length-set names p (Some name)

named_all : (paired : Paired) (names : List Name) (symbols : List Symbol)
    → length (fold (named paired) names symbols) ≡ length names
named_all paired names [] = refl
named_all paired names (s ∷ ss) =
    named_all paired (named paired names s) ss ∙ named_once (place_among paired s.kind s.position) names s.name

pub length-names_by : (paired : Paired) (count : ℕ) (symbols : List Symbol)
    → length (names_by paired count symbols) ≡ count
length-names_by paired count symbols = named_all paired _ symbols ∙ length-replicate count None

pub length-input_names : (c : Circuit) → length (input_names c) ≡ length c.inputs
length-input_names c = length-names_by Inputs (length c.inputs) c.symbols

pub length-compared_names : (c : Circuit) → length (compared_names c) ≡ length (compared c)
length-compared_names c = length-names_by (Compared (length c.outputs)) (length (compared c)) c.symbols
