-- What is kept of gates by variables and new places tells all that is recorded of them.
use Rattle.std.proofs.Common.{◌≡◌, ◌∙◌, ◌/◌, ◌%◌, ◌==◌, ◌<◌, ◌≤◌, ℕ, List, [], ◌∷◌, Bool, true, false, ap₂, arith}
use Rattle.std.proofs.Common.{get_or, length, map, refl, rules, sym}
use Rattle.std.specs.List.{AllByRecursion}
use Rattle.std.proofs.lemmas.Simd.{get_or-zip2, length-zip2, map-map}
use Rattle.aig_circuit.specs.declared.circuit.Gate.{Gate}
use Rattle.aig_circuit.specs.declared.circuit.TheConstants.{LARGEST}
use Rattle.aig_image.specs.Relabelled.{FitIntoLiterals, relabelled_gate}
use Rattle.aig_map.specs.MapBlock.{mapped_gate}
use Rattle.aig_map.specs.Parts.NewPlace.{gate_recorded, gates_recorded, new_place_of, new_place_by, new_place}

place_recorded : (place : ℕ) (exchanged : Bool) → new_place place exchanged / 2 ≡ place
place_recorded place true = omega arith
place_recorded place false = omega arith

exchange_recorded : (place : ℕ) (exchanged : Bool) → (new_place place exchanged % 2 == 1) ≡ exchanged
exchange_recorded place true = grind arith
exchange_recorded place false = grind arith

told : (f : ℕ → ℕ) (first : ℕ) (g : Gate) → gate_recorded g.var (new_place_by f first g) ≡ mapped_gate f first g
told f first g = search (rules, place_recorded, exchange_recorded)

all_recorded : (f : ℕ → ℕ) (first : ℕ) (gates : List Gate)
    → gates_recorded (map (λ (g : Gate). g.var) gates) (map (new_place_by f first) gates)
    ≡ map (mapped_gate f first) gates
all_recorded f first [] = refl
all_recorded f first (g ∷ gates) = ap₂ (λ m ms. m ∷ ms) (told f first g) (all_recorded f first gates)

-- the variables that gates had, and their new places by what variables become
pub kept_recorded : (f : ℕ → ℕ) (first : ℕ) (gates : List Gate) (variables new_places : List ℕ)
    → variables ≡ map (λ (g : Gate). g.var) gates → new_places ≡ map (new_place_by f first) gates
    → gates_recorded variables new_places ≡ map (mapped_gate f first) gates
kept_recorded f first gates variables new_places variables_are places_are =
    rw (variables_are, places_are) (all_recorded f first gates)

-- these new places are those by what the gates became
pub places_by_new : (f : ℕ → ℕ) (first : ℕ) (gates : List Gate)
    → map (new_place_of first) (map (relabelled_gate f) gates) ≡ map (new_place_by f first) gates
places_by_new f first gates = map-map (new_place_of first) (relabelled_gate f) gates

-- whose numbers are small
pub fit_by : (f : ℕ → ℕ) → FitIntoLiterals f → (gates : List Gate)
    → AllByRecursion (λ (g : Gate). g.var ≤ LARGEST) (map (relabelled_gate f) gates)
fit_by f small [] = tt
fit_by f small (g ∷ gates) = (small g.var, fit_by f small gates)

pub as_many_recorded : (variables new_places : List ℕ) → length new_places ≡ length variables
    → length (gates_recorded variables new_places) ≡ length variables
as_many_recorded variables new_places many = search (rules, length-zip2)

pub told_at : (variables new_places : List ℕ) (k var new : ℕ) → length new_places ≡ length variables
    → k < length new_places → var ≡ get_or variables k var → new ≡ get_or new_places k new
    → gate_recorded var new ≡ get_or (gates_recorded variables new_places) k (gate_recorded var new)
told_at variables new_places k var new many low var_is new_is =
    ap₂ gate_recorded var_is new_is
    ∙ sym (get_or-zip2 gate_recorded variables new_places k var new (gate_recorded var new) (omega arith) low)
