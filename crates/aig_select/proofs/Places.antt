-- New positions are below the new counts, and no two are one; so names stay good.
use Rattle.std.proofs.Common.{◌≡◌, ◌+◌, ◌<◌, ◌≤◌, ◌∷◌, ◌∙◌, ℕ, zero, suc, List, [], length, Bool, true, false}
use Rattle.std.proofs.Common.{Option, None, Some, get_or, refl, sym, ap, subst, arith}
use Rattle.std.specs.List.{AllByRecursion, cons_option}
use Rattle.std.specs.Option.{option_map}
use Rattle.aig_circuit.specs.declared.circuit.Kind.{Kind}
use Rattle.aig_circuit.specs.declared.circuit.Symbol.{Symbol}
use Rattle.aig_circuit.specs.declared.circuit.Circuit.{Circuit}
use Rattle.aig_circuit.specs.Wellformed.{HasGoodSymbols, IsAmong, NameApart, NameTheSame, count_of, line_feed}
use Rattle.aig_select.specs.Staying.{numbered, staying}
use Rattle.aig_select.specs.Selection.{moved_symbols}

pub none_is_some : {T : Type 0} (q : ℕ) → None ≡ Some q → T
none_is_some q e = absurd (cc)

pub some_is : (p q : ℕ) → Some p ≡ Some q → p ≡ q
some_is p q e = cc

-- a new position is one from the first on
pub place_least : (next : ℕ) (ms : List Bool) (p q : ℕ) → get_or (numbered next ms) p None ≡ Some q → next ≤ q
place_least next [] p q e = none_is_some q e
place_least next (true ∷ ms) zero q e = omega (arith, some_is next q e)
place_least next (true ∷ ms) (suc p) q e = omega (arith, place_least (suc next) ms p q e)
place_least next (false ∷ ms) zero q e = none_is_some q e
place_least next (false ∷ ms) (suc p) q e = place_least next ms p q e

-- and below as many as stay
pub place_below : {X : Type 0} (next : ℕ) (ms : List Bool) (xs : List X) (p q : ℕ)
    → get_or (numbered next ms) p None ≡ Some q → p < length xs → q < next + length (staying ms xs)
place_below next [] xs p q e below = none_is_some q e
place_below next (m ∷ ms) [] p q e below = absurd (omega (arith, below))
place_below next (true ∷ ms) (x ∷ xs) zero q e below = omega (arith, some_is next q e)
place_below next (true ∷ ms) (x ∷ xs) (suc p) q e below =
    omega (arith, place_below (suc next) ms xs p q e (omega (arith, below)))
place_below next (false ∷ ms) (x ∷ xs) zero q e below = none_is_some q e
place_below next (false ∷ ms) (x ∷ xs) (suc p) q e below = place_below next ms xs p q e (omega (arith, below))

-- two positions get no new one in common
pub place_apart : (next : ℕ) (ms : List Bool) (p r q : ℕ) → get_or (numbered next ms) p None ≡ Some q
    → get_or (numbered next ms) r None ≡ Some q → p ≡ r
place_apart next [] p r q e f = none_is_some q e
place_apart next (true ∷ ms) zero zero q e f = refl
place_apart next (true ∷ ms) zero (suc r) q e f =
    absurd (omega (arith, some_is next q e, place_least (suc next) ms r q f))
place_apart next (true ∷ ms) (suc p) zero q e f =
    absurd (omega (arith, some_is next q f, place_least (suc next) ms p q e))
place_apart next (true ∷ ms) (suc p) (suc r) q e f = ap suc (place_apart (suc next) ms p r q e f)
place_apart next (false ∷ ms) zero r q e f = none_is_some q e
place_apart next (false ∷ ms) (suc p) zero q e f = none_is_some q f
place_apart next (false ∷ ms) (suc p) (suc r) q e f = ap suc (place_apart next ms p r q e f)

-- a symbol at another position
abbrev pub at_place : Symbol → ℕ → Symbol
at_place s q = record { kind = s.kind; position = q; name = s.name }

module _ (place : Kind → ℕ → Option ℕ) where
  -- with what is known of a symbol's new position
  one_more : (P : Symbol → Type 0) (o : Option ℕ) (s : Symbol) (left : List Symbol)
      → ((q : ℕ) → o ≡ Some q → P (at_place s q)) → AllByRecursion P left
      → AllByRecursion P (cons_option (option_map (at_place s) o) left)
  one_more P None s left here all = all
  one_more P (Some q) s left here all = (here q refl, all)

  pub all_moved : (P Q : Symbol → Type 0)
      → ((s : Symbol) (q : ℕ) → place s.kind s.position ≡ Some q → P s → Q (at_place s q))
      → (ss : List Symbol) → AllByRecursion P ss → AllByRecursion Q (moved_symbols place ss)
  all_moved P Q moves [] all = tt
  all_moved P Q moves (s ∷ ss) all =
      one_more Q (place s.kind s.position) s (moved_symbols place ss) (λ q e. moves s q e all.0)
      (all_moved P Q moves ss all.1)

  apart_more : (o : Option ℕ) (s : Symbol) (left : List Symbol)
      → ((q : ℕ) → o ≡ Some q → AllByRecursion (λ (t : Symbol). ¬ NameTheSame (at_place s q) t) left)
      → NameApart left → NameApart (cons_option (option_map (at_place s) o) left)
  apart_more None s left here apart = apart
  apart_more (Some q) s left here apart = (here q refl, apart)

  pub moved_apart : ((k : Kind) (p r q : ℕ) → place k p ≡ Some q → place k r ≡ Some q → p ≡ r) → (ss : List Symbol)
      → NameApart ss → NameApart (moved_symbols place ss)
  moved_apart one [] apart = tt
  moved_apart one (s ∷ ss) apart =
      apart_more (place s.kind s.position) s (moved_symbols place ss)
      (λ q e. all_moved (λ (t : Symbol). ¬ NameTheSame s t) (λ (t : Symbol). ¬ NameTheSame (at_place s q) t)
      (λ t r f other same. other (
        same.0,
        one t.kind s.position t.position q (subst (λ (k : Kind). place k s.position ≡ Some q) same.0 e)
            (f ∙ ap (λ (n : ℕ). Some n) (sym same.1)),
      )) ss apart.0)
      (moved_apart one ss apart.1)

-- names stay good where new positions are below the new counts, and no two are one
pub symbols_stay : (place : Kind → ℕ → Option ℕ) (c d : Circuit)
    → ((k : Kind) (p q : ℕ) → place k p ≡ Some q → p < count_of c k → q < count_of d k)
    → ((k : Kind) (p r q : ℕ) → place k p ≡ Some q → place k r ≡ Some q → p ≡ r)
    → d.symbols ≡ moved_symbols place c.symbols → HasGoodSymbols c → HasGoodSymbols d
symbols_stay place c d below one is good = record {
  positions = subst (AllByRecursion (λ (s : Symbol). s.position < count_of d s.kind)) (sym is)
      (all_moved place (λ (s : Symbol). s.position < count_of c s.kind)
      (λ (s : Symbol). s.position < count_of d s.kind) (λ s q e low. below s.kind s.position q e low) c.symbols
      good.positions);
  apart = subst NameApart (sym is) (moved_apart place one c.symbols good.apart);
  lines = subst (AllByRecursion (λ (s : Symbol). ¬ IsAmong line_feed s.name)) (sym is)
      (all_moved place (λ (s : Symbol). ¬ IsAmong line_feed s.name) (λ (s : Symbol). ¬ IsAmong line_feed s.name)
      (λ s q e line. line) c.symbols good.lines);
}
