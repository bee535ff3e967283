-- The names of a well-formed circuit are those that its symbols give.
use Rattle.std.proofs.Common.{◌≡◌, ◌≢◌, ◌+◌, ◌-◌, ◌<◌, ◌≤◌, ◌∙◌, ◌∷◌, ◌⊎◌, ℕ, Bool, List, [], None, Option, Some, arith}
use Rattle.std.proofs.Common.{length-take}
use Rattle.std.proofs.Common.{ap, cond, eqb, false, fold, get_or, inl, inr, length, length-append, length-set}
use Rattle.std.proofs.Common.{length-take, ltb, refl}
use Rattle.std.proofs.Common.{replicate, rules, slice_set, subst, suc, sym, true, zero, ⊎_elim}
use Rattle.std.specs.List.{AllByRecursion, Contains}
use Rattle.std.specs.Option.{option_map_or}
use Rattle.std.proofs.lemmas.Bool.{cases_lt}
use Rattle.std.proofs.lemmas.Bool.Decides.{Decides-ltb, eqb_tells}
use Rattle.std.proofs.lemmas.List.{get_or-drop, get_or-replicate, get_or-set_other, get_or-set_same, get_or-take}
use Rattle.std.proofs.lemmas.List.{get_or_past, length-replicate}
use Rattle.aig_circuit.specs.declared.circuit.Circuit.{Circuit}
use Rattle.aig_circuit.specs.declared.circuit.Kind.{Kind}
use Rattle.aig_circuit.specs.declared.circuit.Kind.TheVariants as kinds
use Rattle.aig_circuit.specs.declared.circuit.Symbol.{Symbol}
use Rattle.aig_circuit.specs.Wellformed.{IsWellFormed, NameApart, NameTheSame, count_of}
use Rattle.aig_pairing.specs.declared.paired.Paired.{Paired}
use Rattle.aig_pairing.specs.declared.paired.Paired.TheVariants.{Compared, Inputs}
use Rattle.aig_pairing.specs.ByNames.{bad_names, output_names}
use Rattle.aig_pairing.specs.Laws.{GivesName, NamesAreOfSymbols}
use Rattle.aig_pairing.specs.Names.{Name, compared, compared_names, input_names, named, names_by, place_among}

-- one name that is given
abbrev given : Option ℕ → List Name → List ℕ → List Name
given o names own = option_map_or (λ p. slice_set names p (Some own)) o names

length-given : (o : Option ℕ) (names : List Name) (own : List ℕ) → length (given o names own) ≡ length names
length-given None names own = refl
length-given (Some p) names own = length-set names p (Some own)

-- a name that is there was there, or is the one that is given
set_there : (p : ℕ) (names : List Name) (own name : List ℕ) (i : ℕ) → p ≡ i
    → get_or (slice_set names p (Some own)) i None ≡ Some name → own ≡ name
set_there p names own name i same is =
    ⊎_elim (λ (low : p < length names).
    let here : get_or (slice_set names p (Some own)) i None ≡ Some own =
    ap (λ (k : ℕ). get_or (slice_set names p (Some own)) k None) (sym same)
    ∙ get_or-set_same names p (Some own) None low in
    cc)
    (λ (past : length names ≤ p).
    let none : get_or (slice_set names p (Some own)) i None ≡ None =
    get_or_past (slice_set names p (Some own)) i None (omega (arith, past, same, length-set names p (Some own))) in
    absurd (cc))
    (cases_lt p (length names))

given_there : (o : Option ℕ) (names : List Name) (own name : List ℕ) (i : ℕ)
    → get_or (given o names own) i None ≡ Some name
    → (get_or names i None ≡ Some name) ⊎ ((o ≡ Some i) × (own ≡ name))
given_there None names own name i is = inl is
given_there (Some p) names own name i is =
    ⊎_elim (λ (t : (eqb p i ≡ true) × (p ≡ i)). inr (ap Some t.1, set_there p names own name i t.1 is))
    (λ (f : (eqb p i ≡ false) × (p ≢ i)). inl (
    sym (get_or-set_other names p i (Some own) None (λ e. f.1 (sym e))) ∙ is))
    (eqb_tells p i)

given_elsewhere : (o : Option ℕ) (names : List Name) (own : List ℕ) (i : ℕ) → o ≢ Some i
    → get_or (given o names own) i None ≡ get_or names i None
given_elsewhere None names own i apart = refl
given_elsewhere (Some p) names own i apart =
    get_or-set_other names p i (Some own) None (λ e. apart (ap Some (sym e)))

given_here : (o : Option ℕ) (names : List Name) (own : List ℕ) (i : ℕ) → o ≡ Some i → i < length names
    → get_or (given o names own) i None ≡ Some own
given_here o names own i is low =
    ap (λ (p : Option ℕ). get_or (given p names own) i None) is ∙ get_or-set_same names i (Some own) None low

-- a symbol of a list
within : (P : Symbol → Type 0) (ss : List Symbol) (k : ℕ) (s : Symbol) → k < length ss → get_or ss k s ≡ s
    → AllByRecursion P ss → P s
within P [] k s low is all = absurd (omega (arith, low))
within P (t ∷ ts) zero s low is all = subst P is all.0
within P (t ∷ ts) (suc k) s low is all = within P ts k s (omega (arith, low)) is all.1

some_not_none : (name : List ℕ) → Some name ≢ None
some_not_none name is = absurd (cc)

none_before : (count i : ℕ) (name : List ℕ) → get_or (replicate count None) i None ≡ Some name → ⊥
none_before count i name is =
    ⊎_elim (λ (low : i < count).
    let e : get_or (replicate count None) i None ≡ None = get_or-replicate count i None None low in
    some_not_none name (sym is ∙ e))
    (λ (past : count ≤ i).
    let e : get_or (replicate count None) i None ≡ None =
    let n : Name = None in
    get_or_past (replicate count n) i n (omega (arith, past, length-replicate count n)) in
    some_not_none name (sym is ∙ e))
    (cases_lt i count)

same_symbol : (s t : Symbol) → s.kind ≡ t.kind → s.position ≡ t.position → s.name ≡ t.name → s ≡ t
same_symbol s t of_kind of_position of_name = search rules

module _ (paired : Paired) (back : ℕ → Kind × ℕ) (Fits : Symbol → Type 0)
    (is_back : (s : Symbol) (i : ℕ) → Fits s → place_among paired s.kind s.position ≡ Some i
    → (s.kind ≡ (back i).0) × (s.position ≡ (back i).1)) where
  abbrev place : Symbol → Option ℕ
  place s = place_among paired s.kind s.position

  -- each name has come from a symbol, or was there
  all_there : (names : List Name) (ss : List Symbol) (i : ℕ) (name : List ℕ)
      → get_or (fold (named paired) names ss) i None ≡ Some name
      → (get_or names i None ≡ Some name)
      ⊎ ((s : Symbol) × Contains ss s × (place s ≡ Some i) × (s.name ≡ name))
  all_there names [] i name is = inl is
  all_there names (s ∷ ss) i name is =
      ⊎_elim
      (λ (e : get_or (named paired names s) i None ≡ Some name).
      ⊎_elim (λ (was : get_or names i None ≡ Some name). inl was)
      (λ (here : (place s ≡ Some i) × (s.name ≡ name)).
      inr (s, (zero, omega arith, refl), here.0, here.1))
      (given_there (place s) names s.name name i e))
      (λ (later : (t : Symbol) × Contains ss t × (place t ≡ Some i) × (t.name ≡ name)).
      let at = later.1 in inr (later.0, (suc at.0, omega (arith, at.1), at.2), later.2, later.3))
      (all_there (named paired names s) ss i name is)

  -- what no symbol names stays
  stays : (names : List Name) (ss : List Symbol) (i : ℕ) → AllByRecursion (λ t. place t ≢ Some i) ss
      → get_or (fold (named paired) names ss) i None ≡ get_or names i None
  stays names [] i apart = refl
  stays names (s ∷ ss) i apart =
      stays (named paired names s) ss i apart.1 ∙ given_elsewhere (place s) names s.name i apart.0

  others_apart : (s : Symbol) (i : ℕ) → Fits s → place s ≡ Some i → (ss : List Symbol) → AllByRecursion Fits ss
      → AllByRecursion (λ t. ¬ NameTheSame s t) ss → AllByRecursion (λ t. place t ≢ Some i) ss
  others_apart s i fits is [] fit apart = tt
  others_apart s i fits is (t ∷ ts) fit apart = (
    λ e.
        let here = is_back s i fits is in
        let there = is_back t i fit.0 e in
        apart.0 (here.0 ∙ sym there.0, here.1 ∙ sym there.1),
    others_apart s i fits is ts fit.1 apart.1,
  )

  -- a symbol's name is there
  is_given : (names : List Name) (ss : List Symbol) (k i : ℕ) (s : Symbol) → k < length ss → get_or ss k s ≡ s
      → place s ≡ Some i → i < length names → AllByRecursion Fits ss → NameApart ss
      → get_or (fold (named paired) names ss) i None ≡ Some s.name
  is_given names [] k i s low is at inside fit apart = absurd (omega (arith, low))
  is_given names (t ∷ ts) zero i s low is at inside fit apart =
      let there : place t ≡ Some i = ap place is ∙ at in
      stays (named paired names t) ts i (others_apart t i fit.0 there ts fit.1 apart.0)
      ∙ given_here (place t) names t.name i there inside ∙ ap (λ (u : Symbol). Some u.name) is
  is_given names (t ∷ ts) (suc k) i s low is at inside fit apart =
      is_given (named paired names t) ts k i s (omega (arith, low)) is at
      (omega (arith, inside, length-given (place t) names t.name)) fit.1 apart.1

  module _ (count : ℕ) (ss : List Symbol) (fit : AllByRecursion Fits ss) (apart : NameApart ss) where
    named_there : (i : ℕ) (name : List ℕ) → get_or (names_by paired count ss) i None ≡ Some name
        → Contains ss (record { kind = (back i).0; position = (back i).1; name = name })
    named_there i name is =
        ⊎_elim
        (λ (was : get_or (replicate count None) i None ≡ Some name). absurd (none_before count i name was))
        (λ (r : (s : Symbol) × Contains ss s × (place s ≡ Some i) × (s.name ≡ name)).
        let s = r.0 in
        let at = r.1 in
        let b = is_back s i (within Fits ss at.0 s at.1 at.2 fit) r.2 in
        subst (Contains ss) (same_symbol s _ b.0 b.1 r.3) r.1)
        (all_there (replicate count None) ss i name is)

    named_from : (i : ℕ) (s : Symbol) → Contains ss s → place s ≡ Some i → i < count
        → get_or (names_by paired count ss) i None ≡ Some s.name
    named_from i s contains at low =
        is_given (replicate count None) ss contains.0 i s contains.1 contains.2 at
        (let n : Name = None in omega (arith, low, length-replicate count n)) fit apart

-- What symbols are for, by where it stands.

input_at : (kind : Kind) (position i : ℕ) → place_among Inputs kind position ≡ Some i
    → (kind ≡ kinds.Input) × (position ≡ i)
input_at kinds.Input position i is = (refl, cc)
input_at kind position i is = absurd (cc)

inputs_back : (s : Symbol) (i : ℕ) → place_among Inputs s.kind s.position ≡ Some i
    → (s.kind ≡ kinds.Input) × (s.position ≡ i)
inputs_back s i is = input_at s.kind s.position i is

abbrev compared_at : ℕ → ℕ → Kind × ℕ
compared_at outputs i = cond (ltb i outputs) (kinds.Output, i) (kinds.Bad, i - outputs)

at_false : (t : Bool) (x y : Kind × ℕ) → (t ≡ true → ⊥) → cond t x y ≡ y
at_false true x y differs = absurd (differs refl)
at_false false x y differs = refl

output_at : (outputs i : ℕ) → i < outputs → compared_at outputs i ≡ (kinds.Output, i)
output_at outputs i low =
    ap (λ (t : Bool). cond t (kinds.Output, i) (kinds.Bad, i - outputs)) ((Decides-ltb i outputs).1 low)

bad_at : (outputs i : ℕ) → compared_at outputs (outputs + i) ≡ (kinds.Bad, i)
bad_at outputs i =
    at_false (ltb (outputs + i) outputs) _ _
    (λ e. let low : outputs + i < outputs = (Decides-ltb (outputs + i) outputs).0 e in omega (arith, low))
    ∙ ap (λ (n : ℕ). (kinds.Bad, n)) (omega arith)

same_back : (q : Kind × ℕ) (kind : Kind) (position : ℕ) → q ≡ (kind, position)
    → (kind ≡ q.0) × (position ≡ q.1)
same_back q kind position is = (sym (ap (λ (r : Kind × ℕ). r.0) is), sym (ap (λ (r : Kind × ℕ). r.1) is))

compared_is_at : (outputs : ℕ) (kind : Kind) (position i : ℕ) → (kind ≡ kinds.Output → position < outputs)
    → place_among (Compared outputs) kind position ≡ Some i
    → (kind ≡ (compared_at outputs i).0) × (position ≡ (compared_at outputs i).1)
compared_is_at outputs kinds.Output position i fits is =
    let e : position ≡ i = cc in
    same_back (compared_at outputs i) kinds.Output position
    (ap (compared_at outputs) (sym e) ∙ output_at outputs position (fits refl))
compared_is_at outputs kinds.Bad position i fits is =
    let e : outputs + position ≡ i = cc in
    same_back (compared_at outputs i) kinds.Bad position (ap (compared_at outputs) (sym e) ∙ bad_at outputs position)
compared_is_at outputs kind position i fits is = absurd (cc)

module _ (c : Circuit) (good : IsWellFormed c) where
  abbrev Fits : Symbol → Type 0
  Fits s = s.position < count_of c s.kind

  abbrev symbol : Kind → ℕ → List ℕ → Symbol
  symbol kind position name = record { kind = kind; position = position; name = name }

  fits : (kind : Kind) (position : ℕ) (name : List ℕ) → GivesName c kind position name → position < count_of c kind
  fits kind position name is =
      within Fits c.symbols is.0 (symbol kind position name) is.1 is.2 good.symbols.positions

  compared_back : (s : Symbol) (i : ℕ) → Fits s → place_among (Compared (length c.outputs)) s.kind s.position ≡ Some i
      → (s.kind ≡ (compared_at (length c.outputs) i).0) × (s.position ≡ (compared_at (length c.outputs) i).1)
  compared_back s i fit is =
      compared_is_at (length c.outputs) s.kind s.position i
      (λ e. subst (λ (kind : Kind). s.position < count_of c kind) e fit) is

  input_there : (i : ℕ) (name : List ℕ) → get_or (input_names c) i None ≡ Some name → GivesName c kinds.Input i name
  input_there i name is =
      named_there Inputs (λ n. (kinds.Input, n)) Fits (λ s n fit at. inputs_back s n at) (length c.inputs) c.symbols
      good.symbols.positions good.symbols.apart i name is

  input_from : (i : ℕ) (name : List ℕ) → GivesName c kinds.Input i name → get_or (input_names c) i None ≡ Some name
  input_from i name is =
      named_from Inputs (λ n. (kinds.Input, n)) Fits (λ s n fit at. inputs_back s n at) (length c.inputs) c.symbols
      good.symbols.positions good.symbols.apart i (symbol kinds.Input i name) is refl (fits kinds.Input i name is)

  compared_there : (i : ℕ) (kind : Kind) (position : ℕ) (name : List ℕ)
      → compared_at (length c.outputs) i ≡ (kind, position)
      → get_or (compared_names c) i None ≡ Some name → GivesName c kind position name
  compared_there i kind position name back is =
      subst (λ (q : Kind × ℕ). GivesName c q.0 q.1 name) back
      (named_there (Compared (length c.outputs)) (compared_at (length c.outputs)) Fits compared_back
      (length (compared c)) c.symbols good.symbols.positions good.symbols.apart i name is)

  compared_from : (i : ℕ) (s : Symbol) → Contains c.symbols s
      → place_among (Compared (length c.outputs)) s.kind s.position ≡ Some i → i < length (compared c)
      → get_or (compared_names c) i None ≡ Some s.name
  compared_from i s contains at low =
      named_from (Compared (length c.outputs)) (compared_at (length c.outputs)) Fits compared_back
      (length (compared c)) c.symbols good.symbols.positions good.symbols.apart i s contains at low

  output_there : (i : ℕ) (name : List ℕ) → get_or (output_names c) i None ≡ Some name → GivesName c kinds.Output i name
  output_there i name is =
      ⊎_elim (λ (low : i < length c.outputs).
      compared_there i kinds.Output i name (output_at (length c.outputs) i low)
      (sym (get_or-take (length c.outputs) (compared_names c) i None low) ∙ is))
      (λ (past : length c.outputs ≤ i).
      let none : get_or (output_names c) i None ≡ None =
      get_or_past (output_names c) i None (omega (arith, past, length-take (length c.outputs) (compared_names c))) in
      absurd (some_not_none name (sym is ∙ none)))
      (cases_lt i (length c.outputs))

  output_from : (i : ℕ) (name : List ℕ) → GivesName c kinds.Output i name → get_or (output_names c) i None ≡ Some name
  output_from i name is =
      let low : i < length c.outputs = fits kinds.Output i name is in
      get_or-take (length c.outputs) (compared_names c) i None low
      ∙ compared_from i (symbol kinds.Output i name) is refl (omega (arith, low, length-append c.outputs c.bad))

  bad_there : (i : ℕ) (name : List ℕ) → get_or (bad_names c) i None ≡ Some name → GivesName c kinds.Bad i name
  bad_there i name is =
      compared_there (length c.outputs + i) kinds.Bad i name (bad_at (length c.outputs) i)
      (sym (get_or-drop (length c.outputs) (compared_names c) i None) ∙ is)

  bad_from : (i : ℕ) (name : List ℕ) → GivesName c kinds.Bad i name → get_or (bad_names c) i None ≡ Some name
  bad_from i name is =
      let low : i < length c.bad = fits kinds.Bad i name is in
      get_or-drop (length c.outputs) (compared_names c) i None
      ∙ compared_from (length c.outputs + i) (symbol kinds.Bad i name) is refl
      (omega (arith, low, length-append c.outputs c.bad))

pub names_are_of_symbols : NamesAreOfSymbols
names_are_of_symbols c good position name = (
  (input_there c good position name, input_from c good position name),
  (output_there c good position name, output_from c good position name),
  (bad_there c good position name, bad_from c good position name),
)
